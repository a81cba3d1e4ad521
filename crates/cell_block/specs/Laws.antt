-- Once every task of a kind that touches a leaf is done there, the sums of its due members are whole.
use Rattle.std.specs.Prelude.{◌≡◌, ℕ, ◌<◌, true, List, length, Contains}
use Rattle.sph_num.specs.declared.kind.Kind.{Kind}
use Rattle.sph_num.specs.declared.kind.Kind.TheVariants.{Density, Force}
use Rattle.sph_num.specs.Density.{density_of}
use Rattle.sph_num.specs.Force.{force_of}
use Rattle.sph_bins.specs.Kick.{density_at, force_at, ghost_at}
use Rattle.cell_block.specs.declared.scene.Scene.{Scene}
use Rattle.cell_block.specs.Content.{met}
use Rattle.cell_block.specs.Scene.{IsGoodScene, is_due_at, line_at, members_of, particle_at, place_of, touches}

-- every task of the kind that touches the leaf is done
abbrev pub AllDone : Scene → Kind → ℕ → List ℕ → Type 0
AllDone scene kind leaf done =
    (task : ℕ) → task < length scene.tasks → (line_at scene task).kind ≡ kind → touches (line_at scene task) leaf ≡ true → Contains done task

abbrev pub DensitiesAreWhole : Type 0
DensitiesAreWhole =
    (scene : Scene) (leaf : ℕ) (done : List ℕ) (i : ℕ)
    → IsGoodScene scene → AllDone scene Density leaf done → Contains (members_of scene leaf) i → is_due_at scene i ≡ true
    → density_of (place_of scene) (met scene Density done i) (particle_at scene i)
    ≡ density_at scene.params scene.tick scene.start (particle_at scene i)

abbrev pub ForcesAreWhole : Type 0
ForcesAreWhole =
    (scene : Scene) (leaf : ℕ) (done : List ℕ) (i : ℕ)
    → IsGoodScene scene → AllDone scene Force leaf done → Contains (members_of scene leaf) i → is_due_at scene i ≡ true
    → force_of (place_of scene) (ghost_at scene.params scene.tick scene.start) (met scene Force done i) (particle_at scene i)
    ≡ force_at scene.params scene.tick scene.start (particle_at scene i)
