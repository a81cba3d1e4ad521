-- The text of a generated deck, from its numbers.
use Rattle.std.specs.Prelude.{ℕ, List, [], ◌∷◌, ◌++◌, flat_map, slice_index, codes, decimal}
use Rattle.std.specs.Fmt.{signed_decimal}
use Rattle.sph_num.specs.declared.particle.Params.{Params}
use Rattle.sph_num.specs.declared.particle.Particle.{Particle as OneParticle}
use Rattle.sph_num.specs.Totals.{component}
use Rattle.sph_deck.specs.declared.key.Key.{Key}
use Rattle.sph_deck.specs.declared.key.Key.TheVariants.{Ticks, Every, BinMin, BinMax, Sound, Shift, Accuracy, Leaf, Pairs, Slack, Mass, H, X, Y, Z, Px, Py, Pz}
use Rattle.sph_deck.specs.Keys.{name_of}
use Rattle.sph_lattice.specs.Lattice.{lattice_params, lattice_particles}

-- the line of a key and the text of its value
unfoldable pub key_line : Key → List ℕ → List ℕ
key_line key value = name_of key ++ codes " = " ++ value ++ 10 ∷ []

-- the ten lines of the parameters
unfoldable pub params_lines : Params → List ℕ
params_lines params =
    key_line Ticks (decimal params.ticks)
    ++ key_line Every (decimal params.every)
    ++ key_line BinMin (decimal params.bin_min)
    ++ key_line BinMax (decimal params.bin_max)
    ++ key_line Sound (decimal params.sound)
    ++ key_line Shift (decimal params.shift)
    ++ key_line Accuracy (decimal params.accuracy)
    ++ key_line Leaf (decimal params.leaf)
    ++ key_line Pairs (decimal params.pairs)
    ++ key_line Slack (decimal params.slack)

-- the nine lines of a particle
unfoldable pub particle_lines : OneParticle → List ℕ
particle_lines particle =
    codes "[[particle]]" ++ 10 ∷ []
    ++ key_line Mass (decimal particle.mass)
    ++ key_line H (decimal particle.h)
    ++ key_line X (decimal (slice_index particle.x0 0))
    ++ key_line Y (decimal (slice_index particle.x0 1))
    ++ key_line Z (decimal (slice_index particle.x0 2))
    ++ key_line Px (signed_decimal (component particle.p 0))
    ++ key_line Py (signed_decimal (component particle.p 1))
    ++ key_line Pz (signed_decimal (component particle.p 2))

-- the whole text
abbrev pub lattice_text : ℕ → ℕ → List ℕ
lattice_text side seed = params_lines (lattice_params seed) ++ flat_map particle_lines (lattice_particles side seed)
