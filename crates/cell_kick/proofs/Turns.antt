-- The tasks of one leaf stand on it.
use Rattle.std.proofs.Common.{◌≡◌, ℕ, zero, suc, ◌<◌, Bool, true, false, List, length, get_or, subst, refl, sym, arith}
use Rattle.std.specs.Prelude.{None}
use Rattle.sph_num.specs.declared.kind.Kind.TheVariants.{Drift}
use Rattle.cell_block.specs.declared.scene.Scene.{Scene}
use Rattle.cell_block.specs.declared.scene.TaskLine.{TaskLine}
use Rattle.cell_block.specs.Scene.{leaf_line, line_at}
use Rattle.cell_kick.specs.inner.OneLeaf.{one_leaf_lines}

abbrev on_leaf_at : List TaskLine → ℕ → Type 0
on_leaf_at lines k = let line = get_or lines k (record { kind = Drift; first = (0, 0); second = None }) in line ≡ leaf_line line.kind 0

on_leaf_in : (drift : Bool) (k : ℕ) → k < length (one_leaf_lines drift) → on_leaf_at (one_leaf_lines drift) k
on_leaf_in true zero low = refl
on_leaf_in true (suc zero) low = refl
on_leaf_in true (suc (suc zero)) low = refl
on_leaf_in true (suc (suc (suc zero))) low = refl
on_leaf_in true (suc (suc (suc (suc zero)))) low = refl
on_leaf_in true (suc (suc (suc (suc (suc k))))) low = absurd (omega arith)
on_leaf_in false zero low = refl
on_leaf_in false (suc zero) low = refl
on_leaf_in false (suc (suc zero)) low = refl
on_leaf_in false (suc (suc (suc zero))) low = refl
on_leaf_in false (suc (suc (suc (suc k)))) low = absurd (omega arith)

pub on_one_leaf : (scene : Scene) (k : ℕ) → scene.tasks ≡ one_leaf_lines scene.drift → k < length scene.tasks → line_at scene k ≡ leaf_line (line_at scene k).kind 0
on_one_leaf scene k tasks low =
    subst (λ (lines : List TaskLine). k < length lines → on_leaf_at lines k) (sym tasks) (on_leaf_in scene.drift k) low
