use Rattle.std.proofs.Common.{[], ◌∷◌, arith}
use Rattle.cell_tree.proofs.OnePlace.{IsPlace-corner, one_place}
use Rattle.worked.proofs.covers.keeps_few_pairs_together.Goals as goal

pub build-requires : goal.build-requires
build-requires g c =
    one_place 40 (0 ∷ 0 ∷ 0 ∷ []) 131072 16 (omega arith) (omega arith) IsPlace-corner (record { low = omega arith; high = omega arith }) (omega arith) (omega arith)
