-- Room for the leaves of each task.
use Rattle.std.proofs.Common.{◌≡◌, ℕ, ◌+◌, ◌-◌, ◌≤◌, length, ap, inl, inr, ◌∙◌, arith}
use Rattle.std.proofs.lemmas.Bool.{cases_eq}
use Rattle.std.proofs.lemmas.List.FromFn.{length-range_with_len}
use Rattle.qs_core.specs.Shape.{Shape}
use Rattle.qs_core.specs.Blocks.{first_leaves, second_leaves}
use Rattle.qs_core.specs.Ranges.{AreLeafRanges}
use Rattle.qs_worker.specs.inner.Rooms.{HasBlockRoomBelow}

-- room for the blocks of one task more
pub more_room : (shape : Shape) (task from to from' to' firsts seconds firsts' seconds' : ℕ) → AreLeafRanges shape task from to from' to' → HasBlockRoomBelow shape task firsts seconds
    → firsts ≤ firsts' → to - from ≤ firsts' → seconds ≤ seconds' → to' - from' ≤ seconds' → HasBlockRoomBelow shape (task + 1) firsts' seconds'
more_room shape task from to from' to' firsts seconds firsts' seconds' are room f n s n' =
    let long : length (first_leaves shape task) ≡ to - from = ap length are.leaves ∙ length-range_with_len from (to - from) in
    let long' : length (second_leaves shape task) ≡ to' - from' = ap length are.leaves' ∙ length-range_with_len from' (to' - from') in record {
      firsts_fit = λ t l. elim (cases_eq t task) [
        | inl e ↦ let same = ap (λ (k : ℕ). length (first_leaves shape k)) e in omega (arith, same, long, n)
        | inr o ↦ let fit = room.firsts_fit t (omega arith) in omega (arith, fit, f)
      ];
      seconds_fit = λ t l. elim (cases_eq t task) [
        | inl e ↦ let same = ap (λ (k : ℕ). length (second_leaves shape k)) e in omega (arith, same, long', n')
        | inr o ↦ let fit = room.seconds_fit t (omega arith) in omega (arith, fit, s)
      ];
    }
