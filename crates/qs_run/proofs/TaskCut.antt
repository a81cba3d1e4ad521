-- How the blocks are cut into those of a task's two ranges of leaves.
use Rattle.std.proofs.Common.{◌≡◌, ℕ, ◌<◌, ◌≤◌, List, ◌++◌, length, Contains, inl, inr, subst, arith}
use Rattle.lists.proofs.Elements.{Contains-append}
use Rattle.qs_core.specs.Shape.{Shape, leaves_of}
use Rattle.qs_core.specs.Blocks.{first_leaves, second_leaves}
use Rattle.qs_core.proofs.Below.{in_range}
use Rattle.qs_core.specs.Ranges.{AreLeafRanges}
use Rattle.qs_core.proofs.TaskRanges.{touches_first, touches_second}
use Rattle.qs_run.proofs.Cut.{IsCut}
use Rattle.qs_run.proofs.Turns.{TouchesTwo}

-- the leaves that a task touches are those of its ranges
pub touches_ranges : (shape : Shape) (task from to from' to' : ℕ) → AreLeafRanges shape task from to from' to' → TouchesTwo shape task from to from' to'
unfolding leaves_of
touches_ranges shape task from to from' to' are = record {
  first = touches_first shape task from to from' to' are;
  second = touches_second shape task from to from' to' are;
  either = λ leaf t. elim ((Contains-append (first_leaves shape task) (second_leaves shape task) leaf).0 t) [
    | inl c ↦ inl ((in_range from to leaf).0 (subst (λ xs. Contains xs leaf) are.leaves c))
    | inr c ↦ inr ((in_range from' to' leaf).0 (subst (λ xs. Contains xs leaf) are.leaves' c))
  ];
}

-- blocks cut where the later of the two begins
pub cut_in_order : {B : Type 0} (shape : Shape) (task from to from' to' : ℕ) (low high blocks : List B) → AreLeafRanges shape task from to from' to' → to ≤ from' → blocks ≡ low ++ high → length low ≡ from' → length blocks ≡ shape.leaves
    → IsCut from to from' to' low high blocks
cut_in_order shape task from to from' to' low high blocks are order joined at each = record { rises = (let s = are.some in omega arith); before = order; rises' = are.rises'; within = let w = are.within' in omega arith; joined = joined; cut_at = at }

pub cut_turned : {B : Type 0} (shape : Shape) (task from to from' to' : ℕ) (low high blocks : List B) → AreLeafRanges shape task from to from' to' → from' < to → blocks ≡ low ++ high → length low ≡ from → length blocks ≡ shape.leaves
    → IsCut from' to' from to low high blocks
cut_turned shape task from to from' to' low high blocks are order joined at each =
    record { rises = are.rises'; before = elim are.apart [ inl h ↦ omega arith | inr h ↦ h ]; rises' = (let s = are.some in omega arith); within = let w = are.within in omega arith; joined = joined; cut_at = at }
