-- A task's turn: what its parts are before and after makes it done on all blocks.
use Rattle.std.proofs.Common.{◌≡◌, ◌⊎◌, ℕ, ◌+◌, ◌-◌, ◌<◌, ◌≤◌, List, ◌++◌, length, get_or, take, sym, inl, inr, ◌∙◌, subst, arith}
use Rattle.std.specs.List.{between, range_with_len}
use Rattle.std.proofs.lemmas.List.FromFn.{get_or-range_with_len, length-range_with_len}
use borrow.Rule.Slice.PartMut.{put_mid}
use Rattle.qs_core.specs.Shape.{Shape, Touches}
use Rattle.qs_core.specs.Blocks.{AreApplied, AreApplicable, IsApplied}
use Rattle.qs_run.specs.inner.Steps.{CanDo, IsDoneOn}
use Rattle.qs_run.proofs.Cut.{IsCut, IsPart, first_written, kept_by_cut, part_of_first, part_of_second, second_written}

-- the leaves that a task touches are those of two ranges
pub record TouchesTwo (shape : Shape) (task from to from' to' : ℕ) : Type 0 where
  pub first : (leaf : ℕ) → from ≤ leaf → leaf < to → Touches shape task leaf
  pub second : (leaf : ℕ) → from' ≤ leaf → leaf < to' → Touches shape task leaf
  pub either : (leaf : ℕ) → Touches shape task leaf → ((from ≤ leaf) × (leaf < to)) ⊎ ((from' ≤ leaf) × (leaf < to'))

-- in either order
pub turned : (shape : Shape) (task from to from' to' : ℕ) → TouchesTwo shape task from to from' to' → TouchesTwo shape task from' to' from to
turned shape task from to from' to' two = record { first = two.second; second = two.first; either = λ leaf t. elim (two.either leaf t) [ inl h ↦ inr h | inr h ↦ inl h ] }

module _ {B : Type 0} (shape : Shape) (task : ℕ) (fits : ℕ → B → Type 0) (done : B → List ℕ) where
  -- the blocks of a range that the task touches are ready
  part_is_ready : (from to : ℕ) (part before : List B) → to ≤ length before → ((leaf : ℕ) → from ≤ leaf → leaf < to → Touches shape task leaf) → IsPart from to part before → CanDo shape task fits done before
      → AreApplicable shape task fits done (range_with_len from (to - from)) part
  part_is_ready from to part before few touched is can = record {
    one_each = is.long ∙ sym (length-range_with_len from (to - from));
    ready = λ k d l.
        let h : k < to - from = subst (λ n. k < n) (length-range_with_len from (to - from)) l in
        let at = get_or-range_with_len from (to - from) k 0 h in
        let same = is.at k d h in
        let many = can.one_each in
        rw (at, same) (can.ready (from + k) d (omega arith) (touched (from + k) (omega arith) (omega arith)));
  }

  pub first_is_ready : (from to mid end : ℕ) (leaves : List ℕ) (low high before : List B) → IsCut from to mid end low high before → leaves ≡ range_with_len from (to - from) → TouchesTwo shape task from to mid end
      → CanDo shape task fits done before → AreApplicable shape task fits done leaves (between from to low)
  first_is_ready from to mid end leaves low high before cut e two can =
      subst (λ ls. AreApplicable shape task fits done ls (between from to low)) (sym e)
      (part_is_ready from to (between from to low) before (let b = cut.before in let r = cut.rises' in let w = cut.within in omega arith) two.first (part_of_first from to mid end low high before cut) can)

  pub second_is_ready : (from to mid end : ℕ) (leaves : List ℕ) (low high before : List B) → IsCut from to mid end low high before → leaves ≡ range_with_len mid (end - mid) → TouchesTwo shape task from to mid end
      → CanDo shape task fits done before → AreApplicable shape task fits done leaves (take (end - mid) high)
  second_is_ready from to mid end leaves low high before cut e two can =
      subst (λ ls. AreApplicable shape task fits done ls (take (end - mid) high)) (sym e) (part_is_ready mid end (take (end - mid) high) before cut.within two.second (part_of_second from to mid end low high before cut) can)

  -- what was added to a part was added to the leaves of its range
  added_there : (from to : ℕ) (part part' before after : List B) → IsPart from to part before → IsPart from to part' after → AreApplied shape task fits done (range_with_len from (to - from)) part part'
      → (leaf : ℕ) (d : B) → from ≤ leaf → leaf < to → IsApplied task (fits leaf (get_or after leaf d)) (done (get_or before leaf d)) (done (get_or after leaf d))
  added_there from to part part' before after is is' added leaf d l m =
      let k = leaf - from in
      let h : k < to - from = omega arith in
      let e : from + k ≡ leaf = omega arith in
      let at = get_or-range_with_len from (to - from) k 0 h in
      let long : k < length (range_with_len from (to - from)) = subst (λ n. k < n) (sym (length-range_with_len from (to - from))) h in
      subst (λ x. IsApplied task (fits x (get_or after x d)) (done (get_or before x d)) (done (get_or after x d))) e (rw (at, is.at k d h, is'.at k d h) at (added.added k d long))

  -- where it was added to both parts, it was done on all
  pub done_by_parts : (from to mid end : ℕ) (leaves leaves' : List ℕ) (low high p q before : List B) → IsCut from to mid end low high before → leaves ≡ range_with_len from (to - from) → leaves' ≡ range_with_len mid (end - mid)
      → TouchesTwo shape task from to mid end → AreApplied shape task fits done leaves (between from to low) p → AreApplied shape task fits done leaves' (take (end - mid) high) q
      → IsDoneOn shape task fits done before (put_mid from (to - from) low p ++ put_mid 0 (end - mid) high q)
  done_by_parts from to mid end leaves leaves' low high p q before cut e e' two added added' =
      let after = put_mid from (to - from) low p ++ put_mid 0 (end - mid) high q in
      let first = part_of_first from to mid end low high before cut in
      let second = part_of_second from to mid end low high before cut in
      let lp = added.one_each ∙ first.long in
      let lq = added'.one_each ∙ second.long in
      let kept = kept_by_cut from to mid end low high p q before cut lp lq in
      let there = added_there from to (between from to low) p before after first (first_written from to mid end low high p q before cut lp lq) (subst (λ ls. AreApplied shape task fits done ls (between from to low) p) e added) in
      let there' = added_there mid end (take (end - mid) high) q before after second (second_written from to mid end low high p q before cut lp lq) (subst (λ ls. AreApplied shape task fits done ls (take (end - mid) high) q) e' added') in record {
        one_each = kept.same_length;
        added = λ leaf d t. elim (two.either leaf t) [ inl h ↦ there leaf d h.0 h.1 | inr h ↦ there' leaf d h.0 h.1 ];
        others = λ leaf d n. kept.outside leaf d (λ l m. n (two.first leaf l m)) (λ l m. n (two.second leaf l m));
      }
