-- A task is done on the blocks of its leaves: they can be fetched, are ready for it, and can be put back with it.
use Rattle.std.proofs.Common.{◌≡◌, ℕ, ◌+◌, ◌-◌, ◌<◌, ◌≤◌, List, [], ◌∷◌, ◌++◌, Contains, length, get_or, take, drop, Option, Some, None, refl, sym, ap, ◌∙◌, subst, inl, inr, arith}
use Rattle.std.specs.List.{range_with_len}
use Rattle.std.specs.Option.{option_to_list}
use Rattle.std.proofs.lemmas.List.FromFn.{get_or-range_with_len, length-range_with_len}
use Rattle.lists.proofs.Elements.{Contains-head, Contains-later, Contains-nil, written_back}
use Rattle.qs_core.specs.inner.Held.{IsBelowSome}
use Rattle.qs_core.specs.Shape.{Shape, Touches, leaves_of, task_at}
use Rattle.qs_core.specs.Core.{Chain, Running, View, empty_view}
use Rattle.qs_core.specs.Steps.{CanFetch, OwnsAbove, started, unless_over}
use Rattle.qs_core.specs.Blocks.{AreApplied, AreApplicable, IsApplicable, first_leaves, second_leaves}
use Rattle.qs_core.proofs.Below.{in_range, touches_is}
use Rattle.qs_table.specs.declared.view.SeatView.{SeatView}
use Rattle.qs_table.specs.Tries.{owned_chain, with_cells}
use Rattle.qs_table.proofs.TaskTries.{owned_is_complete}
use Rattle.qs_worker.specs.inner.Claimed.{claimed_view, over_view}
use Rattle.qs_worker.specs.inner.Leaves.{CanPut, GrewQuietly, AreFetched, HasPut, IsOutReady, IsWorkedOn, KeptCells}
use Rattle.qs_core.specs.Ranges.{AreLeafRanges}
use Rattle.qs_worker.proofs.Fetching.{can_still}
use Rattle.qs_worker.proofs.Putting.{runs_on}
use Rattle.qs_worker.proofs.Quiet.{kept_twice}
use Rattle.qs_core.proofs.TaskRanges.{in_one, touches_first, touches_second}

-- the cells of a claimed task are owned
first_stands : (shape : Shape) (first : ℕ) (second : Option ℕ) → Contains (with_cells shape empty_view (first ∷ option_to_list second)).chains (owned_chain shape first)
first_stands shape first None = Contains-head (owned_chain shape first) []
first_stands shape first (Some second) = Contains-later (owned_chain shape second) (owned_chain shape first ∷ []) (owned_chain shape first) (Contains-head (owned_chain shape first) [])

second_above : (shape : Shape) (task leaf : ℕ) (second : Option ℕ) → (task_at shape task).second ≡ second → IsBelowSome shape leaf second → OwnsAbove shape (claimed_view shape task) leaf
second_above shape task leaf None e b = absurd b
second_above shape task leaf (Some cell) e b = record {
  cell = cell;
  owned = record {
    chain = owned_chain shape cell;
    stands = subst (λ (o : Option ℕ). Contains (with_cells shape empty_view ((task_at shape task).first ∷ option_to_list o)).chains (owned_chain shape cell)) (sym e)
        (Contains-head (owned_chain shape cell) (owned_chain shape (task_at shape task).first ∷ []));
    complete = owned_is_complete shape cell;
    of_cell = refl;
  };
  below = b;
}

owns_above : (shape : Shape) (task leaf : ℕ) → Touches shape task leaf → OwnsAbove shape (claimed_view shape task) leaf
owns_above shape task leaf t = elim ((touches_is shape task leaf).0 t) [
  | inl b ↦
      record {
        cell = (task_at shape task).first;
        owned = record {
          chain = owned_chain shape (task_at shape task).first;
          stands = first_stands shape (task_at shape task).first (task_at shape task).second;
          complete = owned_is_complete shape (task_at shape task).first;
          of_cell = refl;
        };
        below = b;
      }
  | inr b ↦ second_above shape task leaf (task_at shape task).second refl b
]

-- a list without elements, and a view by its parts
none_in : (xs : List ℕ) → ((x : ℕ) → Contains xs x → ⊥) → xs ≡ []
none_in [] n = refl
none_in (x ∷ xs) n = absurd (n x (Contains-head x xs))

view_is : (view : View) {chains : List Chain} {out : List ℕ} {running : Option Running} → view.chains ≡ chains → view.out ≡ out → view.running ≡ running → view ≡ record { chains = chains; out = out; running = running }
view_is view c o r = λ i. record { chains = c i; out = o i; running = r i }

-- so their leaves can be fetched
touched_can : (shape : Shape) (task leaf : ℕ) (v : SeatView) → v.holds ≡ claimed_view shape task → leaf < shape.leaves → Touches shape task leaf → CanFetch shape v.holds leaf
touched_can shape task leaf v is l t = subst (λ (w : View). CanFetch shape w leaf) (sym is) (record { is_leaf = l; above = owns_above shape task leaf t; home = Contains-nil leaf; left = t })

module _ (shape : Shape) (task from to from' to' : ℕ) (are : AreLeafRanges shape task from to from' to') (start : SeatView) (claimed : start.holds ≡ claimed_view shape task) where
  pub can_first : (leaf : ℕ) → from ≤ leaf → leaf < to → CanFetch shape start.holds leaf
  can_first leaf l m = touched_can shape task leaf start claimed (let w = are.within in omega (arith, w, m)) (touches_first shape task from to from' to' are leaf l m)

  starts : start.holds.running ≡ Some (started shape task)
  starts = ap (λ (w : View). w.running) claimed

  module _ {B : Type 0} (fits : ℕ → B → Type 0) (done : B → List ℕ) (one : SeatView) (firsts : List B) (has : AreFetched shape fits done from start one firsts) (all : from + length firsts ≡ to) where
    pub can_second : (leaf : ℕ) → from' ≤ leaf → leaf < to' → CanFetch shape one.holds leaf
    can_second leaf l m =
        can_still shape fits done from start one firsts has leaf (λ low high. in_one shape task from to from' to' are leaf low (omega (arith, high, all)) l m)
        (touched_can shape task leaf start claimed (let w = are.within' in omega (arith, w, m)) (touches_second shape task from to from' to' are leaf l m))

    module _ (two : SeatView) (seconds : List B) (has' : AreFetched shape fits done from' one two seconds) (all' : from' + length seconds ≡ to') where
      runs : two.holds.running ≡ Some (started shape task)
      runs = has'.running ∙ has.running ∙ starts

      first_out : (k : ℕ) (d : B) → k < length firsts → IsOutReady shape fits done two (from + k) (get_or firsts k d)
      first_out k d l =
          let o = has.each k d l in record {
            out = has'.still (from + k) o.out;
            noted = has'.noted (record { leaf = from + k; done = done (get_or firsts k d) }) o.noted;
            ready = λ running e. o.ready running (sym has'.running ∙ e);
          }

      ready_in : (leaves : List ℕ) (low high : ℕ) (blocks : List B) → leaves ≡ range_with_len low (high - low) → low + length blocks ≡ high → ((k : ℕ) (d : B) → k < length blocks → IsOutReady shape fits done two (low + k) (get_or blocks k d))
          → AreApplicable shape task fits done leaves blocks
      ready_in leaves low high blocks is many each =
          let long : length leaves ≡ high - low = ap length is ∙ length-range_with_len low (high - low) in record {
            one_each = omega (arith, long, many);
            ready = λ k d l.
                let at : get_or leaves k 0 ≡ low + k = ap (λ (ls : List ℕ). get_or ls k 0) is ∙ get_or-range_with_len low (high - low) k 0 (omega (arith, l, long)) in
                subst (λ (leaf : ℕ). IsApplicable shape task leaf (fits leaf (get_or blocks k d)) (done (get_or blocks k d))) (sym at) ((each k d (omega (arith, l, long, many))).ready (started shape task) runs);
          }

      pub first_ready : AreApplicable shape task fits done (first_leaves shape task) firsts
      first_ready = ready_in (first_leaves shape task) from to firsts are.leaves all first_out

      pub second_ready : AreApplicable shape task fits done (second_leaves shape task) seconds
      second_ready = ready_in (second_leaves shape task) from' to' seconds are.leaves' all' has'.each

      worked_in : (leaves : List ℕ) (low high : ℕ) (blocks after : List B) → leaves ≡ range_with_len low (high - low) → low + length blocks ≡ high → ((k : ℕ) (d : B) → k < length blocks → IsOutReady shape fits done two (low + k) (get_or blocks k d))
          → AreApplied shape task fits done leaves blocks after → (k : ℕ) (d : B) → k < length after → IsWorkedOn fits done task two (low + k) (get_or after k d)
      worked_in leaves low high blocks after is many each added k d l =
          let same = added.one_each in
          let long : length leaves ≡ high - low = ap length is ∙ length-range_with_len low (high - low) in
          let at : get_or leaves k 0 ≡ low + k = ap (λ (ls : List ℕ). get_or ls k 0) is ∙ get_or-range_with_len low (high - low) k 0 (omega (arith, l, same, many)) in
          let new = added.added k d (omega (arith, l, same, many, long)) in
          let o = each k d (omega (arith, l, same)) in record {
            out = o.out;
            fitting = subst (λ (leaf : ℕ). fits leaf (get_or after k d)) at new.fitting;
            before = done (get_or blocks k d);
            noted = o.noted;
            tasks = new.tasks;
          }

      module _ (firsts' seconds' : List B) (added : AreApplied shape task fits done (first_leaves shape task) firsts firsts') (added' : AreApplied shape task fits done (second_leaves shape task) seconds seconds') where
        leaves_are : leaves_of shape task ≡ first_leaves shape task ++ range_with_len from' (length seconds')
        unfolding leaves_of
        leaves_are =
            let same = added'.one_each in
            let many : to' - from' ≡ length seconds' = omega (arith, same, all') in
            ap (λ (ls : List ℕ). first_leaves shape task ++ ls) (are.leaves' ∙ ap (range_with_len from') many)

        pub can_put_second : CanPut fits done task (first_leaves shape task) (task_at shape task).successors from' two seconds'
        can_put_second = record {
          running =
              runs
              ∙ sym (runs_on task (leaves_of shape task) (task_at shape task).successors from (touches_first shape task from to from' to' are from (omega arith) are.some))
              ∙ ap (λ (ls : List ℕ). unless_over task ls (task_at shape task).successors) leaves_are;
          apart = λ leaf c l m.
              let same = added'.one_each in
              let w = (in_range from to leaf).0 (subst (λ ls. Contains ls leaf) are.leaves c) in
              in_one shape task from to from' to' are leaf w.0 w.1 l (omega (arith, same, all', m));
          each = worked_in (second_leaves shape task) from' to' seconds seconds' are.leaves' all' has'.each added';
        }

        module _ (three : SeatView) (put : HasPut from' (from' + length seconds') two three) (left : three.holds.running ≡ unless_over task (first_leaves shape task) (task_at shape task).successors) where
          pub can_put_first : CanPut fits done task [] (task_at shape task).successors from three firsts'
          can_put_first = record {
            running =
                let same = added.one_each in
                let many : to - from ≡ length firsts' = omega (arith, same, all) in
                left ∙ ap (λ (ls : List ℕ). unless_over task ls (task_at shape task).successors) (are.leaves ∙ ap (range_with_len from) many);
            apart = λ leaf c. absurd (Contains-nil leaf c);
            each = λ k d l.
                let same = added.one_each in
                let same' = added'.one_each in
                let w = worked_in (first_leaves shape task) from to firsts firsts' are.leaves all first_out added k d l in
                let other : from' ≤ from + k → from + k < from' + length seconds' → ⊥ = λ low high. in_one shape task from to from' to' are (from + k) (omega arith) (omega (arith, l, same, all)) low (omega (arith, high, same', all')) in record {
                  out = put.still (from + k) other w.out;
                  fitting = w.fitting;
                  before = w.before;
                  noted = put.noted (record { leaf = from + k; done = w.before }) other w.noted;
                  tasks = w.tasks;
                };
          }

          module _ (four : SeatView) (put' : HasPut from (from + length firsts') three four) (over : four.holds.running ≡ unless_over task [] (task_at shape task).successors) where
            kept : KeptCells start four
            kept = kept_twice start one four has.cells (kept_twice one two four has'.cells (kept_twice two three four put.cells put'.cells))

            home : (leaf : ℕ) → Contains four.holds.out leaf → ⊥
            home leaf c =
                let same = added.one_each in
                let same' = added'.one_each in
                let f = put'.home leaf c in
                let s = put.home leaf f.0 in
                elim (has'.others leaf s.0) [
                  | inr i ↦ let high = i.1 in s.1 i.0 (omega (arith, high, same'))
                  | inl o ↦ elim (has.others leaf o) [
                    | inr i ↦ let high = i.1 in f.1 i.0 (omega (arith, high, same))
                    | inl b ↦ Contains-nil leaf (subst (λ (w : View). Contains w.out leaf) claimed b)
                  ]
                ]

            pub over_now : four.holds ≡ over_view shape task
            over_now = view_is four.holds (kept.chains ∙ ap (λ (w : View). w.chains) claimed) (none_in four.holds.out home) over

-- four steps that free no task
pub quiet : (a b c d e : SeatView) → KeptCells a b → KeptCells b c → KeptCells c d → KeptCells d e → GrewQuietly a.notes e.notes
quiet a b c d e k l m n = (kept_twice a b e k (kept_twice b c e l (kept_twice c d e m n))).notes

-- what is asked of blocks and left of them depends on the plan alone
pub ready_for : {P B : Type 0} (shape : P → Shape) (fits : P → ℕ → B → Type 0) (done : B → List ℕ) (plan plan' : P) (task : ℕ) (leaves : Shape → ℕ → List ℕ) (blocks : List B) → plan ≡ plan'
    → AreApplicable (shape plan') task (fits plan') done (leaves (shape plan') task) blocks → AreApplicable (shape plan) task (fits plan) done (leaves (shape plan) task) blocks
ready_for {P} shape fits done plan plan' task leaves blocks same ready = subst (λ (p : P). AreApplicable (shape p) task (fits p) done (leaves (shape p) task) blocks) (sym same) ready

pub added_for : {P B : Type 0} (shape : P → Shape) (fits : P → ℕ → B → Type 0) (done : B → List ℕ) (plan plan' : P) (task : ℕ) (leaves : Shape → ℕ → List ℕ) (blocks after : List B) → plan ≡ plan'
    → AreApplied (shape plan) task (fits plan) done (leaves (shape plan) task) blocks after → AreApplied (shape plan') task (fits plan') done (leaves (shape plan') task) blocks after
added_for {P} shape fits done plan plan' task leaves blocks after same added = subst (λ (p : P). AreApplied (shape p) task (fits p) done (leaves (shape p) task) blocks after) same added

-- the blocks in their list, after the task was done on all of it as a slice
pub added_in : {B : Type 0} (shape : Shape) (task : ℕ) (fits : ℕ → B → Type 0) (done : B → List ℕ) (leaves : List ℕ) (blocks seen after : List B) (n : ℕ) → seen ≡ blocks → length seen ≡ n
    → AreApplied shape task fits done leaves seen after → AreApplied shape task fits done leaves blocks (take n (after ++ drop (length after) blocks))
added_in shape task fits done leaves blocks seen after n are many added =
    let long = ap length are in
    subst (λ bs. AreApplied shape task fits done leaves blocks bs) (sym (written_back n blocks after (sym many ∙ long) (added.one_each ∙ long))) (subst (λ bs. AreApplied shape task fits done leaves bs after) are added)
