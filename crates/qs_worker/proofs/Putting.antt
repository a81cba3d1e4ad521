-- Blocks are put back one by one, the last first.
use Rattle.std.proofs.Common.{◌≡◌, ℕ, Bool, not, cond, eqb, ◌+◌, ◌<◌, ◌≤◌, List, [], ◌∷◌, ◌++◌, Contains, length, get_or, Some, refl, sym, ap, ◌∙◌, subst, inl, inr, arith, append_assoc, eq-eqb, ne_eqb}
use Rattle.std.specs.List.{range_with_len}
use Rattle.std.proofs.lemmas.Bool.{cases_eq}
use Rattle.std.proofs.lemmas.List.{get_or_append_left, length_push}
use Rattle.std.proofs.Math.Seq.{get_or-append_seam}
use Rattle.lists.proofs.Elements.{Contains-append, Contains-filter, Contains-head, Contains-later, Contains-nil}
use Rattle.lists.proofs.Ranges.{range-within, range_push}
use Rattle.qs_core.specs.declared.event.Step.TheVariants.{Return}
use Rattle.qs_core.specs.Shape.{Shape}
use Rattle.qs_core.specs.Steps.{CanReturn, after_return, unless_over, without}
use Rattle.qs_core.proofs.Without.{Contains-without, without_keeps}
use Rattle.qs_table.specs.declared.view.Fetched.{Fetched}
use Rattle.qs_table.specs.declared.view.SeatView.{SeatView}
use Rattle.qs_table.specs.Leaves.{IsBrought, RunsTask}
use Rattle.qs_table.specs.Views.{knows_returned, noted}
use Rattle.qs_worker.specs.inner.Leaves.{CanPut, HasPut, IsWorkedOn}
use Rattle.qs_worker.proofs.Quiet.{kept_twice, quiet_none, quiet_one}

-- a list without the last, which it had once
without_last : (x : ℕ) (xs : List ℕ) → (Contains xs x → ⊥) → without x (xs ++ x ∷ []) ≡ xs
without_last x [] n = ap (λ (b : Bool). cond {A = List ℕ} (not b) (x ∷ []) []) (eq-eqb x x refl)
without_last x (y ∷ ys) n =
    ap (λ (b : Bool). cond {A = List ℕ} (not b) (y ∷ without x (ys ++ x ∷ [])) (without x (ys ++ x ∷ []))) (ne_eqb y x (λ e. n (subst (Contains (y ∷ ys)) e (Contains-head y ys))))
    ∙ ap (λ (zs : List ℕ). y ∷ zs) (without_last x ys (λ c. n (Contains-later y ys x c)))

-- a task with a leaf left runs
pub runs_on : (task : ℕ) (leaves successors : List ℕ) (leaf : ℕ) → Contains leaves leaf → unless_over task leaves successors ≡ Some (record { task = task; leaves = leaves; successors = successors })
runs_on task [] successors leaf c = absurd (Contains-nil leaf c)
runs_on task (x ∷ xs) successors leaf c = refl

pub none_put : (from to : ℕ) (v : SeatView) → to ≤ from → HasPut from to v v
none_put from to v none = record {
  cells = record { place = refl; chains = refl; notes = quiet_none v.notes };
  home = λ leaf c. (c, λ l m. omega arith);
  still = λ leaf n c. c;
  noted = λ f n c. c;
}

module _ {B : Type 0} (shape : Shape) (fits : ℕ → B → Type 0) (done : B → List ℕ) (from : ℕ) (v : SeatView) (blocks all : List B) (block : B) (popped : all ≡ blocks ++ block ∷ []) where
  abbrev leaf : ℕ
  leaf = from + length blocks

  longer : length all ≡ length blocks + 1
  longer = ap length popped ∙ length_push blocks block

  module _ (task : ℕ) (others successors : List ℕ) (can : CanPut fits done task others successors from v all) where
    last : IsWorkedOn fits done task v leaf block
    last =
        let long = longer in
        let at : get_or all (length blocks) block ≡ block = ap (λ (bs : List B). get_or bs (length blocks) block) popped ∙ get_or-append_seam blocks block [] block in
        subst (IsWorkedOn fits done task v leaf) at (can.each (length blocks) block (omega arith))

    abbrev left : List ℕ
    left = others ++ range_with_len from (length blocks)

    all_left : others ++ range_with_len from (length all) ≡ left ++ leaf ∷ []
    all_left =
        ap (λ (n : ℕ). others ++ range_with_len from n) longer
        ∙ ap (λ (ls : List ℕ). others ++ ls) (range_push from (length blocks))
        ∙ sym (append_assoc others (range_with_len from (length blocks)) (leaf ∷ []))

    runs : v.holds.running ≡ Some (record { task = task; leaves = left ++ leaf ∷ []; successors = successors })
    runs =
        can.running
        ∙ ap (λ (ls : List ℕ). unless_over task ls successors) all_left
        ∙ runs_on task (left ++ leaf ∷ []) successors leaf ((Contains-append left (leaf ∷ []) leaf).1 (inr (Contains-head leaf [])))

    -- the last leaf is left once
    once : Contains left leaf → ⊥
    once c = elim ((Contains-append others (range_with_len from (length blocks)) leaf).0 c) [
      | inl o ↦ let long = longer in can.apart leaf o (omega arith) (omega arith)
      | inr r ↦ let w = (range-within from (length blocks) leaf r).1 in omega arith
    ]

    pub can_return : from + length all ≤ shape.leaves → CanReturn shape v.holds leaf
    can_return few = record { is_leaf = (let long = longer in omega arith); out = last.out }

    pub brought : IsBrought fits done v leaf block
    brought = record {
      fitting = last.fitting;
      before = last.before;
      was = last.noted;
      tasks = λ t. (
        λ c. elim ((last.tasks t).0 c) [ inl q ↦ inl q | inr q ↦ inr (subst (λ o. RunsTask o t) (sym runs) (sym q)) ],
        λ c. (last.tasks t).1 (elim c [ inl q ↦ inl q | inr q ↦ inr (sym (subst (λ o. RunsTask o t) runs q)) ]),
      );
    }

    -- the others can be put back still
    pub can_still_put : (w : SeatView) → w ≡ knows_returned shape v leaf → CanPut fits done task others successors from w blocks
    can_still_put w is = subst (λ (x : SeatView). CanPut fits done task others successors from x blocks) (sym is) (record {
      running = ap (λ r. after_return r leaf) runs ∙ ap (λ (ls : List ℕ). unless_over task ls successors) (without_last leaf left once);
      apart = λ other c l m. can.apart other c l (let long = longer in omega arith);
      each = λ k d l.
          let long = longer in
          let here = can.each k d (omega arith) in
          let at : get_or all k d ≡ get_or blocks k d = ap (λ (bs : List B). get_or bs k d) popped ∙ get_or_append_left blocks (block ∷ []) d k l in
          let new : IsWorkedOn fits done task v (from + k) (get_or blocks k d) = subst (IsWorkedOn fits done task v (from + k)) at here in record {
            out = without_keeps leaf v.holds.out (from + k) new.out (λ e. omega arith);
            fitting = new.fitting;
            before = new.before;
            noted = Contains-filter (λ (f : Fetched). not (eqb f.leaf leaf)) v.fetched (record { leaf = from + k; done = new.before }) (ap not (ne_eqb (from + k) leaf (λ e. omega arith))) new.noted;
            tasks = new.tasks;
          };
    })

  -- so many are home
  pub one_put : (to : ℕ) (before w : SeatView) → from + length blocks < to → HasPut (from + length all) to before v → w ≡ knows_returned shape v leaf → HasPut (from + length blocks) to before w
  one_put to before w high has is = subst (HasPut (from + length blocks) to before) (sym is) (record {
    cells = kept_twice before v (knows_returned shape v leaf) has.cells (record { place = refl; chains = refl; notes = quiet_one v.notes (noted shape v (Return leaf) 1) refl refl });
    home = λ other c.
        let kept = Contains-without leaf v.holds.out other c in
        let was = has.home other kept.0 in
        let long = longer in
        (was.0, λ l m. elim (cases_eq other leaf) [ inl e ↦ kept.1 e | inr n ↦ was.1 (omega arith) m ]);
    still = λ other n c.
        let long = longer in
        without_keeps leaf v.holds.out other (has.still other (λ l m. n (omega arith) m) c) (λ e. n (omega arith) (omega arith));
    noted = λ f n c.
        let long = longer in
        Contains-filter (λ (g : Fetched). not (eqb g.leaf leaf)) v.fetched f (ap not (ne_eqb f.leaf leaf (λ e. n (omega arith) (omega arith)))) (has.noted f (λ l m. n (omega arith) m) c);
  })
