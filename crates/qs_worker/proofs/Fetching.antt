-- Blocks are fetched one by one.
use Rattle.std.proofs.Common.{◌≡◌, ℕ, ◌+◌, ◌<◌, ◌≤◌, List, [], ◌∷◌, ◌++◌, Contains, length, get_or, None, refl, sym, ap, ◌∙◌, subst, inl, inr, arith}
use Rattle.std.proofs.lemmas.Bool.{cases_lt}
use Rattle.std.proofs.lemmas.List.{get_or_append_left, length_push}
use Rattle.std.proofs.Math.Seq.{get_or-append_seam}
use Rattle.lists.proofs.Elements.{Contains-cons_cases, Contains-head, Contains-later}
use Rattle.qs_core.specs.declared.event.Step.TheVariants.{Fetch}
use Rattle.qs_core.specs.Shape.{Shape}
use Rattle.qs_core.specs.Steps.{CanFetch, MayFetch}
use Rattle.qs_table.specs.declared.view.SeatView.{SeatView}
use Rattle.qs_table.specs.Leaves.{IsFetched}
use Rattle.qs_table.specs.Views.{knows_fetched, noted}
use Rattle.qs_worker.specs.inner.Leaves.{AreFetched, IsOutReady}
use Rattle.qs_worker.proofs.Quiet.{kept_twice, quiet_none, quiet_one}

module _ {B : Type 0} (shape : Shape) (fits : ℕ → B → Type 0) (done : B → List ℕ) (from : ℕ) where
  pub none_fetched : (v : SeatView) → AreFetched shape fits done from v v []
  none_fetched v = record {
    cells = record { place = refl; chains = refl; notes = quiet_none v.notes };
    running = refl;
    each = λ k d l. absurd (omega arith);
    others = λ leaf c. inl c;
    still = λ leaf c. c;
    noted = λ f c. c;
  }

  module _ (before v : SeatView) (blocks : List B) (has : AreFetched shape fits done from before v blocks) where
    -- a leaf that wasn't fetched may be fetched still
    pub can_still : (leaf : ℕ) → (from ≤ leaf → leaf < from + length blocks → ⊥) → CanFetch shape before.holds leaf → CanFetch shape v.holds leaf
    can_still leaf other can = record {
      is_leaf = can.is_leaf;
      above = record {
        cell = can.above.cell;
        owned = record {
          chain = can.above.owned.chain;
          stands = subst (λ cs. Contains cs can.above.owned.chain) (sym has.cells.chains) can.above.owned.stands;
          complete = can.above.owned.complete;
          of_cell = can.above.owned.of_cell;
        };
        below = can.above.below;
      };
      home = λ c. elim (has.others leaf c) [ inl b ↦ can.home b | inr i ↦ other i.0 i.1 ];
      left = subst (λ r. MayFetch r leaf) (sym has.running) can.left;
    }

    -- one more is fetched
    module _ (block : B) (leaf : ℕ) (next : leaf ≡ from + length blocks) (fetched : IsFetched shape fits done v leaf block) where
      abbrev after : SeatView
      after = knows_fetched shape v leaf (done block) None

      this : IsOutReady shape fits done after leaf block
      this = record { out = Contains-head leaf v.holds.out; noted = Contains-head (record { leaf = leaf; done = done block }) v.fetched; ready = fetched.ready }

      earlier : (other : ℕ) (b : B) → IsOutReady shape fits done v other b → IsOutReady shape fits done after other b
      earlier other b o = record {
        out = Contains-later leaf v.holds.out other o.out;
        noted = Contains-later (record { leaf = leaf; done = done block }) v.fetched (record { leaf = other; done = done b }) o.noted;
        ready = o.ready;
      }

      fetched_one : AreFetched shape fits done from before after (blocks ++ block ∷ [])
      fetched_one = record {
        cells = kept_twice before v after has.cells (record { place = refl; chains = refl; notes = quiet_one v.notes (noted shape v (Fetch leaf) 0) refl refl });
        running = has.running;
        each = λ k d l. elim (cases_lt k (length blocks)) [
          | inl m ↦ subst (IsOutReady shape fits done after (from + k)) (sym (get_or_append_left blocks (block ∷ []) d k m)) (earlier (from + k) (get_or blocks k d) (has.each k d m))
          | inr m ↦
              let long = length_push blocks block in
              let last : k ≡ length blocks = omega arith in
              let at : get_or (blocks ++ block ∷ []) k d ≡ block = ap (λ (n : ℕ). get_or (blocks ++ block ∷ []) n d) last ∙ get_or-append_seam blocks block [] d in
              let place : from + k ≡ leaf = omega arith in
              subst (λ (p : ℕ × B). IsOutReady shape fits done after p.0 p.1) (λ i. (sym place i, sym at i)) this
        ];
        others = λ other c. elim (Contains-cons_cases leaf v.holds.out other c) [
          | inl e ↦ let long = length_push blocks block in inr (omega arith, omega arith)
          | inr o ↦ elim (has.others other o) [ inl b ↦ inl b | inr i ↦ let low = i.0 in let high = i.1 in let long = length_push blocks block in inr (omega arith, omega arith) ]
        ];
        still = λ other c. Contains-later leaf v.holds.out other (has.still other c);
        noted = λ f c. Contains-later (record { leaf = leaf; done = done block }) v.fetched f (has.noted f c);
      }

      pub one_more : (w : SeatView) (blocks' : List B) → w ≡ knows_fetched shape v leaf (done block) None → blocks' ≡ blocks ++ block ∷ [] → AreFetched shape fits done from before w blocks'
      one_more w blocks' is are = subst (λ (p : SeatView × List B). AreFetched shape fits done from before p.0 p.1) (λ i. (sym is i, sym are i)) fetched_one
