-- A seat that tries the cells of a task.
use Rattle.std.proofs.Common.{◌≡◌, ℕ, ◌<◌, List, [], ◌∷◌, ◌++◌, length, Contains, Some, None, Option, refl, sym, ap, ◌∙◌, subst, inl, inr, append_assoc, take, arith}
use Rattle.std.specs.Option.{option_to_list}
use Rattle.std.proofs.lemmas.Option.{none-some, same_Some}
use Rattle.lists.proofs.Elements.{Contains-append, Contains-head, Contains-later, Contains-nil, either, only}
use Rattle.qs_core.specs.declared.event.Note.{Note}
use Rattle.qs_core.specs.Shape.{Shape, AreApart, IsShape, task_at}
use Rattle.qs_core.specs.Core.{Chain, IsComplete, Owns, View}
use Rattle.qs_core.specs.Steps.{CanLock, HasReturned, IsFree}
use Rattle.qs_table.specs.declared.answers.Try.TheVariants.{Got, Busy}
use Rattle.qs_table.specs.declared.view.SeatView.{SeatView}
use Rattle.qs_table.specs.Notes.{Grew, locks_in}
use Rattle.qs_table.specs.Seats.{CanGive}
use Rattle.qs_table.specs.Tries.{Gave, IsLegalBusy, Stepped, Tried, TriedInOrder, TriedTask, owned_chain, with_cell, with_cells, without_newest}
use Rattle.qs_table.proofs.Given.{grew_twice, stepped_twice}

-- an owned chain is complete
pub owned_is_complete : (shape : Shape) (cell : ℕ) → IsComplete shape (owned_chain shape cell)
owned_is_complete shape cell = record { all_raised = refl; free = refl; kept = refl }

-- notes before and after a lawful cause
legal_later : (shape : Shape) (cell at seen : ℕ) (a b c : List Note) → Grew a b → IsLegalBusy shape cell at seen b c → IsLegalBusy shape cell at seen a c
legal_later shape cell at seen a b c g l = record {
  grew = grew_twice a b c g l.grew;
  note = l.note;
  stands = (Contains-append g.further l.grew.further l.note).1 (inr l.stands);
  cause = l.cause;
}

legal_before : (shape : Shape) (cell at seen : ℕ) (a b c : List Note) → IsLegalBusy shape cell at seen a b → Grew b c → IsLegalBusy shape cell at seen a c
legal_before shape cell at seen a b c l g = record {
  grew = grew_twice a b c l.grew g;
  note = l.note;
  stands = (Contains-append l.grew.further g.further l.note).1 (inl l.stands);
  cause = l.cause;
}

-- a seat that holds nothing is to try the cells of a task
pub record Trying (shape : Shape) (task first : ℕ) (second : Option ℕ) (v : SeatView) : Type 0 where
  pub laws : IsShape shape
  pub within : task < length shape.tasks
  pub first_is : first ≡ (task_at shape task).first
  pub second_is : (task_at shape task).second ≡ second
  pub none : v.holds.chains ≡ []
  pub free : IsFree v.holds

module _ (shape : Shape) (task first : ℕ) (other : Option ℕ) (v : SeatView) (t : Trying shape task first other v) where
  -- the first cell may be tried
  pub can_first : CanLock shape v.holds first
  can_first = record {
    is_cell = subst (λ (c : ℕ). c < length shape.parents) (sym t.first_is) (t.laws.tasks task t.within).first;
    room = record {
      few = let z : length v.holds.chains ≡ 0 = ap length t.none in omega arith;
      complete = λ chain c. absurd (Contains-nil chain (subst (λ cs. Contains cs chain) t.none c));
      apart = λ owned o. absurd (Contains-nil o.chain (subst (λ cs. Contains cs o.chain) t.none o.stands));
    };
    free = t.free;
  }

  -- its lock was tried, in order
  pub tried_first : (after : SeatView) → locks_in after.notes ≡ locks_in v.notes ++ first ∷ [] → TriedInOrder shape task v.notes after.notes
  tried_first after e = record { tried = 1; is = e ∙ ap (λ (c : ℕ). locks_in v.notes ++ c ∷ []) t.first_is }

  -- it was turned back
  pub busy_first : (at seen : ℕ) (after : SeatView) → Tried shape first v (Busy at seen) after → TriedTask shape task v (Busy at seen) after
  busy_first at seen after busy = (busy.0, record { cell = first; of_task = inl (sym t.first_is); legal = busy.1 })

  -- it is owned
  module _ (middle : SeatView) (got : Tried shape first v Got middle) where
    chains_are : middle.holds.chains ≡ owned_chain shape first ∷ []
    chains_are = ap (λ (w : View). w.chains) got.holds ∙ ap (λ (cs : List Chain). owned_chain shape first ∷ cs) t.none

    owned_is : (cell : ℕ) → Owns shape middle.holds cell → first ≡ cell
    owned_is cell o = ap (λ (c : Chain). c.cell) (only (owned_chain shape first) o.chain (subst (λ cs. Contains cs o.chain) chains_are o.stands)) ∙ o.of_cell

    still_free : IsFree middle.holds
    still_free = record { none_out = ap (λ (w : View). w.out) got.holds ∙ t.free.none_out; none_runs = ap (λ (w : View). w.running) got.holds ∙ t.free.none_runs }

    -- and is the only one
    pub got_one : other ≡ None → TriedTask shape task v Got middle
    got_one alone =
        let one : (task_at shape task).second ≡ None = t.second_is ∙ alone in (
          subst (Stepped v middle) (λ i. with_cells shape v.holds (t.first_is i ∷ option_to_list (sym one i))) got,
          λ cell. (
            λ o. inl (sym t.first_is ∙ owned_is cell o),
            λ c. elim c [
              | inl e ↦ record { chain = owned_chain shape first; stands = subst (λ cs. Contains cs (owned_chain shape first)) (sym chains_are) (Contains-head (owned_chain shape first) []); complete = owned_is_complete shape first; of_cell = t.first_is ∙ e }
              | inr e ↦ absurd (none-some cell (sym one ∙ e))
            ],
          ),
        )

    module _ (second : ℕ) (both : other ≡ Some second) where
      second_is : (task_at shape task).second ≡ Some second
      second_is = t.second_is ∙ both

      -- the second cell may be tried
      pub can_second : CanLock shape middle.holds second
      can_second = record {
        is_cell = ((t.laws.tasks task t.within).second second second_is).0;
        room = record {
          few = let z : length middle.holds.chains ≡ 1 = ap length chains_are in omega arith;
          complete = λ chain c. subst (IsComplete shape) (only (owned_chain shape first) chain (subst (λ cs. Contains cs chain) chains_are c)) (owned_is_complete shape first);
          apart = λ owned o. subst (λ (c : ℕ). AreApart shape c second) (sym t.first_is ∙ owned_is owned o) ((t.laws.tasks task t.within).second second second_is).1;
        };
        free = still_free;
      }

      pub tried_both : (after : SeatView) → locks_in middle.notes ≡ locks_in v.notes ++ first ∷ [] → locks_in after.notes ≡ locks_in middle.notes ++ second ∷ [] → TriedInOrder shape task v.notes after.notes
      tried_both after e f = record {
        tried = 2;
        is =
            f
            ∙ ap (λ (cs : List ℕ). cs ++ second ∷ []) e
            ∙ append_assoc (locks_in v.notes) (first ∷ []) (second ∷ [])
            ∙ ap (λ (c : ℕ). locks_in v.notes ++ c ∷ second ∷ []) t.first_is
            ∙ ap (λ (o : Option ℕ). locks_in v.notes ++ take 2 ((task_at shape task).first ∷ option_to_list o)) (sym second_is);
      }

      -- it is owned too
      pub got_both : (end : SeatView) → Tried shape second middle Got end → TriedTask shape task v Got end
      got_both end got' =
          let held : end.holds ≡ with_cell shape (with_cell shape v.holds first) second = got'.holds ∙ ap (λ (w : View). with_cell shape w second) got.holds in
          let both : end.holds.chains ≡ owned_chain shape second ∷ owned_chain shape first ∷ [] = ap (λ (w : View). w.chains) got'.holds ∙ ap (λ (cs : List Chain). owned_chain shape second ∷ cs) chains_are in (
            subst (Stepped v end) (λ i. with_cells shape v.holds (t.first_is i ∷ option_to_list (sym second_is i)))
                (subst (Stepped v end) (sym got'.holds ∙ held) (stepped_twice v middle end _ _ got got')),
            λ cell. (
              λ o. elim (either (owned_chain shape second) (owned_chain shape first) o.chain (subst (λ cs. Contains cs o.chain) both o.stands)) [
                | inl q ↦ inr (second_is ∙ ap Some (ap (λ (c : Chain). c.cell) q ∙ o.of_cell))
                | inr q ↦ inl (sym t.first_is ∙ (ap (λ (c : Chain). c.cell) q ∙ o.of_cell))
              ],
              λ c. elim c [
                | inl q ↦
                    record {
                      chain = owned_chain shape first;
                      stands = subst (λ cs. Contains cs (owned_chain shape first)) (sym both) (Contains-later (owned_chain shape second) (owned_chain shape first ∷ []) (owned_chain shape first) (Contains-head (owned_chain shape first) []));
                      complete = owned_is_complete shape first;
                      of_cell = t.first_is ∙ q;
                    }
                | inr q ↦
                    record {
                      chain = owned_chain shape second;
                      stands = subst (λ cs. Contains cs (owned_chain shape second)) (sym both) (Contains-head (owned_chain shape second) (owned_chain shape first ∷ []));
                      complete = owned_is_complete shape second;
                      of_cell = same_Some second cell (sym second_is ∙ q);
                    }
              ],
            ),
          )

      -- it was turned back: the first can be given back
      pub may_give_first : (at seen : ℕ) (late : SeatView) → Tried shape second middle (Busy at seen) late → CanGive late.holds
      may_give_first at seen late busy = record {
        some = λ e. absurd (let q : length late.holds.chains ≡ 1 = ap (λ (w : View). length w.chains) busy.0.holds ∙ ap length chains_are in let z : length late.holds.chains ≡ 0 = ap length e in omega arith);
        none_out = ap (λ (w : View). w.out) busy.0.holds ∙ still_free.none_out;
        returned = subst HasReturned (sym (ap (λ (w : View). w.running) busy.0.holds ∙ still_free.none_runs)) tt;
      }

      -- and was
      pub busy_second : (at seen : ℕ) (late end : SeatView) → Tried shape second middle (Busy at seen) late → Gave late end → TriedTask shape task v (Busy at seen) end
      busy_second at seen late end busy lost = (
        subst (Stepped v end) (ap without_newest (busy.0.holds ∙ got.holds)) (stepped_twice v late end _ _ (stepped_twice v middle late _ _ got busy.0) lost.steps),
        record {
          cell = second;
          of_task = inr second_is;
          legal = legal_before shape second at seen v.notes late.notes end.notes (legal_later shape second at seen v.notes middle.notes late.notes got.notes busy.1) lost.steps.notes;
        },
      )
