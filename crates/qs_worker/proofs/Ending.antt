-- The end of a claimed task: its successors are released.
use Rattle.std.proofs.Common.{◌≡◌, ◌≢◌, ℕ, true, false, eqb, List, [], ◌∷◌, length, Some, None, refl, sym, ap, ◌∙◌, inl, inr, append-nil, eq-eqb, ne_eqb, true≢false}
use Rattle.std.proofs.lemmas.Bool.{cases_eq}
use Rattle.std.proofs.lemmas.List.{nil_from_length}
use Rattle.std.proofs.lemmas.List.Elements.{All-nil}
use Rattle.qs_core.specs.declared.event.Note.{Note}
use Rattle.qs_core.specs.declared.event.StepKind.TheVariants as Kind
use Rattle.qs_core.specs.Shape.{Shape, task_at}
use Rattle.qs_core.specs.Core.{Running, View}
use Rattle.qs_core.specs.Steps.{CanRelease, unless_over}
use Rattle.qs_table.specs.declared.view.SeatView.{SeatView}
use Rattle.qs_table.specs.Claims.{IsOver}
use Rattle.qs_worker.specs.inner.Claimed.{HasDone, over_view}
use Rattle.qs_worker.specs.inner.Leaves.{GrewQuietly}
use Rattle.qs_worker.proofs.Quiet.{quiet_twice}

-- an empty list by the test of its length
pub nil_from_test : (xs : List ℕ) → eqb (length xs) 0 ≡ true → xs ≡ []
nil_from_test xs e = nil_from_length xs (elim (cases_eq (length xs) 0) [ inl z ↦ z | inr n ↦ absurd (true≢false (sym e ∙ ne_eqb (length xs) 0 n)) ])

pub some_from_test : (xs : List ℕ) → eqb (length xs) 0 ≡ false → xs ≢ []
some_from_test xs e none = true≢false (sym (eq-eqb (length xs) 0 (ap length none)) ∙ e)

with_some : (task : ℕ) (successors : List ℕ) → successors ≢ [] → unless_over task [] successors ≡ Some (record { task = task; leaves = []; successors = successors })
with_some task [] n = absurd (n refl)
with_some task (s ∷ ss) n = refl

module _ (shape : Shape) (task : ℕ) (start worked given : SeatView) (over : worked.holds ≡ over_view shape task) (gave : given.holds ≡ record worked.holds { chains = [] }) where
  ended : given.holds ≡ record { chains = []; out = []; running = unless_over task [] (task_at shape task).successors }
  ended = gave ∙ ap (λ (w : View). record w { chains = [] }) over

  runs : (task_at shape task).successors ≢ [] → given.holds.running ≡ Some (record { task = task; leaves = []; successors = (task_at shape task).successors })
  runs some = ap (λ (w : View). w.running) ended ∙ with_some task (task_at shape task).successors some

  pub can_release : (task_at shape task).successors ≢ [] → CanRelease given.holds
  can_release some = record { running = record { task = task; leaves = []; successors = (task_at shape task).successors }; runs = runs some; returned = refl; left = some }

  module _ (place : worked.place ≡ start.place) (place' : given.place ≡ worked.place) (quiet : GrewQuietly start.notes worked.notes) (quiet' : GrewQuietly worked.notes given.notes) where
    -- they were released
    pub done_with_some : (end : SeatView) (ready ready' : List ℕ) → (task_at shape task).successors ≢ [] → ((running : Running) → given.holds.running ≡ Some running → IsOver running.successors given end ready ready')
        → HasDone shape task start end ready ready'
    done_with_some end ready ready' some all =
        let o = all (record { task = task; leaves = []; successors = (task_at shape task).successors }) (runs some) in record {
          place = o.place ∙ place' ∙ place;
          holds = o.holds ∙ ap (λ (w : View). record w { running = None }) ended;
          middle = given.notes;
          quiet = quiet_twice start.notes worked.notes given.notes quiet quiet';
          further = o.further;
          notes = o.notes;
          releases = o.releases;
          freed = o.freed;
        }

    -- there were none
    pub done_with_none : (ready : List ℕ) → (task_at shape task).successors ≡ [] → HasDone shape task start given ready ready
    done_with_none ready none = record {
      place = place' ∙ place;
      holds = ended ∙ ap (λ (ss : List ℕ). record { chains = []; out = []; running = unless_over task [] ss }) none;
      middle = given.notes;
      quiet = quiet_twice start.notes worked.notes given.notes quiet quiet';
      further = [];
      notes = sym (append-nil given.notes);
      releases = (All-nil (λ (note : Note). note.kind ≡ Kind.Release), sym none);
      freed = sym (append-nil ready);
    }
