-- One try more by a trial: what it does to the seat, and which tasks were refused.
use Rattle.std.proofs.Common.{◌≡◌, ◌⊎◌, ◌&&◌, ◌^◌, ℕ, ◌<◌, ◌≤◌, Bool, true, false, cond, List, [], ◌∷◌, ◌++◌, count_by, drop, length, sum_by, Option, Some, None, refl, sym, ap, ◌∙◌, subst, inl, inr, append_assoc, eq-eqb, ne_eqb, arith}
use Rattle.std.specs.Option.{option_to_list}
use Rattle.std.proofs.lemmas.Option.{none-some, same_Some}
use Rattle.std.proofs.lemmas.List.Elements.{Contains-append_left, Contains-append_right, Contains-push}
use Rattle.std.proofs.lemmas.List.Sums.{sum_by-append, sum_by_push}
use Rattle.qs_core.specs.declared.event.Note.{Note}
use Rattle.qs_core.specs.declared.event.Step.TheVariants as Step
use Rattle.qs_core.specs.Shape.{Shape, task_at}
use Rattle.qs_core.specs.Core.{View, empty_view}
use Rattle.qs_core.specs.Steps.{CanClaim, HasReturned, OwnsJust, started}
use Rattle.qs_table.specs.declared.answers.Claim.{Claim}
use Rattle.qs_table.specs.declared.answers.Claim.TheVariants.{Taken, Waiting}
use Rattle.qs_table.specs.declared.answers.Try.TheVariants.{Busy}
use Rattle.qs_table.specs.declared.view.SeatView.{SeatView}
use Rattle.qs_table.specs.Claims.{Answered}
use Rattle.qs_table.specs.Notes.{claims_task}
use Rattle.qs_table.specs.Seats.{IsIdle}
use Rattle.qs_table.specs.Tries.{Stepped, TriedTask, cells_of_task, with_cells}
use Rattle.qs_table.specs.Views.{knows_after, noted}
use Rattle.qs_worker.specs.Refusals.{WasRefused}
use Rattle.qs_worker.specs.inner.Claimed.{claimed_view, got_view}
use Rattle.qs_worker.specs.inner.Leaves.{GrewClaiming, GrewQuietly}
use Rattle.qs_worker.specs.inner.Trials.{HasTaken, IsTrying, WasTried, since}
use Rattle.qs_worker.proofs.Quiet.{none_got, quiet_cells, quiet_then, quiet_twice}

-- a seat that owns and runs nothing holds nothing, where no leaf is out
pub empty_from_idle : (view : View) → IsIdle view → view.out ≡ [] → view ≡ empty_view
empty_from_idle view idle out = rw (sym idle.owns_none, sym out, sym idle.runs_none) refl

-- and one that holds nothing owns and runs nothing
pub idle_from_empty : (view : View) → view ≡ empty_view → IsIdle view
idle_from_empty view is = record { owns_none = ap (λ (w : View). w.chains) is; runs_none = ap (λ (w : View). w.running) is }

just_cells : (shape : Shape) (first : ℕ) (second : Option ℕ) → with_cells shape empty_view (first ∷ option_to_list second) ≡ record empty_view { chains = (with_cells shape empty_view (first ∷ option_to_list second)).chains }
just_cells shape first None = refl
just_cells shape first (Some second) = refl

module _ (shape : Shape) (task : ℕ) where
  -- after a try that got them a seat that held nothing has just the cells
  pub got_is : (before got : SeatView) → before.holds ≡ empty_view → Stepped before got (with_cells shape before.holds (cells_of_task shape task)) → got.holds ≡ got_view shape task
  got_is before got none s = s.holds ∙ ap (λ (w : View). with_cells shape w (cells_of_task shape task)) none ∙ just_cells shape (task_at shape task).first (task_at shape task).second

  module _ (got : SeatView) (is : got.holds ≡ got_view shape task) where
    pub can_claim : task < length shape.tasks → OwnsJust shape got.holds task → CanClaim shape got.holds task
    can_claim l owns = record { is_task = l; owns = owns; free = record { none_out = ap (λ (w : View). w.out) is; none_runs = ap (λ (w : View). w.running) is } }

    -- after a claim that saw 0 the task runs
    pub claimed_is : (claimed : SeatView) → claimed ≡ knows_after shape got (Step.Claim task) 0 → claimed.holds ≡ claimed_view shape task
    claimed_is claimed e = ap (λ (v : SeatView). v.holds) e ∙ ap (λ (w : View). record w { running = Some (started shape task) }) is

  claims_it : (got : SeatView) → claims_task task (noted shape got (Step.Claim task) 0) ≡ true
  claims_it got = ap (λ (b : Bool). b && true) (eq-eqb task task refl)

  -- a claim frees no task
  claim_got : (got claimed : SeatView) → claimed ≡ knows_after shape got (Step.Claim task) 0 → GrewClaiming (task ∷ []) got.notes claimed.notes
  claim_got got claimed e = record { further = noted shape got (Step.Claim task) 0 ∷ []; is = ap (λ (v : SeatView). v.notes) e; frees_none = refl; claims = refl }

  abbrev claim_lost : (seen : ℕ) (got asked : SeatView) → 0 < seen → asked ≡ knows_after shape got (Step.Claim task) seen → GrewQuietly got.notes asked.notes
  claim_lost seen got asked some e = record { further = noted shape got (Step.Claim task) seen ∷ []; is = ap (λ (v : SeatView). v.notes) e; frees_none = refl; claims = none_got task seen some }

-- a claim that saw another word than 0
pub record Lost (shape : Shape) (task : ℕ) (got asked : SeatView) : Type 0 where
  pub seen : ℕ
  pub more : 0 < seen
  pub is : asked ≡ knows_after shape got (Step.Claim task) seen

pub is_lost : (shape : Shape) (task : ℕ) (answer : Claim) (got asked : SeatView) → ((seen : ℕ) × (answer ≡ Waiting seen)) ⊎ (answer ≡ Taken) → Answered shape task got answer asked → Lost shape task got asked
is_lost shape task answer got asked (inl w) a = let c = subst (λ x. Answered shape task got x asked) w.1 a in record { seen = w.0; more = c.1; is = c.0 }
is_lost shape task answer got asked (inr t) a = record { seen = 2 ^ 63; more = omega arith; is = subst (λ x. Answered shape task got x asked) t a }

module _ (shape : Shape) (task : ℕ) (got asked : SeatView) (lost : Lost shape task got asked) where
  -- it changes nothing that the seat holds
  lost_holds : asked.holds ≡ got.holds
  lost_holds =
      ap (λ (v : SeatView). v.holds) lost.is
      ∙ ap (λ (b : Bool). cond {A = View} b (record got.holds { running = Some (started shape task) }) got.holds) (ne_eqb lost.seen 0 (λ e. let m = lost.more in omega arith))

  module _ (is : got.holds ≡ got_view shape task) where
    -- so the cells can be given back
    pub lost_is : asked.holds ≡ got_view shape task
    lost_is = lost_holds ∙ is

    pub lost_chains : asked.holds.chains ≡ (got_view shape task).chains
    lost_chains = ap (λ (w : View). w.chains) lost_is

    pub lost_none_out : asked.holds.out ≡ []
    lost_none_out = ap (λ (w : View). w.out) lost_is

    pub lost_returned : HasReturned asked.holds.running
    lost_returned = subst HasReturned (sym (ap (λ (w : View). w.running) lost_is)) tt

    -- which leaves nothing
    pub given_back : (given : SeatView) → given.holds ≡ record asked.holds { chains = [] } → given.holds ≡ empty_view
    given_back given gave = gave ∙ ap (λ (w : View). record w { chains = [] }) lost_is

-- the notes since the start
dropped : {X : Type 0} (xs ys : List X) → drop (length xs) (xs ++ ys) ≡ ys
dropped [] ys = refl
dropped (x ∷ xs) ys = dropped xs ys

pub since_is : (start now further : List Note) → now ≡ start ++ further → since start now ≡ further
since_is start now further e = ap (drop (length start)) e ∙ dropped start further

-- what was refused stays so when more notes come
pub refused_more : (shape : Shape) (xs ys : List Note) (task : ℕ) → WasRefused shape xs task → WasRefused shape (xs ++ ys) task
refused_more shape xs ys task r = record { note = r.note; stands = Contains-append_left xs ys r.note r.stands; shows = r.shows }

module _ (shape : Shape) (start now : List Note) {tasks : List ℕ} (grown : GrewClaiming tasks start now) where
  pub still_refused : (new : List Note) {tasks' : List ℕ} → GrewClaiming tasks' now new → (task : ℕ) → WasRefused shape (since start now) task → WasRefused shape (since start new) task
  still_refused new more task r =
      let all : new ≡ start ++ (grown.further ++ more.further) = more.is ∙ ap (λ (ns : List Note). ns ++ more.further) grown.is ∙ append_assoc start grown.further more.further in
      subst (λ (ns : List Note). WasRefused shape ns task) (sym (since_is start new (grown.further ++ more.further) all))
      (refused_more shape grown.further more.further task (subst (λ (ns : List Note). WasRefused shape ns task) (since_is start now grown.further grown.is) r))

-- a claim of the task that is the seat's only one wasn't made before
new_claim : (task : ℕ) (start front all : List Note) (note : Note) → all ≡ start ++ (front ++ note ∷ []) → claims_task task note ≡ true → count_by (claims_task task) all ≤ 1 → count_by (claims_task task) start ≡ 0
new_claim task start front all note is claims once =
    let whole = ap (sum_by (λ (n : Note). cond {A = ℕ} (claims_task task n) 1 0)) is in
    let parts = sum_by-append (λ (n : Note). cond {A = ℕ} (claims_task task n) 1 0) start (front ++ note ∷ []) in
    let last = sum_by_push (λ (n : Note). cond {A = ℕ} (claims_task task n) 1 0) front note in
    let one : cond {A = ℕ} (claims_task task note) 1 0 ≡ 1 = ap (λ (b : Bool). cond {A = ℕ} b 1 0) claims in
    omega arith

module _ (shape : Shape) (start now : SeatView) (taken : Option ℕ) (t : IsTrying shape start now taken) where
  -- nothing was taken, and the seat holds nothing
  pub tries_on : (new : SeatView) → taken ≡ None → new.place ≡ now.place → GrewQuietly now.notes new.notes → new.holds ≡ empty_view → IsTrying shape start new taken
  tries_on new none place more empty = record {
    place = place ∙ t.place;
    grown = quiet_then start.notes now.notes new.notes t.grown more;
    none = λ e. empty;
    some = λ task e. absurd (none-some task (sym none ∙ e));
  }

  -- one task more was refused
  pub refuses : (task : ℕ) (new : SeatView) → taken ≡ None → WasTried shape task now false new → IsTrying shape start new taken × WasRefused shape (since start.notes new.notes) task
  refuses task new none w = (
    tries_on new none w.place w.grown w.outcome.0,
    (let r = w.outcome.1 in
        subst (λ (ns : List Note). WasRefused shape ns task) (sym (since_is start.notes new.notes (t.grown.further ++ w.grown.further) (w.grown.is ∙ ap (λ (ns : List Note). ns ++ w.grown.further) t.grown.is ∙ append_assoc start.notes t.grown.further w.grown.further)))
        (record { note = r.note; stands = Contains-append_right t.grown.further w.grown.further r.note r.stands; shows = r.shows })),
  )

  -- the task was taken
  pub takes : (task : ℕ) (new : SeatView) → taken ≡ None → WasTried shape task now true new → IsTrying shape start new (Some task)
  takes task new nothing w =
      let h = w.outcome in
      let last = h.front ++ h.claim ∷ [] in
      let old = ap (sum_by (λ (n : Note). cond {A = ℕ} (claims_task task n) 1 0)) t.grown.is in
      let parts = sum_by-append (λ (n : Note). cond {A = ℕ} (claims_task task n) 1 0) start.notes t.grown.further in
      let none = h.new in
      let took : HasTaken shape task start new = record {
        is_task = h.is_task;
        holds = h.holds;
        new = omega arith;
        front = t.grown.further ++ h.front;
        claim = h.claim;
        is = h.is
            ∙ ap (λ (ns : List Note). ns ++ last) t.grown.is
            ∙ append_assoc start.notes t.grown.further last
            ∙ ap (λ (ns : List Note). start.notes ++ ns) (sym (append_assoc t.grown.further h.front (h.claim ∷ [])));
        claims = h.claims;
      } in
      record {
        place = w.place ∙ t.place;
        grown = quiet_twice start.notes now.notes new.notes (subst (λ (o : Option ℕ). GrewClaiming (option_to_list o) start.notes now.notes) nothing t.grown) w.grown;
        none = λ z. absurd (none-some task (sym z));
        some = λ other z. subst (λ (k : ℕ). HasTaken shape k start new) (same_Some task other z) took;
      }

-- what one try of a task leaves of a seat that held nothing
module _ (shape : Shape) (task : ℕ) (before : SeatView) (none : before.holds ≡ empty_view) where
  pub busy_tried : (at seen : ℕ) (after : SeatView) → TriedTask shape task before (Busy at seen) after → WasTried shape task before false after
  busy_tried at seen after busy =
      let b = busy.1 in
      let l = b.legal in record {
        place = busy.0.place;
        grown = quiet_cells before.notes after.notes l.grew;
        outcome = (busy.0.holds ∙ none, record { note = l.note; stands = l.stands; shows = inl (record { cell = b.cell; of_task = b.of_task; at = at; seen = seen; cause = l.cause }) });
      }

  module _ (got : SeatView) (steps : Stepped before got (with_cells shape before.holds (cells_of_task shape task))) where
    pub claimed_tried : (claimed : SeatView) → task < length shape.tasks → claimed ≡ knows_after shape got (Step.Claim task) 0 → ((k : ℕ) → count_by (claims_task k) claimed.notes ≤ 1) → WasTried shape task before true claimed
    claimed_tried claimed l e once =
        let front = quiet_cells before.notes got.notes steps.notes in
        let note = noted shape got (Step.Claim task) 0 in
        let all : claimed.notes ≡ before.notes ++ (front.further ++ note ∷ []) =
        ap (λ (v : SeatView). v.notes) e ∙ ap (λ (ns : List Note). ns ++ note ∷ []) front.is ∙ append_assoc before.notes front.further (note ∷ []) in
        record {
          place = ap (λ (v : SeatView). v.place) e ∙ steps.place;
          grown = quiet_twice before.notes got.notes claimed.notes front (claim_got shape task got claimed e);
          outcome = record {
            is_task = l;
            holds = claimed_is shape task got (got_is shape task before got none steps) claimed e;
            new = new_claim task before.notes front.further claimed.notes note all (claims_it shape task got) (once task);
            front = front.further;
            claim = note;
            is = all;
            claims = claims_it shape task got;
          };
        }

    pub lost_tried : (asked given : SeatView) → Lost shape task got asked → given.place ≡ asked.place → given.holds ≡ record asked.holds { chains = [] } → GrewQuietly asked.notes given.notes → WasTried shape task before false given
    lost_tried asked given lost place gave rest =
        let front = quiet_cells before.notes got.notes steps.notes in
        let note = noted shape got (Step.Claim task) lost.seen in
        record {
          place = place ∙ ap (λ (v : SeatView). v.place) lost.is ∙ steps.place;
          grown = quiet_twice before.notes asked.notes given.notes (quiet_twice before.notes got.notes asked.notes front (claim_lost shape task lost.seen got asked lost.more lost.is)) rest;
          outcome = (
            given_back shape task got asked lost (got_is shape task before got none steps) given gave,
            record {
              note = note;
              stands = Contains-append_left (front.further ++ note ∷ []) rest.further note (Contains-push front.further note);
              shows = inr (record { kind_is = refl; of_task = refl; not_free = λ z. let s : lost.seen ≡ 0 = z in let m = lost.more in omega arith });
            },
          );
        }
