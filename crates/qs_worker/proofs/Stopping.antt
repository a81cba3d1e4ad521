-- A worker stops: each turn that ran a task claims one more, and there are just so many.
use Rattle.std.proofs.Common.{◌≡◌, ◌⊎◌, ℕ, ◌+◌, ◌-◌, ◌*◌, ◌<◌, ◌≤◌, All, cond, List, [], ◌∷◌, ◌++◌, count_by, length, sum_by, refl, sym, ap, ◌∙◌, subst, inl, inr, append_assoc, append-nil, arith}
use Rattle.std.specs.List.{range_with_len}
use Rattle.std.proofs.lemmas.Bool.{cases_eq}
use Rattle.std.proofs.lemmas.List.{length_push}
use Rattle.std.proofs.lemmas.List.Concat.{flat_map-append}
use Rattle.std.proofs.lemmas.List.Elements.{All-nil, All-push}
use Rattle.std.proofs.lemmas.List.Sums.{sum_by-append}
use Rattle.lists.proofs.Counts.{count-pos, one_if, one_if-le, one_if-other, one_if-same}
use Rattle.lists.proofs.Ranges.{Contains-numbers}
use Rattle.lists.proofs.Sums.{sum_by-add, sum_by-le_each}
use Rattle.qs_core.specs.declared.event.Note.{Note}
use Rattle.qs_core.specs.Shape.{Shape}
use Rattle.qs_table.specs.Notes.{claims_task}
use Rattle.qs_queues.specs.Seats.{QueuesView}
use Rattle.qs_worker.specs.declared.turn.Turn.{Turn}
use Rattle.qs_worker.specs.declared.turn.Turn.TheVariants.{Over, Ran, Idle}
use Rattle.qs_worker.specs.Turns.{Turned, WorkerView}
use Rattle.qs_worker.specs.Worked.{AreIdle, AreTurns, HasRun, UntilStop, Worked, joined}
use Rattle.qs_worker.specs.inner.Idling.{idle_turns_left}
use Rattle.qs_worker.proofs.Claiming.{is_claimed}

-- how many tasks the seat hasn't claimed
abbrev pub unclaimed : Shape → List Note → ℕ
unclaimed shape notes = sum_by (λ (t : ℕ). one_if (count_by (claims_task t) notes) 0) (range_with_len 0 (length shape.tasks))

counts_more : (t : ℕ) (old more : List Note) → count_by (claims_task t) (old ++ more) ≡ count_by (claims_task t) old + count_by (claims_task t) more
counts_more t old more = sum_by-append (λ (n : Note). cond {A = ℕ} (claims_task t n) 1 0) old more

fewer_none : (a b c : ℕ) → c ≡ a + b → one_if c 0 ≤ one_if a 0
fewer_none a b c is = elim (cases_eq a 0) [
  | inl e ↦ let one = one_if-same a 0 e in let few = one_if-le c 0 in omega arith
  | inr n ↦ let none = one_if-other c 0 (λ z. n (omega arith)) in omega arith
]

pub no_more : (shape : Shape) (old more new : List Note) → new ≡ old ++ more → unclaimed shape new ≤ unclaimed shape old
no_more shape old more new is = subst (λ (ns : List Note). unclaimed shape ns ≤ unclaimed shape old) (sym is)
    (sum_by-le_each (λ (t : ℕ). one_if (count_by (claims_task t) (old ++ more)) 0) (λ (t : ℕ). one_if (count_by (claims_task t) old) 0) (range_with_len 0 (length shape.tasks))
    (λ t c. fewer_none (count_by (claims_task t) old) (count_by (claims_task t) more) (count_by (claims_task t) (old ++ more)) (counts_more t old more)))

-- a task more was claimed
module _ (shape : Shape) (task : ℕ) (old more : List Note) (within : task < length shape.tasks) (none : count_by (claims_task task) old ≡ 0) (some : 0 < count_by (claims_task task) more) where
  each_less : (t : ℕ) → one_if (count_by (claims_task t) (old ++ more)) 0 + one_if t task ≤ one_if (count_by (claims_task t) old) 0
  each_less t = elim (cases_eq t task) [
    | inl e ↦
        let none' = subst (λ (k : ℕ). count_by (claims_task k) old ≡ 0) (sym e) none in
        let some' = subst (λ (k : ℕ). 0 < count_by (claims_task k) more) (sym e) some in
        let sum = counts_more t old more in
        let before = one_if-same (count_by (claims_task t) old) 0 none' in
        let after = one_if-other (count_by (claims_task t) (old ++ more)) 0 (λ z. omega arith) in
        let one = one_if-same t task e in
        omega arith
    | inr n ↦
        let few = fewer_none (count_by (claims_task t) old) (count_by (claims_task t) more) (count_by (claims_task t) (old ++ more)) (counts_more t old more) in
        let zero = one_if-other t task n in
        omega arith
  ]

  one_less : unclaimed shape (old ++ more) < unclaimed shape old
  one_less =
      let range = range_with_len 0 (length shape.tasks) in
      let all = sum_by-le_each (λ (t : ℕ). one_if (count_by (claims_task t) (old ++ more)) 0 + one_if t task) (λ (t : ℕ). one_if (count_by (claims_task t) old) 0) range (λ t c. each_less t) in
      let both = sum_by-add (λ (t : ℕ). one_if (count_by (claims_task t) (old ++ more)) 0) (λ (t : ℕ). one_if t task) range in
      let one = count-pos range task (Contains-numbers (length shape.tasks) task within) in
      omega (arith, all, both, one)

-- the turns of a worker that may be Idle for so many more: stretches that each ended with a task that ran, and then as many turns that were Idle as make up the rest
pub record IsIdling (left : ℕ) (answers : List Turn) : Type 0 where
  pub stretches : List (List Turn)
  pub idle : List Turn
  pub is : answers ≡ joined stretches ++ idle
  pub each : All (HasRun 65536) stretches
  pub are_idle : AreIdle idle
  pub sum : length idle + left ≡ 65536

-- it is going on, or has stopped with Over
abbrev Stands : ℕ → List Turn → Type 0
Stands left answers = ((left ≡ 0) × UntilStop 65536 answers) ⊎ IsIdling left answers

one_at_end : (a b c : List Turn) (x : Turn) → a ≡ b ++ c → a ++ x ∷ [] ≡ b ++ (c ++ x ∷ [])
one_at_end a b c x is = ap (λ (ts : List Turn). ts ++ x ∷ []) is ∙ append_assoc b c (x ∷ [])

one_stretch : (stretches : List (List Turn)) (stretch : List Turn) → joined (stretches ++ stretch ∷ []) ≡ joined stretches ++ stretch
one_stretch stretches stretch = flat_map-append (λ (ts : List Turn). ts) stretches (stretch ∷ []) ∙ ap (λ (ts : List Turn). joined stretches ++ ts) (append-nil stretch)

stands_then : (answer : Turn) (answers : List Turn) (left left' : ℕ) → 0 < left → left' ≡ idle_turns_left answer left → Stands left answers → Stands left' (answers ++ answer ∷ [])
stands_then answer answers left left' some is (inl o) = let none = o.0 in absurd (omega arith)
stands_then Over answers left left' some is (inr i) =
    let sum = i.sum in
    inl (
      is,
      record {
        stretches = i.stretches;
        last = i.idle ++ Over ∷ [];
        is = one_at_end answers (joined i.stretches) i.idle Over i.is;
        each = i.each;
        ended = inl (record { idle = i.idle; is = refl; few = omega arith; are_idle = i.are_idle });
      },
    )
stands_then (Ran task) answers left left' some is (inr i) =
    let sum = i.sum in
    let all : left' ≡ 65536 = is in
    let stretch : List Turn = i.idle ++ Ran task ∷ [] in
    inr (record {
      stretches = i.stretches ++ stretch ∷ [];
      idle = [];
      is = one_at_end answers (joined i.stretches) i.idle (Ran task) i.is ∙ sym (one_stretch i.stretches stretch) ∙ sym (append-nil (joined (i.stretches ++ stretch ∷ [])));
      each = All-push (HasRun 65536) i.stretches stretch i.each (task, record { idle = i.idle; is = refl; few = omega arith; are_idle = i.are_idle });
      are_idle = All-nil (λ (a : Turn). a ≡ Idle);
      sum = omega arith;
    })
stands_then Idle answers left left' some is (inr i) =
    let one : left' ≡ left - 1 = is in
    let sum = i.sum in
    let long = length_push i.idle Idle in
    inr (record {
      stretches = i.stretches;
      idle = i.idle ++ Idle ∷ [];
      is = one_at_end answers (joined i.stretches) i.idle Idle i.is;
      each = i.each;
      are_idle = All-push (λ (a : Turn). a ≡ Idle) i.idle Idle i.are_idle refl;
      sum = omega arith;
    })

-- none may be Idle
stopped_then : (left : ℕ) (answers : List Turn) → left ≡ 0 → Stands left answers → UntilStop 65536 answers
stopped_then left answers none (inl o) = o.1
stopped_then left answers none (inr i) =
    let sum = i.sum in
    record { stretches = i.stretches; last = i.idle; is = i.is; each = i.each; ended = inr (record { many = omega arith; are_idle = i.are_idle }) }

module _ {P : Type 0} (shape : Shape) (queues : QueuesView) where
  -- what is left to a worker falls with each turn
  pub falls : (answer : Turn) (before after : WorkerView P) (left left' : ℕ) → Turned shape queues answer before after → 0 < left → left' ≡ idle_turns_left answer left
      → unclaimed shape after.lock_seat.view.notes * 65536 + left' < unclaimed shape before.lock_seat.view.notes * 65536 + left
  falls Over before after left left' t some is =
      let none : left' ≡ 0 = is in
      let few = no_more shape before.lock_seat.view.notes t.locks after.lock_seat.view.notes t.lock_notes in
      omega arith
  falls Idle before after left left' t some is =
      let one : left' ≡ left - 1 = is in
      let few = no_more shape before.lock_seat.view.notes t.locks after.lock_seat.view.notes t.lock_notes in
      omega arith
  falls (Ran task) before after left left' t some is =
      let d = t.ends.2 in
      let all : left' ≡ 65536 = is in
      let less : unclaimed shape after.lock_seat.view.notes < unclaimed shape before.lock_seat.view.notes =
      subst (λ (ns : List Note). unclaimed shape ns < unclaimed shape before.lock_seat.view.notes) (sym t.lock_notes)
      (one_less shape task before.lock_seat.view.notes t.locks d.is_task d.new (is_claimed task t.locks d.claimed)) in
      omega arith

  -- the turns of a worker that may be Idle for so many more
  pub record Going (left : ℕ) (before now : WorkerView P) : Type 0 where
    pub answers : List Turn
    pub turns : AreTurns shape queues answers before now
    pub stands : ((left ≡ 0) × UntilStop 65536 answers) ⊎ IsIdling left answers

  turns_more : (answers : List Turn) (last : Turn) (a b c : WorkerView P) → AreTurns shape queues answers a b → Turned shape queues last b c → AreTurns shape queues (answers ++ last ∷ []) a c
  turns_more [] last a b c is t = (c, subst (λ (s : WorkerView P). Turned shape queues last s c) is t, refl)
  turns_more (x ∷ xs) last a b c turns t = (turns.0, turns.1, turns_more xs last turns.0 b c turns.2 t)

  pub none_worked : (v : WorkerView P) → Going 65536 v v
  none_worked v = record { answers = []; turns = refl; stands = inr (record { stretches = []; idle = []; is = refl; each = All-nil (HasRun 65536); are_idle = All-nil (λ (a : Turn). a ≡ Idle); sum = refl }) }

  -- one turn more
  pub one_worked : (answer : Turn) (left left' : ℕ) (a b c : WorkerView P) → Going left a b → Turned shape queues answer b c → 0 < left → left' ≡ idle_turns_left answer left → Going left' a c
  one_worked answer left left' a b c w t some is = record {
    answers = w.answers ++ answer ∷ [];
    turns = turns_more w.answers answer a b c w.turns t;
    stands = stands_then answer w.answers left left' some is w.stands;
  }

  pub all_worked : (left : ℕ) (a b : WorkerView P) → Going left a b → left ≡ 0 → Worked shape queues 65536 a b
  all_worked left a b w none = record { answers = w.answers; turns = w.turns; stopped = stopped_then left w.answers none w.stands }
