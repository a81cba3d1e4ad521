-- From the blocks of a closed table, on which the claimed tasks are done, to those on which all are.
use Rattle.std.proofs.Common.{◌≡◌, ◌⊎◌, ◌↔◌, ℕ, ◌+◌, ◌<◌, List, length, drop, get_or, Contains, refl, sym, ap, inl, inr, ◌∙◌, subst, arith}
use Rattle.std.specs.List.{refill}
use Rattle.std.proofs.lemmas.Bool.{cases_lt}
use Rattle.std.proofs.lemmas.List.{take_at}
use Rattle.lists.proofs.Counts.{cases_Contains}
use Rattle.qs_core.specs.Shape.{Shape, IsShape, Touches, leaves_of}
use Rattle.qs_core.specs.Blocks.{AreDone}
use Rattle.qs_core.proofs.Events.{path-up}
use Rattle.qs_table.specs.Blocks.{ClosedView, IsClaimedTask, IsTaken}
use Rattle.qs_run.specs.Blocks.{AreAllDone}
use Rattle.qs_run.specs.inner.Steps.{CanDo, IsDoneOn}

-- a number below the next one
cases_below : (t task : ℕ) → t < task + 1 → (t < task) ⊎ (t ≡ task)
cases_below t task l = elim (cases_lt t task) [ inl m ↦ inl m | inr m ↦ inr (omega arith) ]

-- the tasks below a number, and those that are claimed by these words
abbrev pub IsPassed : Shape → List ℕ → ℕ → ℕ → Type 0
IsPassed shape words number task = (task < length shape.tasks) × ((task < number) ⊎ IsTaken shape words task)

module _ {B : Type 0} (shape : Shape) (fits : ℕ → B → Type 0) (done : B → List ℕ) where
  -- a task that is done comes to those before
  done_more : (which after_it : ℕ → Type 0) (task : ℕ) (before after : List B) → ((t : ℕ) → after_it t ↔ (which t ⊎ (t ≡ task))) → AreDone shape fits done which before
      → IsDoneOn shape task fits done before after → AreDone shape fits done after_it after
  done_more which after_it task before after more is on = record {
    fitting = record { one_each = on.one_each ∙ is.fitting.one_each; each = λ leaf d l. fitting leaf d l (cases_Contains (leaves_of shape task) leaf) };
    tasks = λ leaf d l. tasks leaf d l (cases_Contains (leaves_of shape task) leaf);
  }
    where
      fitting : (leaf : ℕ) (d : B) → leaf < shape.leaves → Touches shape task leaf ⊎ (Touches shape task leaf → ⊥) → fits leaf (get_or after leaf d)
      fitting leaf d l (inl t) = (on.added leaf d t).fitting
      fitting leaf d l (inr n) = subst (fits leaf) (sym (on.others leaf d n)) (is.fitting.each leaf d l)

      tasks : (leaf : ℕ) (d : B) → leaf < shape.leaves → Touches shape task leaf ⊎ (Touches shape task leaf → ⊥) → (t : ℕ) → (Contains (done (get_or after leaf d)) t ↔ (after_it t × Touches shape t leaf))
      tasks leaf d l (inl touched) t =
          let added = (on.added leaf d touched).tasks t in
          let was = is.tasks leaf d l t in (
            λ c. elim (added.0 c) [ inl b ↦ let w = was.0 b in ((more t).1 (inl w.0), w.1) | inr e ↦ ((more t).1 (inr e), subst (λ x. Touches shape x leaf) (sym e) touched) ],
            λ h. added.1 (elim ((more t).0 h.0) [ inl w ↦ inl (was.1 (w, h.1)) | inr e ↦ inr e ]),
          )
      tasks leaf d l (inr not) t =
          let was = is.tasks leaf d l t in
          let same = on.others leaf d not in (
            λ c. let w = was.0 (subst (λ b. Contains (done b) t) same c) in ((more t).1 (inl w.0), w.1),
            λ h. subst (λ b. Contains (done b) t) (sym same) (elim ((more t).0 h.0) [ inl w ↦ was.1 (w, h.1) | inr e ↦ absurd (not (subst (λ x. Touches shape x leaf) e h.1)) ]),
          )

  -- the same tasks in other words
  same_done : (which other : ℕ → Type 0) (blocks : List B) → ((task : ℕ) → (which task ↔ other task)) → AreDone shape fits done which blocks → AreDone shape fits done other blocks
  same_done which other blocks same is = record {
    fitting = is.fitting;
    tasks = λ leaf d l task. (
      λ c. let was = (is.tasks leaf d l task).0 c in ((same task).0 was.0, was.1),
      λ h. (is.tasks leaf d l task).1 ((same task).1 h.0, h.1),
    );
  }

  -- a table with these words, on whose blocks the claimed tasks are done, and those below a number
  pub record HasPassed (words : List ℕ) (number : ℕ) (closed : ClosedView B) : Type 0 where
    pub same_shape : closed.shape ≡ shape
    pub same_words : closed.words ≡ words
    pub passed : AreDone shape fits done (IsPassed shape words number) closed.blocks

  -- at first just the claimed ones are done
  pub passed_none : (closed : ClosedView B) → closed.shape ≡ shape → AreDone shape fits done (IsClaimedTask shape closed.words) closed.blocks → HasPassed closed.words 0 closed
  passed_none closed e is = record {
    same_shape = e;
    same_words = refl;
    passed = same_done (IsClaimedTask shape closed.words) (IsPassed shape closed.words 0) closed.blocks (λ task. (λ c. (c.0, inr c.1), λ p. (p.0, elim p.1 [ inl l ↦ absurd (omega arith) | inr t ↦ t ]))) is;
  }

  module _ (words : List ℕ) (task : ℕ) (closed : ClosedView B) (at : HasPassed words task closed) where
    -- whether a task was claimed, as the table answers
    taken_is : IsTaken closed.shape closed.words task ≡ IsTaken shape words task
    taken_is = ap (λ s. IsTaken s closed.words task) at.same_shape ∙ ap (λ ws. IsTaken shape ws task) at.same_words

    -- a task that isn't claimed can be done at its number
    pub can_do_next : IsShape shape → (IsTaken closed.shape closed.words task → ⊥) → task < length shape.tasks → CanDo shape task fits done closed.blocks
    can_do_next laws free l =
        let is = at.passed in record {
          one_each = is.fitting.one_each;
          ready = λ leaf d here touched. record {
            fitting = is.fitting.each leaf d here;
            not_done = λ c. elim ((is.tasks leaf d here task).0 c).0.1 [ inl m ↦ omega arith | inr t ↦ free (subst (λ X. X) (sym taken_is) t) ];
            before = λ earlier precedes touches.
                let m = path-up shape earlier precedes.0 task laws precedes.1 in
                (is.tasks leaf d here earlier).1 ((omega arith, inl m), touches);
          };
        }

    -- one that is claimed is passed over
    pub passed_over : IsTaken closed.shape closed.words task → HasPassed words (task + 1) closed
    passed_over taken = record {
      same_shape = at.same_shape;
      same_words = at.same_words;
      passed = same_done (IsPassed shape words task) (IsPassed shape words (task + 1)) closed.blocks (λ t. (λ p. (p.0, wider t p.1), λ p. (p.0, narrower t p.1))) at.passed;
    }
      where
        wider : (t : ℕ) → (t < task) ⊎ IsTaken shape words t → (t < task + 1) ⊎ IsTaken shape words t
        wider t (inl l) = inl (omega arith)
        wider t (inr k) = inr k

        narrower : (t : ℕ) → (t < task + 1) ⊎ IsTaken shape words t → (t < task) ⊎ IsTaken shape words t
        narrower t (inl l) = elim (cases_below t task l) [ inl m ↦ inl m | inr e ↦ inr (subst (IsTaken shape words) (sym e) (subst (λ X. X) taken_is taken)) ]
        narrower t (inr k) = inr k

    -- one that was done on the blocks, which were lent whole, is passed
    pub passed_done : (lent after : List B) → lent ≡ closed.blocks → task < length shape.tasks → IsDoneOn shape task fits done lent after
        → HasPassed words (task + 1) (record closed { blocks = refill (length closed.blocks) closed.blocks after })
    passed_done lent after e l on = record {
      same_shape = at.same_shape;
      same_words = at.same_words;
      passed = subst (AreDone shape fits done (IsPassed shape words (task + 1))) (sym (take_at after (drop (length after) closed.blocks) (length closed.blocks) (on.one_each ∙ ap length e)))
          (done_more (IsPassed shape words task) (IsPassed shape words (task + 1)) task closed.blocks after (λ t. (there t, back t)) at.passed (subst (λ bs. IsDoneOn shape task fits done bs after) e on));
    }
      where
        there : (t : ℕ) → IsPassed shape words (task + 1) t → IsPassed shape words task t ⊎ (t ≡ task)
        there t p = elim p.1 [ inl m ↦ elim (cases_below t task m) [ inl b ↦ inl (p.0, inl b) | inr e ↦ inr e ] | inr k ↦ inl (p.0, inr k) ]

        back : (t : ℕ) → IsPassed shape words task t ⊎ (t ≡ task) → IsPassed shape words (task + 1) t
        back t (inl p) = (p.0, elim p.1 [ inl b ↦ inl (omega arith) | inr k ↦ inr k ])
        back t (inr e) = (omega arith, inl (omega arith))

  -- behind the last number all is done
  pub passed_all : (words : List ℕ) (number : ℕ) (closed : ClosedView B) (blocks : List B) → number ≡ length shape.tasks → blocks ≡ closed.blocks → HasPassed words number closed → AreAllDone shape fits done blocks
  passed_all words number closed blocks e same at =
      subst (AreAllDone shape fits done) (sym same) (same_done (IsPassed shape words number) (λ task. task < length shape.tasks) closed.blocks (λ task. (λ p. p.0, λ l. (l, inl (omega arith)))) at.passed)
