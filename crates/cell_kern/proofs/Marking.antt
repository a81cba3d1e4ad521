-- The task is marked as done on one block after another.
use Rattle.std.proofs.Common.{◌≡◌, ◌≢◌, ℕ, ◌+◌, ◌<◌, ◌≤◌, true, List, length, get_or, set, Contains, length-set, inl, inr, subst, refl, sym, ap, ◌∙◌, arith}
use Rattle.std.proofs.lemmas.Bool.{cases_lt}
use Rattle.std.proofs.lemmas.List.{get_or-set_same, get_or-set_other, get_or_default}
use Rattle.cell_block.specs.declared.rows.BlockRows.{BlockRows}
use Rattle.cell_block.specs.declared.scene.Scene.{Scene}
use Rattle.cell_block.specs.Blocks.{AreReady}
use Rattle.cell_block.specs.Reading.{tasks_of}
use Rattle.cell_block.specs.Scene.{is_in, line_at, touches}
use Rattle.cell_block.specs.Tasks.{IsMarked}
use Rattle.cell_block.proofs.Added.{keeps_task}
use Rattle.cell_block.proofs.LeafMembers.{in_range}
use Rattle.cell_kern.specs.declared.members.Member.{Member}
use Rattle.cell_kern.specs.inner.Taking.{AreGivenTo, AreMarked, Densities, Forces, IsGiven, KeepTask, Sums}

-- the first blocks are marked, the others as they were
pub record AreMarkedTo (task upto : ℕ) (before after : List BlockRows) : Type 0 where
  pub same_length : length after ≡ length before
  pub done : (k : ℕ) (d : BlockRows) → k < upto → k < length before → IsMarked task (get_or before k d) (get_or after k d)
  pub rest : (k : ℕ) (d : BlockRows) → upto ≤ k → get_or after k d ≡ get_or before k d

pub none_marked : (task : ℕ) (blocks : List BlockRows) → AreMarkedTo task 0 blocks blocks
none_marked task blocks = record { same_length = refl; done = λ k d low inside. absurd (omega arith); rest = λ k d high. refl }

pub next_marked : (task i : ℕ) (before blocks after : List BlockRows) (e new : BlockRows) → i < length before → AreMarkedTo task i before blocks → IsMarked task (get_or blocks i e) new → after ≡ set blocks i new → AreMarkedTo task (i + 1) before after
next_marked task i before blocks after e new inside so_far marked written =
    let within : i < length blocks = omega (arith, so_far.same_length) in
    let other = λ (k : ℕ) (d : BlockRows) (ne : k ≢ i). ap (λ xs. get_or xs k d) written ∙ get_or-set_other blocks i k new d ne in
    record {
      same_length = ap length written ∙ length-set blocks i new ∙ so_far.same_length;
      done = λ k d low here. elim (cases_lt k i) [
        | inl below ↦ subst (IsMarked task (get_or before k d)) (sym (other k d (omega arith))) (so_far.done k d below here)
        | inr above ↦
            let at : k ≡ i = omega arith in
            let read = ap (λ xs. get_or xs i d) written ∙ get_or-set_same blocks i new d within in
            let was = get_or_default blocks i e d within ∙ so_far.rest i d (omega arith) in
            rw at (subst (IsMarked task (get_or before i d)) (sym read) (subst (λ (b : BlockRows). IsMarked task b new) was marked))
      ];
      rest = λ k d high. other k d (omega arith) ∙ so_far.rest k d (omega arith);
    }

pub all_marked : (task i : ℕ) (before after : List BlockRows) → length before ≤ i → AreMarkedTo task i before after → AreMarked task before after
all_marked task i before after high are = record { same_length = are.same_length; marked = λ k d inside. are.done k d (omega arith) inside }

pub next_keeps : (task i : ℕ) (before blocks : List BlockRows) (d : BlockRows) → i < length before → KeepTask task before → AreMarkedTo task i before blocks → Contains (tasks_of (get_or blocks i d)) task
next_keeps task i before blocks d inside keep so_far = subst (λ (b : BlockRows). Contains (tasks_of b) task) (sym (so_far.rest i d (omega arith))) (keep i d inside)

-- a block that is ready keeps the task, also after its members were given to
same_tasks : (sums : Sums) (before : BlockRows) (from : List Member) (after : BlockRows) → IsGiven sums before from after → tasks_of after ≡ tasks_of before
same_tasks Densities before from after is = ap tasks_of is.unchanged
same_tasks Forces before from after is = ap tasks_of is.unchanged

pub keep_task : (sums : Sums) (scene : Scene) (task : ℕ) (range : ℕ × ℕ) (blocks : List BlockRows) (from : List Member) (mids : List BlockRows) → task < length scene.tasks → ((leaf : ℕ) → is_in range leaf ≡ true → touches (line_at scene task) leaf ≡ true)
    → AreReady scene task range blocks → AreGivenTo sums blocks from mids → KeepTask task mids
keep_task sums scene task range blocks from mids number touched ready given =
    λ k d inside.
    let low : k < length blocks = omega (arith, given.same_length) in
    let leaf = range.0 + k in
    let this : is_in range leaf ≡ true = in_range range leaf (omega arith) (omega (arith, ready.one_each)) in
    subst (λ (ts : List ℕ). Contains ts task) (sym (same_tasks sums (get_or blocks k d) from (get_or mids k d) (given.given k d low)))
    (keeps_task scene task leaf (get_or blocks k d) number (touched leaf this) (ready.ready k d low).agrees)
