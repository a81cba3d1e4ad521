-- Steps that claim and release a task keep the laws of the locks: they leave the chains, the leaves and their words.
use Rattle.std.proofs.Common.{ℕ, ◌+◌, ◌-◌, ◌^◌, ◌%◌, ◌<◌, eqb, length, slice_index, Contains, refl, subst, arith}
use Rattle.lists.proofs.Elements.{Contains-nil}
use Rattle.qs_core.specs.declared.event.Step.TheVariants.{Claim, Release}
use Rattle.qs_core.specs.Shape.{Shape}
use Rattle.qs_core.specs.Core.{Core, claimed_word, task_place, view_at}
use Rattle.qs_core.specs.Steps.{CanClaim, CanRelease, next_successor, stepped}
use Rattle.qs_core.proofs.Locks.{by_test, cells_kept, from_parts}
use Rattle.qs_core.proofs.Outs.{leaves_kept, leaves_kept_none}
use Rattle.qs_core.proofs.RunningClaim.{claiming}
use Rattle.qs_core.proofs.RunningRelease.{releasing}
use Rattle.qs_core.proofs.Views.{IsView-view_at}
use Rattle.qs_core.specs.Sound.{AreLocksSound}

pub claim_kept : (shape : Shape) (core : Core) (seat task : ℕ) → seat < length core.views → AreLocksSound shape core → CanClaim shape (view_at core.views seat) task
    → AreLocksSound shape (stepped shape core seat (Claim task))
claim_kept shape core seat task l s can =
    let new_view = claiming shape (view_at core.views seat) task in
    by_test shape core seat new_view (task_place shape task) claimed_word (eqb (slice_index core.words (task_place shape task)) 0)
    (λ e.
    from_parts shape core seat new_view (task_place shape task) claimed_word (omega arith) s
    (cells_kept shape core seat new_view (task_place shape task) claimed_word l refl (λ cell h. omega arith) s.cells)
    (leaves_kept_none shape core seat new_view (task_place shape task) claimed_word l refl can.free.none_out (λ leaf h. omega arith) s.leaves))
    s

-- nothing is out where a task runs with no leaf left to return
none_out_at_release : (shape : Shape) (core : Core) (seat : ℕ) → seat < length core.views → AreLocksSound shape core → CanRelease (view_at core.views seat)
    → (leaf : ℕ) → Contains (view_at core.views seat).out leaf → ⊥
none_out_at_release shape core seat l s can leaf h =
    let o = s.leaves.outs seat (view_at core.views seat) leaf (IsView-view_at core seat l) h in
    Contains-nil leaf (subst (λ xs. Contains xs leaf) can.returned (o.left can.running can.runs))

pub release_kept : (shape : Shape) (core : Core) (seat : ℕ) → seat < length core.views → AreLocksSound shape core → CanRelease (view_at core.views seat)
    → AreLocksSound shape (stepped shape core seat Release)
release_kept shape core seat l s can =
    let view = view_at core.views seat in
    let new_view = releasing view view.running in
    let place = task_place shape (next_successor view.running) in
    let value = (slice_index core.words place + (2 ^ 64 - 1)) % 2 ^ 64 in
    from_parts shape core seat new_view place value (omega arith) s
    (cells_kept shape core seat new_view place value l refl (λ cell h. omega arith) s.cells)
    (leaves_kept shape core seat new_view place value l refl (λ leaf h. omega arith) (λ leaf h. absurd (none_out_at_release shape core seat l s can leaf h)) s.leaves)
