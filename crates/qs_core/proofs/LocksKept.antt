-- Each step that is allowed keeps the laws of the locks.
use Rattle.std.proofs.Common.{ℕ, ◌<◌, length}
use Rattle.qs_core.specs.declared.event.Event.{Event}
use Rattle.qs_core.specs.declared.event.Step.{Step}
use Rattle.qs_core.specs.declared.event.Step.TheVariants.{Lock, Raise, Lower, Unlock, Fetch, Return, Claim, Release}
use Rattle.qs_core.specs.Shape.{Shape, IsShape}
use Rattle.qs_core.specs.Core.{Core, view_at}
use Rattle.qs_core.specs.Steps.{Allowed, IsAllowed, effect, stepped}
use Rattle.qs_core.specs.Sound.{AreLocksSound, IsSound}
use Rattle.qs_core.proofs.LocksLock.{lock_kept}
use Rattle.qs_core.proofs.LocksRaise.{raise_kept}
use Rattle.qs_core.proofs.LocksLower.{lower_kept}
use Rattle.qs_core.proofs.LocksUnlock.{unlock_kept}
use Rattle.qs_core.proofs.LocksLeaf.{fetch_kept, return_kept}
use Rattle.qs_core.proofs.LocksTask.{claim_kept, release_kept}

pub step_keeps_locks : (shape : Shape) (core : Core) (seat : ℕ) (step : Step) → IsShape shape → seat < length core.views → AreLocksSound shape core
    → Allowed shape (view_at core.views seat) step → AreLocksSound shape (stepped shape core seat step)
step_keeps_locks shape core seat (Lock cell) is l s can = lock_kept shape core seat cell l s can
step_keeps_locks shape core seat Raise is l s can = raise_kept shape core seat is l s can
step_keeps_locks shape core seat Lower is l s can = lower_kept shape core seat is l s can
step_keeps_locks shape core seat Unlock is l s can = unlock_kept shape core seat is l s can
step_keeps_locks shape core seat (Fetch leaf) is l s can = fetch_kept shape core seat leaf is l s can
step_keeps_locks shape core seat (Return leaf) is l s can = return_kept shape core seat leaf l s can
step_keeps_locks shape core seat (Claim task) is l s can = claim_kept shape core seat task l s can
step_keeps_locks shape core seat Release is l s can = release_kept shape core seat l s can

pub locks_kept : (shape : Shape) (core : Core) (event : Event) → IsShape shape → IsSound shape core → IsAllowed shape core event
    → AreLocksSound shape (effect shape core event)
locks_kept shape core event is s can = step_keeps_locks shape core event.seat event.step is can.seat s.locks can.step
