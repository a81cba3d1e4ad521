use Rattle.std.proofs.Common.{ℕ, ◌<◌}
use Rattle.qs_core.specs.Core.{view_at}
use Rattle.qs_core.specs.inner.Held.{RunsOn}
use Rattle.qs_play.proofs.state.State.is_left.Given as goal

abbrev pub invariant-loop-seat : goal.invariant-loop-seat
invariant-loop-seat l = (k : ℕ) → k < l.seat-index → RunsOn (view_at l.self.core.views k).running l.task l.leaf → ⊥
