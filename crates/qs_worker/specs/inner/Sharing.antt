-- Ready lists to which tasks were shared out.
use Rattle.std.specs.Prelude.{◌≡◌, ℕ, List, Some, length, slice_get}
use Rattle.qs_core.specs.Shape.{Shape}
use Rattle.qs_worker.specs.Crews.{firsts_below}
use Rattle.qs_worker.specs.Turns.{WorkerView}

-- each worker has the first tasks of its place below a number ready, and all else stayed
pub record AreShared {P : Type 0} (shape : Shape) (count : ℕ) (before after : List (WorkerView P)) : Type 0 where
  pub as_many : length after ≡ length before
  pub each : (k : ℕ) (w : WorkerView P) → slice_get before k ≡ Some w → slice_get after k ≡ Some (record w { ready = firsts_below shape (length before) k count })
