-- Queues and the tokens of their seats, as callers see them.
use Rattle.std.specs.Prelude.{◌≡◌, ℕ}
use Rattle.atomic_table.specs.Seated.{TableId}
use Rattle.qs_queues.specs.declared.view.QueueView.{QueueView}
use Rattle.qs_queues.specs.Views.{fresh_view}

-- queues: what names them, how many there are, the room of each, and the number of tasks
pub record QueuesView : Type 0 where
  pub id : TableId
  pub queues : ℕ
  pub room : ℕ
  pub tasks : ℕ

-- a token: the name of its queues, and what the seat knows
pub record QueueTokenView : Type 0 where
  pub id : TableId
  pub view : QueueView

-- the token is of a seat of these queues
pub record IsQueueSeatOf (queues : QueuesView) (seat : QueueTokenView) : Type 0 where
  pub same : seat.id ≡ queues.id
  pub room_is : seat.view.room ≡ queues.room
  pub tasks_are : seat.view.tasks ≡ queues.tasks

-- which has done nothing
pub record IsNewSeat (queues : QueuesView) (seat : QueueTokenView) : Type 0 where
  pub of_queues : IsQueueSeatOf queues seat
  pub fresh : seat.view ≡ fresh_view queues.room queues.tasks
