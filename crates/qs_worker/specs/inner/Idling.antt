-- How long a worker that finds no task goes on.
use Rattle.std.specs.Prelude.{ℕ, ◌-◌}
use Rattle.qs_worker.specs.declared.turn.Turn.{Turn}
use Rattle.qs_worker.specs.declared.turn.Turn.TheVariants.{Over, Ran, Idle}

-- how many more turns in a row may be Idle after a turn: none after one that was Over, and all again after one that ran a task
abbrev pub idle_turns_left : Turn → ℕ → ℕ
idle_turns_left Over left = 0
idle_turns_left (Ran task) left = 65536
idle_turns_left Idle left = left - 1
