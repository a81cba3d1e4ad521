-- How many workers do the tasks of a step, and how many threads make its blocks.
use Rattle.std.specs.Prelude.{ℕ, ◌+◌, ◌/◌, min}

-- one, and one more for each 32 tasks, up to the number that was asked for
abbrev pub workers_for : ℕ → ℕ → ℕ
workers_for tasks most = min most (1 + tasks / 32)

-- one, and one more for each 8192 particles, up to the number that was asked for
abbrev pub threads_for : ℕ → ℕ → ℕ
threads_for particles most = min most (1 + particles / 8192)
