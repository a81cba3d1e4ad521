use Rattle.std.proofs.Common.{◌≡◌, take, length}
use Rattle.std.specs.Mem.Slots.{slots_items, slots_len}
use Rattle.qs_table.proofs.slots.copy_words.Given as goal

abbrev pub invariant-loop-place : goal.invariant-loop-place
invariant-loop-place g l =
    (length l.words.items ≡ slots_len l.closed.words) × (take l.place l.words.items ≡ take l.place (slots_items l.closed.words))
