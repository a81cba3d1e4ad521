-- What reading a source whole answers.
use Rattle.std.specs.Prelude.{◌≡◌, ℕ, ◌+◌, ◌≤◌, List, length, Option, Result, Ok, Err, ⊤}
use Rattle.std.specs.Io.KnownBytes.{Consumes}
use Rattle.std.specs.Prelude.{Vec}
use Rattle.std.specs.declared.alloc.Global.{Global}
use Rattle.sph_edge.specs.Bytes.{GaveAll}
use Rattle.sph_edge.specs.Causes.{Rose}
use Rattle.sph_edge.specs.declared.whole.ReadEnd.{ReadEnd}
use Rattle.sph_edge.specs.declared.whole.ReadEnd.TheVariants.{Fault, TooLong, Memory}

-- the source gave more than the limit: just one byte more was taken
pub record GaveTooMuch (limit : ℕ) (before after : Option (List ℕ)) : Type 0 where
  pub bytes : List ℕ
  pub gave : Consumes before after bytes
  pub past : length bytes ≡ limit + 1

-- Ok has all that was left, within the limit; TooLong says that the source gave more
abbrev pub ReadsWhole : ℕ → Option (List ℕ) → Option (List ℕ) → Result (Vec ℕ Global) ReadEnd → Type 0
ReadsWhole limit before after (Ok bytes) = GaveAll before after bytes.items × (length bytes.items ≤ limit)
ReadsWhole limit before after (Err TooLong) = GaveTooMuch limit before after
ReadsWhole limit before after (Err Fault) = ⊤
ReadsWhole limit before after (Err Memory) = ⊤

-- a fault comes only where the count of faults rose, and it stays where any other answer comes
abbrev pub CausesRead : {T : Type 0} → ℕ → ℕ → Result T ReadEnd → Type 0
CausesRead before now (Ok bytes) = now ≡ before
CausesRead before now (Err Fault) = Rose before now
CausesRead before now (Err TooLong) = now ≡ before
CausesRead before now (Err Memory) = now ≡ before
