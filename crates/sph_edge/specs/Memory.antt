-- What a call does to a source and a sink in memory.
use Rattle.std.specs.Prelude.{ℕ, ◌-◌, min, Bool, ◌==◌, ◌||◌, if◌then◌else◌, List, [], ◌++◌, length, take, drop, Result, Ok, Err}
use Rattle.std.specs.List.{list_any}
use Rattle.sph_edge.specs.Causes.{one_more}
use Rattle.sph_edge.specs.declared.traits.Failed.{Failed}

-- a source in memory: the bytes that it has left, how many a call gives at most, the numbers of the
-- calls that fail, and how often it was called and failed
pub record SourceState : Type 0 where
  pub left : List ℕ
  pub most : ℕ
  pub fails : List ℕ
  pub calls : ℕ
  pub faults : ℕ

-- a sink in memory: the bytes that it holds, how many there is room for in all, how many a call takes at
-- most, the numbers of the calls that fail, and how often it was called and failed
pub record SinkState : Type 0 where
  pub held : List ℕ
  pub room : ℕ
  pub most : ℕ
  pub fails : List ℕ
  pub calls : ℕ
  pub faults : ℕ

-- a source of these bytes that wasn't called yet
abbrev pub new_source : List ℕ → ℕ → List ℕ → SourceState
new_source bytes most fails = record { left = bytes; most = most; fails = fails; calls = 0; faults = 0 }

-- an empty sink that wasn't called yet
abbrev pub new_sink : ℕ → ℕ → List ℕ → SinkState
new_sink room most fails = record { held = []; room = room; most = most; fails = fails; calls = 0; faults = 0 }

-- the number is listed
abbrev pub is_listed : ℕ → List ℕ → Bool
is_listed number numbers = list_any (λ listed. listed == number) numbers

-- how many bytes a call of the source gives into this much space
abbrev pub given_count : SourceState → ℕ → ℕ
given_count source space = min source.most (min space (length source.left))

-- the source's next call fails: its number is listed
abbrev pub take_fails : SourceState → Bool
take_fails source = is_listed (one_more source.calls) source.fails

-- what a call of the source answers
abbrev pub take_answer : SourceState → ℕ → Result ℕ Failed
take_answer source space = if take_fails source then Err (record {}) else Ok (given_count source space)

-- the source after a call
abbrev pub after_take : SourceState → ℕ → SourceState
after_take source space =
    if take_fails source
    then record source { calls = one_more source.calls; faults = one_more source.faults }
    else record source { calls = one_more source.calls; left = drop (given_count source space) source.left }

-- the caller's space after a call of the source: the given bytes are in front, and past them it stays
abbrev pub filled : SourceState → List ℕ → List ℕ
filled source into =
    if take_fails source
    then into
    else take (given_count source (length into)) source.left ++ drop (given_count source (length into)) into

-- the room that the sink has left
abbrev pub room_left : SinkState → ℕ
room_left sink = sink.room - length sink.held

-- the sink's next call fails: its number is listed, or the room is full
abbrev pub give_fails : SinkState → Bool
give_fails sink = is_listed (one_more sink.calls) sink.fails || room_left sink == 0

-- how many bytes of the piece a call of the sink takes
abbrev pub taken_count : SinkState → List ℕ → ℕ
taken_count sink piece = min sink.most (min (length piece) (room_left sink))

-- what a call of the sink answers
abbrev pub give_answer : SinkState → List ℕ → Result ℕ Failed
give_answer sink piece = if give_fails sink then Err (record {}) else Ok (taken_count sink piece)

-- the sink after a call
abbrev pub after_give : SinkState → List ℕ → SinkState
after_give sink piece =
    if give_fails sink
    then record sink { calls = one_more sink.calls; faults = one_more sink.faults }
    else record sink { calls = one_more sink.calls; held = sink.held ++ take (taken_count sink piece) piece }
