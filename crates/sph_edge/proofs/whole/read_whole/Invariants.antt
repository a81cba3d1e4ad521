-- The bytes read so far are those that the source gave, and no call failed.
use Rattle.std.proofs.Common.{◌≡◌, ◌+◌, ◌-◌, ◌≤◌, vec_len}
use Rattle.std.specs.Io.KnownBytes.{Consumes}
use Rattle.sph_edge.proofs.whole.read_whole.Given as goal

abbrev pub invariant-loop-piece : goal.invariant-loop-piece
invariant-loop-piece g l = record {
  within : vec_len l.whole ≤ l.limit + 1;
  given : Consumes (g.S.Source.left l.initial.source) (g.S.Source.left l.source) l.whole.items;
  cause : g.S.Source.faults l.source ≡ g.S.Source.faults l.initial.source;
}

abbrev pub decreases-loop-piece : goal.decreases-loop-piece
decreases-loop-piece g l = l.limit + 1 - vec_len l.whole
