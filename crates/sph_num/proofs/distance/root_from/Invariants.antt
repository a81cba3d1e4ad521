use Rattle.std.proofs.Common.{◌-◌, ◌<◌, ◌≤◌, ◌*◌}
use Rattle.sph_num.proofs.distance.root_from.Given as goal

abbrev pub invariant-loop-root : goal.invariant-loop-root
invariant-loop-root l = record {
  within : l.root * l.root ≤ l.square;
  below : l.root < 1024;
}

abbrev pub decreases-loop-root : goal.decreases-loop-root
decreases-loop-root l = 1024 - l.root
