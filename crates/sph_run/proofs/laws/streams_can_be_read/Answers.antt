-- The law, from the bounds that every list of a run keeps.
use Rattle.sph_run.proofs.Whole.{snapshots_are_whole, streams_can_be_read}
use Rattle.sph_run.proofs.laws.streams_can_be_read.Goals as goal

pub returns-clause-whole : goal.returns-clause-whole
returns-clause-whole c = snapshots_are_whole

pub returns-clause-read : goal.returns-clause-read
returns-clause-read c = streams_can_be_read
