use Rattle.sph_snap.proofs.laws.streams_differ.Goals as goal
use Rattle.sph_snap.proofs.Differ.{none_begins_another, streams_have_no_fault, just_one_fault}

pub returns-clause-none_begins_another : goal.returns-clause-none_begins_another
returns-clause-none_begins_another c = none_begins_another

pub returns-clause-no_fault : goal.returns-clause-no_fault
returns-clause-no_fault c = streams_have_no_fault

pub returns-clause-just_one : goal.returns-clause-just_one
returns-clause-just_one c = just_one_fault
