use Rattle.qs_worker.proofs.Working.{added_in}
use Rattle.qs_worker.proofs.claimed.apply_to.Goals as goal

pub returns-clause-first : goal.returns-clause-first
returns-clause-first g c = added_in _ _ _ _ _ _ _ _ _ c.as_mut_slice.ensures.value c.as_mut_slice.ensures.len c.apply.ensures.first

pub returns-clause-second : goal.returns-clause-second
returns-clause-second g c = added_in _ _ _ _ _ _ _ _ _ c.as_mut_slice-2.ensures.value c.as_mut_slice-2.ensures.len c.apply.ensures.second
