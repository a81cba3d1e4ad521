use Rattle.sph_run.proofs.Work.{outputs_ignore_work}
use Rattle.sph_run.proofs.laws.outputs_ignore_work.Goals as goal

pub returns : goal.returns
returns c = outputs_ignore_work
