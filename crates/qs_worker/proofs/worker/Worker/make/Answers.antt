use Rattle.qs_worker.proofs.Trying.{empty_from_idle}
use Rattle.qs_worker.proofs.worker.Worker.make.Goals as goal

pub make_with-requires-clause-rests : goal.make_with-requires-clause-rests
make_with-requires-clause-rests g c = empty_from_idle _ c.requires.idle c.shows_none_out.ensures
