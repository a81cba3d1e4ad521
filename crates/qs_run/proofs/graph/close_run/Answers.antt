use Rattle.std.proofs.Common.{◌∙◌}
use Rattle.qs_worker.proofs.Seated.{as_many_back, back_are_idle}
use Rattle.qs_run.proofs.graph.close_run.Goals as goal

pub close-closed-requires-clause-each : goal.close-closed-requires-clause-each
close-closed-requires-clause-each g c = back_are_idle c.args.table c.requires.workers.0 c.args.crew c.into_seats-seats.result.items c.requires.workers.1 c.into_seats-seats.ensures.seats c.into_seats-seats.ensures.rest

pub close-closed-requires-clause-all : goal.close-closed-requires-clause-all
close-closed-requires-clause-all g c = as_many_back c.args.crew _ c.into_seats-seats.ensures.seats ∙ c.requires.as_many
