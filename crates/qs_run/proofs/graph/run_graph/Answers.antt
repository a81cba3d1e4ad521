use Rattle.qs_run.proofs.graph.run_graph.Goals as goal

pub close_run-requires-clause-workers : goal.close_run-requires-clause-workers
close_run-requires-clause-workers g c κs within = (c.in-Ok-man.manned.0, c.work.ensures.workers)
