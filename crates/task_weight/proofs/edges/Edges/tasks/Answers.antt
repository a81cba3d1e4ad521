use Rattle.std.proofs.Common.{length, ap, arith}
use Rattle.task_weight.proofs.Starts.{length-edges_of}
use Rattle.task_weight.proofs.edges.Edges.tasks.Goals as goal

pub returns : goal.returns
returns c =
    let starts = c.self.inside.starts in
    omega (arith, starts.ok.0, length-edges_of starts.items c.self.inside.ends.items c.self.invariant, ap length c.self.view_is)
