use Rattle.sph_report.proofs.TreeTexts.{graph_line_joined, line_written}
use Rattle.sph_report.proofs.tree.line_of_graph.Goals as goal

pub returns : goal.returns
returns c =
    let joined = graph_line_joined _ _ _ _ _ _ _ c.args.graph.now c.tasks_of_kind-density.ensures c.tasks_of_kind-ghosts.ensures
    c.tasks_of_kind-force.ensures c.tasks_of_kind-kick.ensures c.edge_count-edges.ensures c.heaviest_weight-heaviest.ensures c.in_ok-tasks.ensures.ok in
    line_written c.format-2.result joined c.format-2.ensures.ok
