-- What the graph of some spans of a tree is known to be.
use Rattle.std.specs.Prelude.{◌<◌, ◌^◌, List, length, All}
use Rattle.cell_tree.specs.declared.tree.Span.{Span}
use Rattle.cell_tree.specs.Tree.{Made}
use Rattle.task_graph.specs.Graph.{Plan, WaitAtLeaves}
use Rattle.task_graph.specs.Meeting.{MeetOnce}
use Rattle.task_graph.specs.Tasks.{IsOnSpan}
use Rattle.task_weight.specs.Edges.{AreForward, AreRising}

pub record IsGraphOn (made : Made) (spans : List Span) (graph : Plan) : Type 0 where
  pub few : length graph.tasks < 2 ^ 32
  pub on_spans : All (IsOnSpan made) graph.tasks
  pub meet_once : MeetOnce made spans graph.tasks
  pub wait_at_leaves : WaitAtLeaves made graph.tasks graph.successors
  pub forward : AreForward graph.successors
  pub rising : AreRising graph.successors
