use Rattle.cell_kick.proofs.InOrder.{none_first}
use Rattle.cell_kick.proofs.FaceScene.{across_face_is_good}
use Rattle.cell_kick.proofs.tests.finished_across.Goals as goal

pub make-requires-clause-scene : goal.make-requires-clause-scene
make-requires-clause-scene c = rw c.in_ok-scene.ensures across_face_is_good

pub make-requires-2-clause-scene : goal.make-requires-2-clause-scene
make-requires-2-clause-scene c = rw c.in_ok-scene.ensures across_face_is_good

pub do_across-requires-clause-first : goal.do_across-requires-clause-first
do_across-requires-clause-first c = none_first c.in_ok-scene.scene 0 c.in_ok-first.first c.in_ok-first.ensures.0 c.in_ok-first.ensures.1

pub do_across-requires-clause-second : goal.do_across-requires-clause-second
do_across-requires-clause-second c = none_first c.in_ok-scene.scene 1 c.in_ok-second.second c.in_ok-second.ensures.0 c.in_ok-second.ensures.1
