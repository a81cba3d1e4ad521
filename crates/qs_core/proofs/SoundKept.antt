-- Each allowed step keeps a sound state sound.
use Rattle.qs_core.specs.Laws.{StepsKeepSound}
use Rattle.qs_core.proofs.LocksKept.{locks_kept}
use Rattle.qs_core.proofs.RunningKept.{tasks_kept}

-- the locks and the tasks are kept side by side
pub sound_kept : StepsKeepSound
sound_kept shape core event laws sound allowed = record { locks = locks_kept shape core event laws sound allowed; tasks = tasks_kept shape core event laws sound allowed }
