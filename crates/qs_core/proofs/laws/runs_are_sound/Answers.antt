use Rattle.qs_core.proofs.Events.{all_are_done, claimed_in_order_from, claimed_once_from, made_is_reached, played_is_reached, runs_are_sound_from}
use Rattle.qs_core.proofs.Exclusive.{sound_is_exclusive}
use Rattle.qs_core.proofs.ReturnedRuns.{done_was_returned, finished_was_returned, returned_once}
use Rattle.qs_core.proofs.SoundKept.{sound_kept}
use Rattle.qs_core.proofs.laws.runs_are_sound.Goals as goal

pub returns : goal.returns
returns c = record {
  made = made_is_reached;
  played = played_is_reached;
  sound = runs_are_sound_from sound_kept sound_is_exclusive;
  claimed_once = claimed_once_from sound_kept;
  claimed_in_order = claimed_in_order_from sound_kept;
  returned_once = returned_once;
  done_was_returned = done_was_returned;
  all_are_done = all_are_done;
  finished = finished_was_returned;
}
