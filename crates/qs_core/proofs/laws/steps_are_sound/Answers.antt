use Rattle.qs_core.proofs.DoneSteps.{steps_change_done}
use Rattle.qs_core.proofs.Events.{sound_is_in_order}
use Rattle.qs_core.proofs.Exclusive.{sound_is_exclusive}
use Rattle.qs_core.proofs.Opening.{opening_is_sound}
use Rattle.qs_core.proofs.ReleasedEdges.{released_means_none}
use Rattle.qs_core.proofs.SoundKept.{sound_kept}
use Rattle.qs_core.proofs.UnreleasedEdges.{unreleased_are_counted}
use Rattle.qs_core.proofs.laws.steps_are_sound.Goals as goal

pub returns : goal.returns
returns c = record {
  opening = opening_is_sound;
  kept = sound_kept;
  exclusive = sound_is_exclusive;
  in_order = sound_is_in_order;
  done = steps_change_done;
  released = released_means_none;
  counted = unreleased_are_counted;
}
