use Rattle.sph_deck.proofs.Numbers.{keys_of_params, params_read}
use Rattle.sph_deck.proofs.RowsMet.{meets_row, reads_none, reads_then}
use Rattle.sph_deck.proofs.top.read_params.Goals as goal

pub returns : goal.returns
returns c =
    let walk = reads_then c.whole-ticks.ensures (reads_then c.whole-every.ensures (reads_then c.whole-bin_min.ensures (reads_then c.whole-bin_max.ensures (reads_then c.whole-sound.ensures (reads_then c.whole-shift.ensures (reads_then c.whole-accuracy.ensures (reads_then c.whole-leaf.ensures (reads_then c.whole-pairs.ensures (reads_then c.whole-slack.ensures reads_none))))))))) in
    record { faults = meets_row _ _ (keys_of_params _) c.note_names.ensures walk; read = λ none. params_read _ _ (walk.read none) }
