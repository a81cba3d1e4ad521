use Rattle.std.proofs.Common.{rules}
use Rattle.std.proofs.lemmas.Int.{to_z-of_z}
use mir.Val.{SFits}
use mir.Syntax.{w128}
use Rattle.sph_deck.proofs.Numbers.{keys_of_particle, particle_read}
use Rattle.sph_deck.proofs.RowsMet.{meets_row, reads_none, reads_then}
use Rattle.sph_deck.proofs.particle.read_particle.Goals as goal

pub returns : goal.returns
returns c =
    let walk = reads_then c.whole-mass.ensures (reads_then c.whole-h.ensures (reads_then c.whole-x.ensures (reads_then c.whole-y.ensures (reads_then c.whole-z.ensures (reads_then c.component-px.ensures (reads_then c.component-py.ensures (reads_then c.component-pz.ensures reads_none))))))) in
    let fits_px : SFits w128 c.component-px.result = search rules in
    let fits_py : SFits w128 c.component-py.result = search rules in
    let fits_pz : SFits w128 c.component-pz.result = search rules in
    record {
      faults = meets_row _ _ (keys_of_particle _ _ _ _ _ _ _ _) c.note_names.ensures walk;
      read = λ none. simp to_z-of_z (particle_read _ _ _ _ _ _ _ _ _ (walk.read none));
    }
