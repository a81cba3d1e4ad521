use Rattle.toml.specs.View.{table_view}
use Rattle.sph_deck.proofs.Array.{elements_judged, meets_count}
use Rattle.sph_deck.proofs.top.particle_elements.Goals as goal

pub returns-in-Ok-clause-faults : goal.returns-in-Ok-clause-faults
returns-in-Ok-clause-faults c =
    meets_count (table_view c.args.top.now) c.in-Ok.values.now c.in-Ok.ensures c.note_count.ensures.faults

pub returns-in-Ok-clause-elements : goal.returns-in-Ok-clause-elements
returns-in-Ok-clause-elements c = elements_judged (table_view c.args.top.now) c.in-Ok.values.now c.in-Ok.ensures
