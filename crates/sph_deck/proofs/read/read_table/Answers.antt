use Rattle.std.proofs.Common.{None}
use Rattle.toml.specs.View.{table_view}
use Rattle.sph_deck.specs.Faults.{StandsInTable}
use Rattle.sph_deck.specs.inner.Meets.{Meets}
use Rattle.sph_deck.proofs.Parts.{table_met}
use Rattle.sph_deck.proofs.Tables.{table_read}
use Rattle.sph_deck.proofs.Walks.{first_met, none_before, none_met}
use Rattle.sph_deck.proofs.read.read_table.Goals as goal

pub returns-in-Some : goal.returns-in-Some
returns-in-Some c =
    let top = table_view c.args.top.now in
    let all : Meets (StandsInTable top) None c.read_particles.new.faults.first =
    table_met top c.particle_elements-values.result.now c.particle_elements-values.ensures.elements c.read_params-params.ensures.faults c.particle_elements-values.ensures.faults c.in_ok-particles.ensures.faults in
    first_met _ c.in-Some.fault all c.in-Some.is

pub returns-in-None : goal.returns-in-None
returns-in-None c =
    let top = table_view c.args.top.now in
    let values = c.particle_elements-values in
    let all : Meets (StandsInTable top) None c.read_particles.new.faults.first =
    table_met top values.result.now values.ensures.elements c.read_params-params.ensures.faults values.ensures.faults c.in_ok-particles.ensures.faults in
    let none = c.in-None.is in
    let none_elements = none_before _ _ c.in_ok-particles.ensures.faults none in
    let none_params = none_before _ _ values.ensures.faults none_elements in
    table_read top _ values.result.now _ (c.read_params-params.ensures.read none_params) values.ensures.elements (values.ensures.fits none_elements) (c.in_ok-particles.ensures.read none) (none_met all none)
