use Rattle.std.proofs.Common.{inr}
use Rattle.sph_top.proofs.output.sample.Goals as goal

pub returns-in-Ok : goal.returns-in-Ok
returns-in-Ok g c = inr (c.in-Ok.deck, record { params = c.in-Ok.ensures.params; particles = c.in-Ok.ensures.particles }, c.run.ensures)
