use Rattle.std.proofs.Common.{subst}
use Rattle.sph_lattice.specs.LatticeText.{lattice_text}
use Rattle.sph_top.specs.Output.{text}
use Rattle.sph_top.specs.Words.{NamesJob}
use Rattle.sph_top.proofs.Texts.{Rests-sample, Rests-text, unwritten}
use Rattle.sph_top.proofs.job.do_job.Goals as goal

pub returns-in-Generate-clause-rests : goal.returns-in-Generate-clause-rests
returns-in-Generate-clause-rests g c = λ words names.
    let side = c.in-Generate.side in
    let seed = c.in-Generate.seed in
    Rests-text side seed words _ c.write_text.result _ (subst (NamesJob words) c.in-Generate.is names) (c.write_text.ensures (lattice_text side seed) c.lattice.ensures)

pub returns-in-Generate-clause-untouched : goal.returns-in-Generate-clause-untouched
returns-in-Generate-clause-untouched g c = λ without.
    let whole = lattice_text c.in-Generate.side c.in-Generate.seed in
    absurd (unwritten (text whole) c.write_text.result _ (c.write_text.ensures whole c.lattice.ensures) without)

pub returns-in-Sample-clause-rests : goal.returns-in-Sample-clause-rests
returns-in-Sample-clause-rests g c = λ words names.
    Rests-sample c.in-Sample.side c.in-Sample.seed c.in-Sample.workers words _ c.sample.result _ (subst (NamesJob words) c.in-Sample.is names) c.sample.ensures
