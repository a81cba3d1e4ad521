use Rattle.std.proofs.Common.{inr, refl}
use Rattle.sph_report.specs.CheckLine.{check_line}
use Rattle.sph_report.specs.TreeLines.{tree_lines}
use Rattle.sph_top.specs.Output.{stream, text}
use Rattle.sph_top.proofs.job.write_output.Goals as goal

pub returns-in-Run : goal.returns-in-Run
returns-in-Run g c = rw c.in-Run.is (inr (stream c.args.deck.now, (c.args.deck.now, refl, refl), c.run.ensures))

pub returns-in-Plain : goal.returns-in-Plain
returns-in-Plain g c = rw c.in-Plain.is (inr (stream c.args.deck.now, (c.args.deck.now, refl, refl), c.plain.ensures))

pub returns-in-Check : goal.returns-in-Check
returns-in-Check g c =
    let line = check_line c.args.deck.now in
    rw c.in-Check.is (inr (text line, (c.args.deck.now, refl, refl), c.write_text.ensures line c.check_text.ensures))

pub returns-in-Tree : goal.returns-in-Tree
returns-in-Tree g c =
    let lines = tree_lines c.args.deck.now in
    rw c.in-Tree.is (inr (text lines, (c.args.deck.now, refl, refl), c.write_text-in-Tree.ensures lines c.tree_text.ensures))
