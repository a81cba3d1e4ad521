use Rattle.sph_top.proofs.report.report.Goals as goal

pub returns-in-DeckRefused-clause-told : goal.returns-in-DeckRefused-clause-told
returns-in-DeckRefused-clause-told g c = rw c.in-DeckRefused.is c.report_refused.ensures
