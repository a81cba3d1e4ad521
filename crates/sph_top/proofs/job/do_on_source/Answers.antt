use Rattle.sph_top.proofs.Texts.{Rests-follows}
use Rattle.sph_top.proofs.job.do_on_source.Goals as goal

pub returns-in-Ok-clause-rests : goal.returns-in-Ok-clause-rests
returns-in-Ok-clause-rests g c = λ words names.
    let read = c.in-Ok.ensures in
    Rests-follows c.args.job words _ _ c.in-Ok.bytes.items _ c.do_on_text.result names c.requires.reads read.bytes read.cause c.deref.ensures.value
    c.do_on_text.ensures.follows
