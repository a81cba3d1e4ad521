use Rattle.sph_top.proofs.Texts.{Follows-writes}
use Rattle.sph_top.proofs.job.do_on_text.Goals as goal

pub returns-in-Ok-clause-follows : goal.returns-in-Ok-clause-follows
returns-in-Ok-clause-follows g c =
    let numbers = c.in-Ok.ensures.answers in
    Follows-writes c.args.job c.args.bytes.now c.in-Ok.deck c.write_output.result _ (record { accepted = numbers.0; numbers = numbers.1 })
    c.write_output.ensures
