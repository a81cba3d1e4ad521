use Rattle.sph_top.proofs.Jobs.{has_numbers, named, reads_none}
use Rattle.sph_top.proofs.Texts.{Rests-refused}
use Rattle.sph_top.proofs.answer.answer.Goals as goal

pub do_job-requires-clause-numbers : goal.do_job-requires-clause-numbers
do_job-requires-clause-numbers g c _ _ = has_numbers c.args.words.now c.in-Ok.job (named c.args.words.now c.read_words.result c.in-Ok.job c.read_words.ensures c.in-Ok.is)

pub returns-in-Ok-clause-rests : goal.returns-in-Ok-clause-rests
returns-in-Ok-clause-rests g c =
    c.do_job.ensures.rests c.args.words.now (named c.args.words.now c.read_words.result c.in-Ok.job c.read_words.ensures c.in-Ok.is)

pub returns-in-Ok-clause-unread : goal.returns-in-Ok-clause-unread
returns-in-Ok-clause-unread g c = λ none.
    c.do_job.ensures.unread (reads_none c.args.words.now c.in-Ok.job (named c.args.words.now c.read_words.result c.in-Ok.job c.read_words.ensures c.in-Ok.is) none)

pub returns-in-Err-clause-rests : goal.returns-in-Err-clause-rests
returns-in-Err-clause-rests g c =
    rw c.status_of.ensures (Rests-refused c.args.words.now _ _ _ c.read_words.result c.in-Err.refusal c.read_words.ensures c.in-Err.is)
