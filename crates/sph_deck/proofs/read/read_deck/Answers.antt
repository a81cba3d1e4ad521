use Rattle.sph_deck.proofs.FirstFaults.{accepted_answered, first_answered, first_too_long}
use Rattle.sph_deck.proofs.read.read_deck.Goals as goal

pub returns-then-bytes-gt-LONGEST_TEXT-clause-first : goal.returns-then-bytes-gt-LONGEST_TEXT-clause-first
returns-then-bytes-gt-LONGEST_TEXT-clause-first c =
    first_answered c.args.bytes.now _ (first_too_long c.args.bytes.now c.if-bytes-gt-LONGEST_TEXT.true)

pub returns-then-bytes-gt-LONGEST_TEXT-clause-accepted : goal.returns-then-bytes-gt-LONGEST_TEXT-clause-accepted
returns-then-bytes-gt-LONGEST_TEXT-clause-accepted c =
    accepted_answered c.args.bytes.now _ (first_too_long c.args.bytes.now c.if-bytes-gt-LONGEST_TEXT.true)
