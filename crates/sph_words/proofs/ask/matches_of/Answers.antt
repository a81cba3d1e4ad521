-- The command takes words that are handed to it, so a refusal is want of memory.
use Rattle.std.proofs.Common.{◌≡◌, ◌∙◌, ap, map, string_bytes}
use Rattle.clap.specs.Simple.{app_of, is_simple, matches_of}
use Rattle.clap.specs.Takes.{takes}
use Rattle.sph_words.specs.inner.Asked.{command, texts_in}
use Rattle.sph_words.proofs.Handed.{handed}
use Rattle.sph_words.proofs.ask.matches_of.Goals as goal

pub returns-in-Ok-clause-texts : goal.returns-in-Ok-clause-texts
returns-in-Ok-clause-texts c =
    let words = map string_bytes c.args.words.now in
    let has = handed words c.requires in
    let is : app_of c.in_ok-command.field-0 ≡ command = c.in_ok-command.ensures in
    let rows = (c.in-Ok.ensures.matches (ap is_simple is)).0 ∙ ap (λ a. matches_of a words) is in
    (has.0, has.1, ap texts_in rows ∙ has.2.rows)

pub unreachable-requires : goal.unreachable-requires
unreachable-requires c =
    let words = map string_bytes c.args.words.now in
    let is : app_of c.in_ok-command.field-0 ≡ command = c.in_ok-command.ensures in
    c.in_default.not-OutOfMemory (c.kind.ensures ∙ c.in-Err.ensures.passes (ap (λ a. takes a words) is ∙ (handed words c.requires).2.taken))
