use Rattle.std.proofs.Common.{sym, ◌∙◌}
use Rattle.sph_deck.specs.inner.Row.{key_of}
use Rattle.sph_deck.proofs.Names.{known_or_unknown, unknown_from_none}
use Rattle.sph_deck.proofs.row.is_known_name.Goals as goal

pub returns-in-Some : goal.returns-in-Some
unfolding key_of
returns-in-Some c =
    known_or_unknown c.args.name.now c.in-Some.key c.is_of_top.result c.args.of_top (sym c.named.ensures ∙ c.in-Some.is) c.is_of_top.ensures

pub returns-in-None : goal.returns-in-None
unfolding key_of
returns-in-None c = unknown_from_none c.args.name.now c.args.of_top (sym c.named.ensures ∙ c.in-None.is)
