use Rattle.std.proofs.Common.{String, Global, string_bytes, rules, tests}
use Rattle.std.proofs.lemmas.Iterator.{cases_from_any}
use Rattle.std.proofs.lemmas.Iterator.Consumers.{YieldsList-from_rest}
use Rattle.std.specs.Map.{keys_of}
use Rattle.sph_deck.specs.inner.Row.{IsKnownName, IsUnknownName}
use Rattle.sph_deck.proofs.Names.{names_from_any}
use Rattle.sph_deck.proofs.row.has_unknown_name.Goals as goal

pub returns : goal.returns
returns c =
    let es = c.args.table.now.entries in
    names_from_any c.args.of_top es c.any.result
    (cases_from_any _ _ _ (λ (s : String Global). IsUnknownName c.args.of_top (string_bytes s)) (λ (s : String Global). IsKnownName c.args.of_top (string_bytes s)) c.any.ensures.ran
    (YieldsList-from_rest (keys_of es) c.keys.ensures.rest)
    (λ x q k. search (rules, tests))
    (λ x q k. search (rules, tests)))
