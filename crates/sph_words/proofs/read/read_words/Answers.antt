use Rattle.std.proofs.Common.{◌∙◌, inl, ap, sym, map, string_bytes}
use Rattle.sph_words.specs.Jobs.{told}
use Rattle.sph_words.proofs.NotHanded.{not_handed}
use Rattle.sph_words.proofs.read.read_words.Goals as goal

pub returns-then-not-are_in_order : goal.returns-then-not-are_in_order
returns-then-not-are_in_order c =
    let words = map string_bytes c.args.words.now in
    inl (sym (ap told (not_handed words (sym c.are_in_order.ensures ∙ c.if-not-are_in_order.true))))
