use Rattle.std.proofs.Common.{◌∙◌, Global, String, rules, tests, ap, length, string_bytes, unwrap_or}
use Rattle.std.proofs.lemmas.Iterator.{YieldsList-from_slice}
use Rattle.std.proofs.lemmas.Iterator.Search.{position_from_yields_List}
use Rattle.sph_words.specs.Texts.{begins_with_hyphen}
use Rattle.sph_words.proofs.Cuts.{place_or_len, position-map}
use Rattle.sph_words.proofs.order.cut_of.Goals as goal

pub returns : goal.returns
returns c =
    let words = c.args.words.now in
    let at = position_from_yields_List (λ (word : String Global). begins_with_hyphen (string_bytes word)) _ _ c.position.result c.position.ensures.ran (YieldsList-from_slice words (cc)) (λ x b q k. search (rules, tests)) in
    c.unwrap_or.ensures ∙ ap (λ o. unwrap_or o (length words)) at ∙ place_or_len (λ (word : String Global). begins_with_hyphen (string_bytes word)) words ∙ position-map begins_with_hyphen string_bytes words
