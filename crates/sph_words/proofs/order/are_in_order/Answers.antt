use Rattle.std.proofs.Common.{◌≡◌, ◌∙◌, ◌&&◌, true, false, refl, sym, ap, length, map, string_bytes}
use Rattle.sph_words.specs.Jobs.{is_within}
use Rattle.sph_words.specs.inner.Asked.{is_option}
use Rattle.sph_words.proofs.Cuts.{cut-le, handed_is}
use Rattle.sph_words.proofs.order.are_in_order.Goals as goal

pub split_at-requires : goal.split_at-requires
split_at-requires c = cut-le _ _ c.cut_of.ensures

pub returns-then-are_few : goal.returns-then-are_few
returns-then-are_few c =
    let few : is_within 1 3 (length c.split_at.result.0.now) ≡ true = sym c.are_few.ensures ∙ c.if-are_few.true in
    sym (handed_is c.args.words.now _ _ _ _ refl c.cut_of.ensures c.split_at.ensures.front c.split_at.ensures.back
    ∙ ap (λ b. b && is_option (map string_bytes c.split_at.result.1.now)) few ∙ sym c.is_option.ensures)

pub returns-else-are_few : goal.returns-else-are_few
returns-else-are_few c =
    let few : is_within 1 3 (length c.split_at.result.0.now) ≡ false = sym c.are_few.ensures ∙ c.if-are_few.false in
    c.if-are_few.false ∙ sym (handed_is c.args.words.now _ _ _ _ refl c.cut_of.ensures c.split_at.ensures.front c.split_at.ensures.back
    ∙ ap (λ b. b && is_option (map string_bytes c.split_at.result.1.now)) few)
