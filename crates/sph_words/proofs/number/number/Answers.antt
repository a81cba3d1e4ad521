use Rattle.std.proofs.Common.{◌≡◌, ◌==◌, ◌∙◌, true, false, arith, slice_index, sym}
use Rattle.std.proofs.lemmas.Bool.{not-false}
use Rattle.sph_words.specs.Numbers.{has_no_leading_zero}
use Rattle.sph_words.proofs.NumbersRead.{parsed_number}
use Rattle.sph_words.proofs.number.number.Goals as goal

pub returns : goal.returns
returns c =
    let byte : c.starts_with.result ≡ (slice_index c.args.text.now 0 == 43) = c.starts_with.ensures.byte (omega arith) (omega arith) (λ w o h. h) in
    let plain : (slice_index c.args.text.now 0 == 43) ≡ false = sym byte ∙ c.if-starts_with.false in
    let no_zero : has_no_leading_zero c.args.text.now ≡ true = not-false _ (sym c.has_leading_zero.ensures ∙ c.if-has_leading_zero.false) in
    c.ok.ensures.value ∙ parsed_number c.args.text.now plain no_zero c.parse.result c.parse.ensures.value.0
