-- Which texts std reads as a number, where no plus and no zero stand before it.
use Rattle.std.proofs.Common.{◌≡◌, ◌<◌, ◌^◌, ◌==◌, ◌∙◌, ℕ, Bool, true, false, List, [], ◌∷◌, Some, None, refl, ap, arith, length, Result, Ok, Err, slice_index, cond}
use Rattle.std.specs.Char.{digit_value, is_ascii_digit}
use Rattle.std.specs.List.{list_all}
use Rattle.std.specs.Result.{result_ok}
use Rattle.std.specs.Str.Parse.{AllDigits, ParsesUnsigned, digits_value, without_leading_plus}
use Rattle.std.proofs.lemmas.Bool.{ltb-true, lt-ltb}
use Rattle.std.proofs.lemmas.Bool.Decides.{nat_tests}
use Rattle.clap.proofs.WalkLemmas.{both}
use Rattle.sph_words.specs.Numbers.{has_no_leading_zero, is_number, number_of}

digit_from : (byte : ℕ) → is_ascii_digit byte ≡ true → digit_value byte < 10
digit_from byte is = grind (arith, nat_tests)

digit_is : (byte : ℕ) → digit_value byte < 10 → is_ascii_digit byte ≡ true
digit_is byte low = grind (arith, nat_tests)

digits_from : (text : List ℕ) → list_all is_ascii_digit text ≡ true → AllDigits 10 text
digits_from [] is = tt
digits_from (byte ∷ rest) is =
    let parts = both _ _ is in
    (digit_from byte parts.0, digits_from rest parts.1)

digits_are : (text : List ℕ) → AllDigits 10 text → list_all is_ascii_digit text ≡ true
digits_are [] all = refl
digits_are (byte ∷ rest) all = rw (digit_is byte all.0) (digits_are rest all.1)

-- of a text without a plus
module _ (text : List ℕ) (plain : (slice_index text 0 == 43) ≡ false) (no_zero : has_no_leading_zero text ≡ true) where
  same : without_leading_plus text ≡ text
  same = rw plain refl

  pub parsed_number : {E : Type 0} (r : Result ℕ E) → ParsesUnsigned 64 10 text r → result_ok r ≡ number_of text
  parsed_number (Ok n) parsed =
      let read : ((0 < length text) × AllDigits 10 text) × (digits_value 10 text < 2 ^ 64) = rw (← same) parsed.0 in
      let number : n ≡ digits_value 10 text = parsed.1 ∙ ap (digits_value 10) same in
      rw (number, lt-ltb 0 (length text) read.0.0, digits_are text read.0.1, no_zero, lt-ltb (digits_value 10 text) (2 ^ 64) read.1) refl
  parsed_number (Err e) parsed = go (is_number text) refl
    where
      go : (b : Bool) → is_number text ≡ b → None ≡ cond b (Some (digits_value 10 text)) None
      go false is = refl
      go true is =
          let fits = both _ _ is in
          let zero = both _ _ fits.0 in
          let digits = both _ _ zero.0 in
          let long : 0 < length text = ltb-true _ _ digits.0 in
          let all : AllDigits 10 text = digits_from text digits.1 in
          let low : digits_value 10 text < 2 ^ 64 = ltb-true _ _ fits.1 in
          absurd (parsed (rw same ((long, all), low)))
