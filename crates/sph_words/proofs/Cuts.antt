-- Where words are cut, and what stands on both sides.
use Rattle.std.proofs.Common.{◌≡◌, ◌≤◌, ◌+◌, ◌∙◌, ℕ, Bool, true, false, not, List, [], ◌∷◌, Some, None, refl, ap, arith, sym, length, map, take, drop, cond, unwrap_or, ◌-◌, ◌&&◌, String, Global, string_bytes}
use Rattle.std.specs.Prelude.{nat_lt}
use Rattle.std.specs.List.{position_or_len}
use Rattle.std.proofs.lemmas.Bool.Decides.{nat_tests}
use Rattle.std.proofs.lemmas.List.{drop-map, length-map, take-map, take_rest}
use Rattle.std.proofs.lemmas.List.Sums.{prefix_len-le-length}
use Rattle.sph_words.specs.Jobs.{is_within}
use Rattle.sph_words.specs.Texts.{begins_with_hyphen}
use Rattle.sph_words.specs.inner.Asked.{is_few, is_handed, is_option}

pub position-map : {A B : Type 0} (p : B → Bool) (f : A → B) (xs : List A) → position_or_len (λ x. p (f x)) xs ≡ position_or_len p (map f xs)
position-map p f [] = refl
position-map p f (x ∷ xs) = ap (λ n. cond (not (p (f x))) (1 + n) 0) (position-map p f xs)

pub place_or_len : {A : Type 0} (p : A → Bool) (xs : List A) → unwrap_or (cond (nat_lt (position_or_len p xs) (length xs)) (Some (position_or_len p xs)) None) (length xs) ≡ position_or_len p xs
place_or_len p xs = go (nat_lt (position_or_len p xs) (length xs)) refl (prefix_len-le-length (λ x. not (p x)) xs)
  where
    go : (b : Bool) → nat_lt (position_or_len p xs) (length xs) ≡ b → position_or_len p xs ≤ length xs → unwrap_or (cond b (Some (position_or_len p xs)) None) (length xs) ≡ position_or_len p xs
    go true is le = refl
    go false is le = grind (arith, nat_tests)

-- of words behind borrows
parts : (texts : List (List ℕ)) (words : List (String Global)) → texts ≡ map string_bytes words
    → (is_few (take (position_or_len begins_with_hyphen texts) texts) && is_option (drop (position_or_len begins_with_hyphen texts) texts))
    ≡ (is_within 1 3 (length (take (position_or_len begins_with_hyphen (map string_bytes words)) words))
    && is_option (map string_bytes (drop (position_or_len begins_with_hyphen (map string_bytes words)) words)))
parts texts words is =
    let cut = position_or_len begins_with_hyphen (map string_bytes words) in
    let few : length (take cut (map string_bytes words)) ≡ length (take cut words) = ap length (take-map string_bytes cut words) ∙ length-map (take cut words) string_bytes in
    rw is (λ i. is_within 1 3 (few i) && is_option (drop-map string_bytes cut words i))

-- by what the code finds
pub handed_is : (words arguments before option : List (String Global)) (cut : ℕ) → arguments ≡ take (length words - 1) (drop 1 words)
    → cut ≡ position_or_len begins_with_hyphen (map string_bytes arguments) → before ≡ take cut arguments → option ≡ drop cut arguments
    → is_handed (map string_bytes words) ≡ (is_within 1 3 (length before) && is_option (map string_bytes option))
handed_is words arguments before option cut is cut_is before_is option_is =
    let rest : arguments ≡ drop 1 words = is ∙ take_rest words 1 in
    let texts : drop 1 (map string_bytes words) ≡ map string_bytes arguments = drop-map string_bytes 1 words ∙ ap (map string_bytes) (sym rest) in
    rw (before_is, option_is, cut_is) (parts _ arguments texts)

pub cut-le : (arguments : List (String Global)) (cut : ℕ) → cut ≡ position_or_len begins_with_hyphen (map string_bytes arguments) → cut ≤ length arguments
cut-le arguments cut is =
    omega (arith, is, prefix_len-le-length (λ w. not (begins_with_hyphen w)) (map string_bytes arguments), length-map arguments string_bytes)
