-- Lines that are appended to a text one after another.
use Rattle.std.proofs.Common.{◌≡◌, ℕ, ◌+◌, ◌<◌, Option, Some, None, List, [], ◌∷◌, ◌++◌, length, get_or, take, ap, sym, ◌∙◌, append_assoc, append-nil}
use Rattle.std.specs.Prelude.{ℤ, codes, flat_map}
use Rattle.std.specs.Fmt.{signed_decimal}
use Rattle.std.proofs.Common.{to_z, of_z}
use mir.Val.{SFits}
use mir.Syntax.{w128}
use Rattle.std.proofs.lemmas.Int.{to_z-of_z}
use Rattle.std.specs.Fmt.{AppendsText, ◌++?◌}
use Rattle.std.specs.Option.{option_map}
use Rattle.std.proofs.lemmas.List.{take_more}
use Rattle.std.proofs.lemmas.List.Concat.{flat_map-append}
use Rattle.sph_deck.specs.declared.key.Key.{Key}
use Rattle.sph_deck.specs.Keys.{name_of}
use Rattle.sph_lattice.specs.LatticeText.{key_line}

-- the pieces of a key's line, which a format joins from the right
pub key_written : (key : Key) (name : List ℕ) (value : Option (List ℕ)) (old new : List ℕ) → name ≡ name_of key
    → AppendsText old new (Some name ++? (Some (codes " = ") ++? (value ++? Some (10 ∷ [])))) → AppendsText old new (option_map (key_line key) value)
unfolding key_line
key_written key name None old new is written = written
key_written key name (Some bytes) old new is written =
    let joined : name_of key ++ (codes " = " ++ (bytes ++ 10 ∷ [])) ≡ name_of key ++ codes " = " ++ bytes ++ 10 ∷ [] = simp append_assoc in
    written ∙ ap (λ n. old ++ (n ++ (codes " = " ++ (bytes ++ 10 ∷ [])))) is ∙ ap (λ l. old ++ l) joined

-- a second text behind the first
pub both_written : (a b c first second : List ℕ) → b ≡ a ++ first → c ≡ b ++ second → c ≡ a ++ (first ++ second)
both_written a b c first second p q = q ∙ ap (λ l. l ++ second) p ∙ append_assoc a first second

-- the text has gained these lines
pub record IsWritten (old new lines : List ℕ) : Type 0 where
  pub is : new ≡ old ++ lines

pub line_written : {a b first : List ℕ} (c second : List ℕ) → IsWritten a b first → c ≡ b ++ second → IsWritten a c (first ++ second)
line_written {a} {b} {first} c second p q = record { is = both_written a b c first second p.is q }

-- a signed number is written as it was passed
pub signed_written : (key : Key) (z : ℤ) (a b : List ℕ) → SFits w128 z → b ≡ a ++ key_line key (signed_decimal (to_z w128 (of_z w128 z))) → b ≡ a ++ key_line key (signed_decimal z)
signed_written key z a b fits is = is ∙ ap (λ n. a ++ key_line key (signed_decimal n)) (to_z-of_z w128 z fits)

-- one element's lines more
pub lines_more : {X : Type 0} (lines : X → List ℕ) (first : List ℕ) (xs : List X) (k : ℕ) (x : X) (old new : List ℕ) → k < length xs → x ≡ get_or xs k x
    → old ≡ first ++ flat_map lines (take k xs) → new ≡ old ++ lines x → new ≡ first ++ flat_map lines (take (k + 1) xs)
lines_more lines first xs k x old new inside is before here =
    let rest = flat_map lines (take k xs) in
    let more : flat_map lines (take (k + 1) xs) ≡ rest ++ lines x =
    ap (flat_map lines) (take_more xs k x inside) ∙ flat_map-append lines (take k xs) (get_or xs k x ∷ [])
    ∙ ap (λ l. rest ++ l) (append-nil (lines (get_or xs k x))) ∙ ap (λ y. rest ++ lines y) (sym is) in
    both_written first old new rest (lines x) before here ∙ ap (λ l. first ++ l) (sym more)
