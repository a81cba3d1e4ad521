-- Bytes put behind one another.
use Rattle.std.proofs.Common.{◌≡◌, ℕ, ◌+◌, ◌<◌, List, [], ◌∷◌, ◌++◌, length, get_or, take, sym, ap, ◌∙◌}
use Rattle.std.specs.Prelude.{flat_map}
use Rattle.std.proofs.lemmas.List.{take_more, flat_map_more}

-- one more item's bytes, behind those of the items before it
pub flat_map_next : {X A : Type 0} (f : X → List A) (base out next : List A) (xs : List X) (i : ℕ) (x d : X) → i < length xs
    → out ≡ base ++ flat_map f (take i xs) → next ≡ out ++ f x → x ≡ get_or xs i d → next ≡ base ++ flat_map f (take (i + 1) xs)
flat_map_next f base out next xs i x d within so_far put is =
    put ∙ ap (λ l. l ++ f x) so_far ∙ flat_map_more f base (take i xs) x
    ∙ ap (λ l. base ++ flat_map f l) (ap (λ y. take i xs ++ y ∷ []) is ∙ sym (take_more xs i d within))
