-- Seats that move from the end of one list to the end of another.
use Rattle.std.proofs.Common.{◌≡◌, List, [], ◌∷◌, ◌++◌, map, reverse, sym, ap, ◌∙◌, refl, append_assoc}
use Rattle.std.proofs.lemmas.List.{map-append, reverse-append}

-- the last of a list under a map
pub map_last : {X Y : Type 0} (f : X → Y) (xs ys : List X) (x : X) → xs ≡ ys ++ x ∷ [] → map f xs ≡ map f ys ++ f x ∷ []
map_last f xs ys x is = ap (map f) is ∙ map-append f ys (x ∷ [])

-- a list under a map that is turned round
pub map-reverse : {X Y : Type 0} (f : X → Y) (xs : List X) → map f (reverse xs) ≡ reverse (map f xs)
map-reverse f [] = refl
map-reverse f (x ∷ xs) = ap (map f) (reverse-append (x ∷ []) xs) ∙ map-append f (reverse xs) (x ∷ []) ∙ ap (λ ys. ys ++ f x ∷ []) (map-reverse f xs) ∙ sym (reverse-append (f x ∷ []) (map f xs))

module _ {X : Type 0} where
  -- the last of the one list comes behind the other
  pub moved_back : (all seats seats' workers workers' : List X) (x : X) → all ≡ seats ++ reverse workers → workers ≡ workers' ++ x ∷ [] → seats' ≡ seats ++ x ∷ [] → all ≡ seats' ++ reverse workers'
  moved_back all seats seats' workers workers' x is last more =
      is
      ∙ ap (λ (ws : List X). seats ++ reverse ws) last
      ∙ ap (λ (ws : List X). seats ++ ws) (reverse-append workers' (x ∷ []))
      ∙ sym (append_assoc seats (x ∷ []) (reverse workers'))
      ∙ ap (λ (ss : List X). ss ++ reverse workers') (sym more)
