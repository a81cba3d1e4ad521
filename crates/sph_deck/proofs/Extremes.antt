-- The least and the greatest over a list of particles, one particle at a time.
use Rattle.std.proofs.Common.{◌≡◌, ℕ, ◌+◌, ◌<◌, List, [], ◌∷◌, length, map, take, get_or, max, sym, ap, ◌∙◌, refl, arith}
use Rattle.std.specs.Prelude.{fold, flat_map, unsigned_abs}
use Rattle.std.proofs.lemmas.List.Folds.{fold-map}
use Rattle.std.proofs.lemmas.List.Sums.{fold_more, fold-append}
use Rattle.sph_num.specs.declared.particle.Particle.{Particle}
use Rattle.sph_num.specs.Bound.{greatest_of, greatest_momentum}

-- a fold over a number of each element takes one element more
pub fold_map_more : {X : Type 0} (f : ℕ → ℕ → ℕ) (a : ℕ) (g : X → ℕ) (xs : List X) (i : ℕ) (d : X) → i < length xs → fold f a (map g (take (i + 1) xs)) ≡ f (fold f a (map g (take i xs))) (g (get_or xs i d))
fold_map_more f a g xs i d low =
    fold-map f g a (take (i + 1) xs) ∙ fold_more (λ b x. f b (g x)) a xs i d low ∙ ap (λ z. f z (g (get_or xs i d))) (sym (fold-map f g a (take i xs)))

-- the greatest of a list and a number
fold_max : (a : ℕ) (xs : List ℕ) → fold max a xs ≡ max a (fold max 0 xs)
fold_max a [] = omega arith
fold_max a (x ∷ xs) = omega (arith, fold_max (max a x) xs, fold_max (max 0 x) xs)

-- the greatest of lists joined end to end, from the greatest of each
pub fold_max-flat_map : {X : Type 0} (f : X → List ℕ) (a : ℕ) (xs : List X) → fold max a (flat_map f xs) ≡ fold (λ b x. max b (fold max 0 (f x))) a xs
fold_max-flat_map f a [] = refl
fold_max-flat_map f a (x ∷ xs) =
    fold-append max a (f x) (flat_map f xs) ∙ fold_max-flat_map f (fold max a (f x)) xs
    ∙ ap (λ z. fold (λ b y. max b (fold max 0 (f y))) z xs) (fold_max a (f x))

-- the greatest component, from the greatest of each particle
pub greatest_momentum_folds : (list : List Particle) → fold (λ a (p : Particle). max a (greatest_of (map unsigned_abs p.p))) 0 list ≡ greatest_momentum list
greatest_momentum_folds list = sym (fold_max-flat_map (λ (p : Particle). map unsigned_abs p.p) 0 list)
