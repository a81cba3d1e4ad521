-- Lists that grow by an element for each number in turn.
use Rattle.std.proofs.Common.{◌≡◌, ℕ, ◌+◌, ◌<◌, List, [], ◌∷◌, ◌++◌, length, map, take, get_or, refl, sym, ap, ◌∙◌, subst, inl, inr, arith}
use Rattle.std.proofs.lemmas.Bool.{cases_lt}
use Rattle.std.proofs.lemmas.List.{get_or_append_left, get_or_push, length-append, map-append, take_more}
use Rattle.sph_step.specs.inner.Told.{AreFilled}

module _ {X : Type 0} (fact : ℕ → X → Type 0) where
  pub filled_none : AreFilled fact 0 []
  filled_none = record { one_each = refl; each = λ k d low. absurd (omega arith) }

  pub filled_next : (count : ℕ) (xs : List X) (x : X) → AreFilled fact count xs → fact count x → AreFilled fact (count + 1) (xs ++ x ∷ [])
  filled_next count xs x are next =
      let long = are.one_each in
      record {
        one_each = omega (arith, length-append xs (x ∷ []));
        each = λ k d low. elim (cases_lt k count) [
          | inl before ↦ subst (fact k) (sym (get_or_append_left xs (x ∷ []) d k (omega arith))) (are.each k d before)
          | inr late ↦
              let last : count ≡ k = omega arith in
              subst (fact k) (sym (get_or_push xs x d k (long ∙ last))) (subst (λ n. fact n x) last next)
        ];
      }

-- the values of one element more
pub map_next : {X Y : Type 0} (f : X → Y) (xs : List X) (k : ℕ) (d : X) (y : Y) → k < length xs → y ≡ f (get_or xs k d) → map f (take k xs) ++ y ∷ [] ≡ map f (take (k + 1) xs)
map_next f xs k d y low is =
    ap (λ z. map f (take k xs) ++ z ∷ []) is ∙ sym (ap (map f) (take_more xs k d low) ∙ map-append f (take k xs) (get_or xs k d ∷ []))
