-- Lists with an element more, and notes behind others.
use Rattle.std.proofs.Common.{◌≡◌, ◌⊎◌, ℕ, zero, suc, List, [], ◌∷◌, ◌++◌, Some, length, slice_get, refl, sym, ap, ◌∙◌, inl, inr, append_assoc, append-nil, arith}
use Rattle.std.proofs.lemmas.Option.{none-some, same_Some}
use Rattle.qs_queues.specs.declared.view.QueueNote.{QueueNote}
use Rattle.qs_queues.specs.declared.view.QueueView.{QueueView}
use Rattle.qs_queues.specs.Views.{with_notes}

-- an element of a list with one more is one of the list, or the last
pub snoc_cases : {X : Type 0} (xs : List X) (y : X) (i : ℕ) (z : X) → slice_get (xs ++ y ∷ []) i ≡ Some z → (slice_get xs i ≡ Some z) ⊎ ((i ≡ length xs) × (y ≡ z))
snoc_cases [] y zero z e = inr (refl, same_Some y z e)
snoc_cases [] y (suc i) z e = absurd (none-some z e)
snoc_cases (x ∷ xs) y zero z e = inl e
snoc_cases (x ∷ xs) y (suc i) z e = elim (snoc_cases xs y i z e) [ inl q ↦ inl q | inr q ↦ inr (let a = q.0 in omega arith, q.1) ]

-- no further notes, and further ones behind further ones
pub no_notes : (v : QueueView) → v ≡ with_notes v []
no_notes v = ap (λ (ns : List QueueNote). record v { notes = ns }) (sym (append-nil v.notes))

pub more_notes : (v w u : QueueView) (a b : List QueueNote) → w ≡ with_notes v a → u ≡ with_notes w b → u ≡ with_notes v (a ++ b)
more_notes v w u a b e f = f ∙ ap (λ (x : QueueView). with_notes x b) e ∙ ap (λ (ns : List QueueNote). record v { notes = ns }) (append_assoc v.notes a b)
