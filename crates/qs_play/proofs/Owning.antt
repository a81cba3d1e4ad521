-- The cells that a view owns with one chain, and with two.
use Rattle.std.proofs.Common.{◌≡◌, ◌⊎◌, ◌↔◌, ℕ, List, [], ◌∷◌, Contains, Option, Some, None, sym, inl, inr, subst}
use Rattle.std.proofs.lemmas.Option.{none-some}
use Rattle.lists.proofs.Elements.{Contains-head, Contains-later, either, only}
use Rattle.qs_core.specs.Shape.{Shape}
use Rattle.qs_core.specs.Core.{Chain, Owns, View}
use Rattle.qs_play.specs.inner.Held.{IsOwner}

-- a chain that stands and owns the cell
owns-from : (shape : Shape) (view : View) (chains : List Chain) (chain : Chain) (cell : ℕ) → view.chains ≡ chains → Contains chains chain → IsOwner shape chain cell → Owns shape view cell
owns-from shape view chains chain cell e h o = record { chain = chain; stands = subst (λ cs. Contains cs chain) (sym e) h; complete = o.0; of_cell = o.1 }

-- the chain that owns it
owner-of : (shape : Shape) (view : View) (chain : Chain) (cell : ℕ) (o : Owns shape view cell) → chain ≡ o.chain → IsOwner shape chain cell
owner-of shape view chain cell o e = subst (λ c. IsOwner shape c cell) (sym e) (o.complete, o.of_cell)

-- one chain
pub owned_one : (shape : Shape) (view : View) (chain : Chain) (owned : Option ℕ) → view.chains ≡ chain ∷ [] → ((cell : ℕ) → ((owned ≡ Some cell) ↔ IsOwner shape chain cell))
    → (cell : ℕ) → Owns shape view cell ↔ ((owned ≡ Some cell) ⊎ (◌≡◌ {A = Option ℕ} None (Some cell)))
owned_one shape view chain owned e is cell = (
  λ o. inl ((is cell).1 (owner-of shape view chain cell o (only chain o.chain (subst (λ cs. Contains cs o.chain) e o.stands)))),
  λ s. elim s [
    | inl h ↦ owns-from shape view (chain ∷ []) chain cell e (Contains-head chain []) ((is cell).0 h)
    | inr h ↦ absurd (none-some cell h)
  ],
)

-- two chains
pub owned_two : (shape : Shape) (view : View) (newest older : Chain) (owned other : Option ℕ) → view.chains ≡ newest ∷ older ∷ []
    → ((cell : ℕ) → ((owned ≡ Some cell) ↔ IsOwner shape newest cell)) → ((cell : ℕ) → ((other ≡ Some cell) ↔ IsOwner shape older cell))
    → (cell : ℕ) → Owns shape view cell ↔ ((owned ≡ Some cell) ⊎ (other ≡ Some cell))
owned_two shape view newest older owned other e is is' cell = (
  λ o. elim (either newest older o.chain (subst (λ cs. Contains cs o.chain) e o.stands)) [
    | inl same ↦ inl ((is cell).1 (owner-of shape view newest cell o same))
    | inr same ↦ inr ((is' cell).1 (owner-of shape view older cell o same))
  ],
  λ s. elim s [
    | inl h ↦ owns-from shape view (newest ∷ older ∷ []) newest cell e (Contains-head newest (older ∷ [])) ((is cell).0 h)
    | inr h ↦ owns-from shape view (newest ∷ older ∷ []) older cell e (Contains-later newest (older ∷ []) older (Contains-head older [])) ((is' cell).0 h)
  ],
)
