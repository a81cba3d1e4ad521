-- What a view owns, by the one cell or two of its chains.
use Rattle.std.proofs.Common.{◌≡◌, ◌⊎◌, ◌↔◌, ℕ, Option, Some, None, refl, sym, ap, inl, inr, subst}
use Rattle.std.proofs.lemmas.Option.{same_Some}
use Rattle.qs_core.specs.Shape.{Shape, task_at}
use Rattle.qs_core.specs.Core.{Owns, View}
use Rattle.qs_core.specs.Steps.{OwnsAbove, OwnsJust}
use Rattle.qs_core.specs.inner.Held.{IsBelowSome}
use Rattle.qs_play.specs.inner.Held.{AreJust, IsEither}

-- the cells that a view owns
pub record AreOwned (shape : Shape) (view : View) (newest older : Option ℕ) : Type 0 where
  pub is : (cell : ℕ) → Owns shape view cell ↔ ((newest ≡ Some cell) ⊎ (older ≡ Some cell))

either-from : (o a b : Option ℕ) → ((cell : ℕ) → o ≡ Some cell → (a ≡ Some cell) ⊎ (b ≡ Some cell)) → IsEither o a b
either-from None a b f = tt
either-from (Some cell) a b f = f cell refl

-- the first cell of a task is always there
of_task : (first : ℕ) (second : Option ℕ) (cell : ℕ) → (Some first ≡ Some cell) ⊎ (second ≡ Some cell) → (first ≡ cell) ⊎ (second ≡ Some cell)
of_task first second cell s = elim s [ inl e ↦ inl (same_Some first cell e) | inr e ↦ inr e ]

in_task : (first : ℕ) (second : Option ℕ) (cell : ℕ) → (first ≡ cell) ⊎ (second ≡ Some cell) → (Some first ≡ Some cell) ⊎ (second ≡ Some cell)
in_task first second cell s = elim s [ inl e ↦ inl (ap Some e) | inr e ↦ inr e ]

pub just_is : (shape : Shape) (view : View) (task : ℕ) (newest older : Option ℕ) → AreOwned shape view newest older
    → AreJust newest older (task_at shape task).first (task_at shape task).second ↔ OwnsJust shape view task
just_is shape view task newest older owned =
    let first = (task_at shape task).first in
    let second = (task_at shape task).second in (
      λ j cell. (
        λ o. elim ((owned.is cell).0 o) [
          | inl e ↦ of_task first second cell (subst (λ x. IsEither x (Some first) second) e j.newest_in)
          | inr e ↦ of_task first second cell (subst (λ x. IsEither x (Some first) second) e j.older_in)
        ],
        λ i. (owned.is cell).1 (elim i [
          | inl e ↦ subst (λ x. (newest ≡ Some x) ⊎ (older ≡ Some x)) e j.has_first
          | inr e ↦ subst (λ x. IsEither x newest older) e j.has_second
        ]),
      ),
      λ own. record {
        has_first = (owned.is first).0 ((own first).1 (inl refl));
        has_second = either-from second newest older (λ cell e. (owned.is cell).0 ((own cell).1 (inr e)));
        newest_in = either-from newest (Some first) second (λ cell e. in_task first second cell ((own cell).0 ((owned.is cell).1 (inl e))));
        older_in = either-from older (Some first) second (λ cell e. in_task first second cell ((own cell).0 ((owned.is cell).1 (inr e))));
      },
    )

some_below : (shape : Shape) (view : View) (leaf : ℕ) (o : Option ℕ) → ((cell : ℕ) → o ≡ Some cell → Owns shape view cell) → IsBelowSome shape leaf o → OwnsAbove shape view leaf
some_below shape view leaf None own b = absurd b
some_below shape view leaf (Some cell) own b = record { cell = cell; owned = own cell refl; below = b }

pub above_is : (shape : Shape) (view : View) (leaf : ℕ) (newest older : Option ℕ) → AreOwned shape view newest older
    → OwnsAbove shape view leaf ↔ (IsBelowSome shape leaf newest ⊎ IsBelowSome shape leaf older)
above_is shape view leaf newest older owned = (
  λ o. elim ((owned.is o.cell).0 o.owned) [
    | inl e ↦ inl (subst (IsBelowSome shape leaf) (sym e) o.below)
    | inr e ↦ inr (subst (IsBelowSome shape leaf) (sym e) o.below)
  ],
  λ s. elim s [
    | inl b ↦ some_below shape view leaf newest (λ cell e. (owned.is cell).1 (inl e)) b
    | inr b ↦ some_below shape view leaf older (λ cell e. (owned.is cell).1 (inr e)) b
  ],
)
