-- A step that was taken leaves the list after it.
use Rattle.std.proofs.Common.{◌≡◌, ℕ, Ok, Result}
use Rattle.std.specs.Bool.{⊤}
use Rattle.std.specs.declared.alloc.AllocError.{AllocError}
use Rattle.sph_bins.specs.Bins.{IsStepTick}
use Rattle.sph_deck.specs.declared.deck.Deck.{Deck}
use Rattle.sph_plain.specs.Run.{after, before}
use Rattle.sph_run.specs.inner.Steps.{Lent, TakesSteps}

pub taken : (deck : Deck) (pre : Lent → ℕ → Type 0) (post : Lent → ℕ → Result ⊤ AllocError → Lent → Type 0) (list list' : Lent) (t : ℕ)
    → TakesSteps deck pre post → IsStepTick deck.params t → list.now.items ≡ before deck t → post list t (Ok tt) list' → list'.now.items ≡ after deck t
taken deck pre post list list' t takes at from ran = takes.does list t (Ok tt) list' at from ran
