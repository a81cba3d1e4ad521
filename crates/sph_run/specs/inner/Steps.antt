-- What takes a run from step to step.
use Rattle.std.specs.Prelude.{◌≡◌, ℕ, OnOk, Result, Vec, ⊤}
use Rattle.std.specs.declared.alloc.AllocError.{AllocError}
use Rattle.std.specs.declared.alloc.Global.{Global}
use Rattle.sph_num.specs.declared.particle.Particle.{Particle}
use Rattle.sph_bins.specs.Bins.{IsStepTick}
use Rattle.sph_deck.specs.declared.deck.Deck.{Deck}
use Rattle.sph_plain.specs.Run.{after, before}
use denote.MutBor.{MutBor}

-- a lent list of particles
abbrev pub Lent : Type 0
Lent = MutBor (Vec Particle Global)

-- a function of a list and a tick takes the deck's list through the step there, or answers want of memory
pub record TakesSteps (deck : Deck) (pre : Lent → ℕ → Type 0) (post : Lent → ℕ → Result ⊤ AllocError → Lent → Type 0) : Type 0 where
  pub may : (list : Lent) (t : ℕ) → IsStepTick deck.params t → list.now.items ≡ before deck t → pre list t
  pub does : (list : Lent) (t : ℕ) (r : Result ⊤ AllocError) (list' : Lent) → IsStepTick deck.params t → list.now.items ≡ before deck t → post list t r list'
      → OnOk r (list'.now.items ≡ after deck t)
