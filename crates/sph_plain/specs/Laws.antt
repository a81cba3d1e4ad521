-- What the lists of every run of an accepted deck keep.
use Rattle.std.specs.Prelude.{◌≡◌, ℕ, ◌+◌, ◌^◌, ◌<◌}
use Rattle.sph_num.specs.Bound.{bounds_of}
use Rattle.sph_num.specs.Totals.{component, total_by}
use Rattle.sph_deck.specs.declared.deck.Deck.{Deck}
use Rattle.sph_deck.specs.Accepted.{AreAccepted}
use Rattle.sph_bins.specs.Bins.{IsStepTick}
use Rattle.sph_bins.specs.InBounds.{InBounds}
use Rattle.sph_plain.specs.Run.{before, after}

-- the list before each step is in bounds
abbrev pub RunsStayInBounds : Type 0
RunsStayInBounds =
    (deck : Deck) (t : ℕ) → AreAccepted deck.params deck.particles → IsStepTick deck.params t
    → InBounds deck.params (bounds_of deck.particles) t (before deck t)

-- the list before the next step is the one after this
abbrev pub StepsFollow : Type 0
StepsFollow = (deck : Deck) (t : ℕ) → IsStepTick deck.params t → before deck (t + 2 ^ deck.params.bin_min) ≡ after deck t

-- with one time bin the momenta on each axis, x being 0, y 1 and z 2, add up after each step to what the deck's do
abbrev pub MomentumIsKept : Type 0
MomentumIsKept =
    (deck : Deck) (t axis : ℕ) → AreAccepted deck.params deck.particles → deck.params.bin_min ≡ deck.params.bin_max → IsStepTick deck.params t → axis < 3
    → total_by (λ i. component i.q axis) (after deck t) ≡ total_by (λ i. component i.p axis) deck.particles
