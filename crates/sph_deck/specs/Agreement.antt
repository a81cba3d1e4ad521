-- How a deck's numbers, each in its range, may not fit together.
use Rattle.std.specs.Prelude.{◌≡◌, ◌≢◌, ◌%◌, ◌^◌, ◌<◌, ◌≤◌, List}
use Rattle.sph_num.specs.Bound.{bound_of}
use Rattle.sph_num.specs.declared.particle.Params.{Params}
use Rattle.sph_num.specs.declared.particle.Particle.{Particle}
use Rattle.sph_deck.specs.declared.fault.DeckFault.{DeckFault}
use Rattle.sph_deck.specs.declared.fault.DeckFault.TheVariants.{BadEvery, BadTicks, BadBins, Sums}

-- the numbers that do not fit together
abbrev pub Disagree : Params → List Particle → DeckFault → Type 0
Disagree params particles (BadEvery every unit) = (params.every ≡ every) × (2 ^ params.bin_max ≡ unit) × (every % unit ≢ 0)
Disagree params particles (BadTicks ticks every) = (params.ticks ≡ ticks) × (params.every ≡ every) × (ticks % every ≢ 0)
Disagree params particles (BadBins low high) = (params.bin_min ≡ low) × (params.bin_max ≡ high) × (high < low)
Disagree params particles (Sums bound) = (bound_of params particles ≡ bound) × (2 ^ 96 ≤ bound)
Disagree params particles _ = ⊥
