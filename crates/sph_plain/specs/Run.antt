-- A run of a deck: the list of particles before and after each step.
use Rattle.std.specs.Prelude.{ℕ, zero, suc, ◌*◌, ◌/◌, ◌^◌, List, map}
use Rattle.sph_num.specs.declared.particle.Particle.{Particle}
use Rattle.sph_num.specs.Totals.{zero_vector}
use Rattle.sph_deck.specs.declared.deck.Deck.{Deck}
use Rattle.sph_bins.specs.Kick.{next_list}

-- a particle before the run: the momentum is the deck's, and no step has left anything
abbrev pub started : Particle → Particle
started i = record i { t0 = 0; q = i.p; f = zero_vector; rho = 0; g = 0; bin = 0 }

-- the particles of a deck before its run
abbrev pub start : Deck → List Particle
start deck = map started deck.particles

-- the list before the step of this number, from 0: the steps stand at the multiples of 2^bin_min
abbrev pub before_step : Deck → ℕ → List Particle
before_step deck zero = start deck
before_step deck (suc k) = next_list deck.params (before_step deck k) (k * 2 ^ deck.params.bin_min)

-- the list before the step at a tick
unfoldable pub before : Deck → ℕ → List Particle
before deck t = before_step deck (t / 2 ^ deck.params.bin_min)

-- the list after it
unfoldable pub after : Deck → ℕ → List Particle
after deck t = next_list deck.params (before deck t) t
