-- What the rows of a document are read as.
use Rattle.std.specs.Prelude.{◌≡◌, ℕ, suc, ◌<◌, ◌≤◌, true, false, List, Option, Some, None, Result, Ok, Err, IsSomeAnd, MatchOption, MatchResult, slice_get, length, All, ⊤}
use Rattle.std.specs.List.{AllZip}
use Rattle.sph_num.specs.declared.particle.Params.{Params}
use Rattle.sph_num.specs.declared.particle.Particle.{Particle as OneParticle}
use Rattle.sph_num.specs.Ranges.{most_particles}
use Rattle.toml.specs.Data.{Data, Items, Members, as_array, as_table}
use Rattle.toml.specs.View.{view}
use Rattle.toml.specs.declared.value.Value.{Value}
use Rattle.sph_deck.specs.declared.fault.DeckFault.{DeckFault}
use Rattle.sph_deck.specs.declared.fault.DeckFault.TheVariants.{Missing, WrongKind, NoParticles, TooMany}
use Rattle.sph_deck.specs.declared.key.Key.TheVariants.{Particle}
use Rattle.sph_deck.specs.declared.refusal.DeckRefusal.{DeckRefusal}
use Rattle.sph_deck.specs.declared.refusal.DeckRefusal.TheVariants.{Fault, Memory}
use Rattle.sph_deck.specs.Document.{value_at, elements, list_of_items, params_of, particle_of, particles_of}
use Rattle.sph_deck.specs.Faults.{StandsInTable}
use Rattle.sph_deck.specs.inner.Judged.{place_at}
use Rattle.sph_deck.specs.inner.Row.{AreNumbersRead, IsRowFault}

-- each number of the top was read, and these are they
pub record AreParamsRead (top : Members) (params : Params) : Type 0 where
  pub numbers : AreNumbersRead true top
  pub are : params ≡ params_of top

-- each number of a particle was read, and this is the particle
pub record IsParticleRead (table : Members) (particle : OneParticle) : Type 0 where
  pub numbers : AreNumbersRead false table
  pub is : particle ≡ particle_of table

-- what stands at the key of the array of particles
abbrev pub judged_items : Option Items → Result Items DeckFault
judged_items None = Err (WrongKind (place_at Particle 0))
judged_items (Some items) = Ok items

abbrev pub judged_array : Option Data → Result Items DeckFault
judged_array None = Err (Missing (place_at Particle 0))
judged_array (Some value) = judged_items (as_array value)

-- the fault of an array of this many elements
abbrev pub IsCountFault : ℕ → DeckFault → Type 0
IsCountFault count NoParticles = count ≡ 0
IsCountFault count (TooMany many) = (count ≡ many) × (most_particles < count)
IsCountFault count _ = ⊥

-- the fault of the array as a whole
abbrev pub IsArrayFault : Members → DeckFault → Type 0
IsArrayFault top fault = MatchResult (judged_array (value_at Particle top)) (λ items. IsCountFault (length (list_of_items items)) fault) (λ wrong. fault ≡ wrong)

-- an element of the array that is a table, whose numbers were read, and its particle
abbrev pub IsElementRead : Data → OneParticle → Type 0
IsElementRead element particle = IsSomeAnd (as_table element) (λ table. IsParticleRead table particle)

-- the fault of an element
abbrev pub IsElementFault : ℕ → Data → DeckFault → Type 0
IsElementFault row element fault = MatchOption (as_table element) (fault ≡ WrongKind (place_at Particle row)) (λ table. IsRowFault false row table fault)

-- the elements of the array, and their particles
abbrev pub AreElementsRead : List Value → List OneParticle → Type 0
AreElementsRead values particles = AllZip (λ value particle. IsElementRead (view value) particle) values particles

-- some element has the fault
pub record HasElementFault (elements : List Data) (fault : DeckFault) : Type 0 where
  pub index : ℕ
  pub element : Data
  pub found : slice_get elements index ≡ Some element
  pub wrong : IsElementFault (suc index) element fault

-- the refusal is a fault of which P holds, or memory ran out, which says nothing of the text
abbrev pub IsRefusal : (DeckFault → Type 0) → DeckRefusal → Type 0
IsRefusal P (Fault fault) = P fault
IsRefusal P Memory = ⊤

-- each number of the table is in its range, and there are as many particles as a deck may have
pub record IsCleanTable (top : Members) : Type 0 where
  pub row : AreNumbersRead true top
  pub some : 1 ≤ length (elements top)
  pub few : length (elements top) ≤ most_particles
  pub rows : All (λ element. IsSomeAnd (as_table element) (AreNumbersRead false)) (elements top)

-- the table has no fault, and these are its numbers
pub record IsTableRead (top : Members) (params : Params) (particles : List OneParticle) : Type 0 where
  pub clean : IsCleanTable top
  pub none : (fault : DeckFault) → StandsInTable top fault → ⊥
  pub params_are : params ≡ params_of top
  pub particles_are : particles ≡ particles_of top
