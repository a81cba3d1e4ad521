-- A table whose rows were read.
use Rattle.std.proofs.Common.{◌≡◌, ◌≤◌, List, [], ◌∷◌, length, map, filter_map, Option, Some, None, IsSomeAnd, All, false, refl}
use Rattle.std.proofs.lemmas.List.{length-map}
use Rattle.std.proofs.lemmas.List.Elements.{All-nil, All-cons}
use Rattle.std.specs.List.{cons_option}
use Rattle.sph_num.specs.declared.particle.Params.{Params}
use Rattle.sph_num.specs.declared.particle.Particle.{Particle as OneParticle}
use Rattle.sph_num.specs.Ranges.{most_particles}
use Rattle.toml.specs.Data.{Members, as_table}
use Rattle.toml.specs.View.{view}
use Rattle.toml.specs.declared.value.Value.{Value}
use Rattle.sph_deck.specs.declared.fault.DeckFault.{DeckFault}
use Rattle.sph_deck.specs.Document.{elements, particle_of}
use Rattle.sph_deck.specs.Faults.{StandsInTable}
use Rattle.sph_deck.specs.inner.Row.{AreNumbersRead}
use Rattle.sph_deck.specs.inner.Rows.{AreElementsRead, AreParamsRead, IsParticleRead, IsTableRead}

-- an element's particle comes first
particle_first : (o : Option Members) (particle : OneParticle) (tables : List Members) (particles : List OneParticle) → IsSomeAnd o (λ table. IsParticleRead table particle) → particles ≡ map particle_of tables
    → particle ∷ particles ≡ map particle_of (cons_option o tables)
particle_first None particle tables particles read rest = absurd read
particle_first (Some table) particle tables particles read rest = rw (read.is, rest)

-- the particles are those of the elements' tables
particles_read : (values : List Value) (particles : List OneParticle) → AreElementsRead values particles → particles ≡ map particle_of (filter_map as_table (map view values))
particles_read [] [] read = refl
particles_read [] (p ∷ ps) read = absurd read
particles_read (v ∷ vs) [] read = absurd read
particles_read (v ∷ vs) (p ∷ ps) read = particle_first (as_table (view v)) p _ ps read.0 (particles_read vs ps read.1)

-- an element that was read is clean
clean_of : (o : Option Members) (particle : OneParticle) → IsSomeAnd o (λ table. IsParticleRead table particle) → IsSomeAnd o (AreNumbersRead false)
clean_of None particle read = read
clean_of (Some table) particle read = read.numbers

-- all of them are
rows_read : (values : List Value) (particles : List OneParticle) → AreElementsRead values particles → All (λ element. IsSomeAnd (as_table element) (AreNumbersRead false)) (map view values)
rows_read [] ps read = All-nil (λ element. IsSomeAnd (as_table element) (AreNumbersRead false))
rows_read (v ∷ vs) [] read = absurd read
rows_read (v ∷ vs) (p ∷ ps) read =
    All-cons (λ element. IsSomeAnd (as_table element) (AreNumbersRead false)) (view v) (map view vs) (clean_of (as_table (view v)) p read.0) (rows_read vs ps read.1)

-- the rows make the table
pub table_read : (top : Members) (params : Params) (values : List Value) (particles : List OneParticle) → AreParamsRead top params → elements top ≡ map view values → (1 ≤ length values) × (length values ≤ most_particles)
    → AreElementsRead values particles → ((fault : DeckFault) → StandsInTable top fault → ⊥) → IsTableRead top params particles
table_read top params values particles own e fits read none = record {
  clean = record {
    row = own.numbers;
    some = rw (e, length-map values view) fits.0;
    few = rw (e, length-map values view) fits.1;
    rows = rw e (rows_read values particles read);
  };
  none = none;
  params_are = own.are;
  particles_are = rw e (particles_read values particles read);
}
