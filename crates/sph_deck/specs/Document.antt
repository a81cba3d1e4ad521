-- What a deck's bytes say: the document, its rows and the numbers at its keys.
use Rattle.std.specs.Prelude.{◌≡◌, ℕ, zero, suc, ◌∷◌, ℤ, pos, List, [], map, filter_map, Option, Some, unwrap_or, option_and_then, unsigned_abs, IsUtf8, slice_get}
use Rattle.sph_num.specs.declared.particle.Params.{Params}
use Rattle.sph_num.specs.declared.particle.Particle.{Particle as OneParticle}
use Rattle.sph_num.specs.Totals.{zero_vector}
use Rattle.toml.specs.Data.{Data, array, Items, no_items, item, Members, get_member, as_integer, as_table}
use Rattle.toml.specs.Parse.{parse_document}
use Rattle.sph_deck.specs.declared.key.Key.{Key}
use Rattle.sph_deck.specs.declared.key.Key.TheVariants.{Ticks, Every, BinMin, BinMax, Sound, Shift, Accuracy, Leaf, Pairs, Slack, Particle, Mass, H, X, Y, Z, Px, Py, Pz}
use Rattle.sph_deck.specs.Keys.{name_of}

-- the bytes are a TOML document, and this is its table
pub record IsDocument (bytes : List ℕ) (top : Members) : Type 0 where
  pub utf8 : IsUtf8 bytes
  pub parsed : parse_document bytes ≡ Some top

-- the values of an array, as a list
abbrev pub list_of_items : Items → List Data
list_of_items no_items = []
list_of_items (item d ds) = d ∷ list_of_items ds

-- the elements of a value that is an array
abbrev pub elements_at : Option Data → List Data
elements_at (Some (array ds)) = list_of_items ds
elements_at _ = []

-- the value at a key of a table
abbrev pub value_at : Key → Members → Option Data
value_at key table = get_member (name_of key) table

-- the elements of the array of particles; none where that key has no array
abbrev pub elements : Members → List Data
elements top = elements_at (value_at Particle top)

-- the table of a row: the top, or the i-th particle from 1, where that is a table
abbrev pub table_at : Members → ℕ → Option Members
table_at top zero = Some top
table_at top (suc i) = option_and_then as_table (slice_get (elements top) i)

-- the integer at a key, 0 where there is none
abbrev pub integer_at : Key → Members → ℤ
integer_at key table = unwrap_or (option_and_then as_integer (value_at key table)) (pos 0)

-- its absolute value
abbrev pub whole_at : Key → Members → ℕ
whole_at key table = unsigned_abs (integer_at key table)

-- the numbers of the top
abbrev pub params_of : Members → Params
params_of top = record {
  ticks = whole_at Ticks top;
  every = whole_at Every top;
  bin_min = whole_at BinMin top;
  bin_max = whole_at BinMax top;
  sound = whole_at Sound top;
  shift = whole_at Shift top;
  accuracy = whole_at Accuracy top;
  leaf = whole_at Leaf top;
  pairs = whole_at Pairs top;
  slack = whole_at Slack top;
}

-- the momentum that a particle's table gives
abbrev pub momentum_of : Members → List ℤ
momentum_of table = integer_at Px table ∷ integer_at Py table ∷ integer_at Pz table ∷ []

-- a particle at the start of a run, from its table
abbrev pub particle_of : Members → OneParticle
particle_of table = record {
  mass = whole_at Mass table;
  h = whole_at H table;
  x0 = whole_at X table ∷ whole_at Y table ∷ whole_at Z table ∷ [];
  t0 = 0;
  p = momentum_of table;
  q = momentum_of table;
  f = zero_vector;
  rho = 0;
  g = 0;
  bin = 0;
}

-- the particles, in the order of the file
abbrev pub particles_of : Members → List OneParticle
particles_of top = map particle_of (filter_map as_table (elements top))
