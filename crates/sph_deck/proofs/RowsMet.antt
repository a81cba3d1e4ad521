-- A row's walk over its names and over the keys that want an integer.
use Rattle.std.proofs.Common.{◌≡◌, ℕ, ◌⊎◌, Bool, ℤ, List, [], ◌∷◌, Option, None, IsSome, inl, inr, refl, sym, subst}
use Rattle.std.specs.Prelude.{⊤}
use Rattle.toml.specs.Data.{Members}
use Rattle.sph_deck.specs.declared.fault.DeckFault.{DeckFault}
use Rattle.sph_deck.specs.declared.key.Key.{Key}
use Rattle.sph_deck.specs.inner.Judged.{IsReadAt}
use Rattle.sph_deck.specs.Keys.{range_of, is_of_top}
use Rattle.sph_deck.specs.inner.Meets.{Meets}
use Rattle.sph_deck.specs.inner.Row.{AreNumbersRead, IsKeyFault, IsNameFault, IsRowFault, ReadsKey, unknown_name, at_key}
use Rattle.sph_deck.proofs.Walks.{meets_as, meets_both, meets_none, none_before}

-- the integers of a row, each with its key
abbrev pub Numbers : Type 0
Numbers = List (Key × ℤ)

-- the key is one of these
abbrev pub IsAmong : Key → Numbers → Type 0
IsAmong key [] = ⊥
IsAmong key (n ∷ ns) = (key ≡ n.0) ⊎ IsAmong key ns

-- they are the row's own keys that want an integer, all of them
pub record AreOwn (of_top : Bool) (numbers : Numbers) : Type 0 where
  pub own : (key : Key) → IsAmong key numbers → (is_of_top key ≡ of_top) × IsSome (range_of key)
  pub all : (key : Key) → is_of_top key ≡ of_top → IsSome (range_of key) → IsAmong key numbers

-- one of these keys has the fault
abbrev pub HasKeyFault : ℕ → Members → Numbers → DeckFault → Type 0
HasKeyFault row table [] fault = ⊥
HasKeyFault row table (n ∷ ns) fault = IsKeyFault n.0 row table fault ⊎ HasKeyFault row table ns fault

-- each of these integers stands at its key
abbrev pub AreReadAt : Members → Numbers → Type 0
AreReadAt table [] = ⊤
AreReadAt table (n ∷ ns) = IsReadAt n.0 table n.1 × AreReadAt table ns

-- the walk takes all of these keys
pub record ReadsKeys (row : ℕ) (table : Members) (numbers : Numbers) (before after : Option DeckFault) : Type 0 where
  pub faults : Meets (HasKeyFault row table numbers) before after
  pub read : after ≡ None → AreReadAt table numbers

-- it takes none
pub reads_none : {row : ℕ} {table : Members} {a : Option DeckFault} → ReadsKeys row table [] a a
reads_none = record { faults = meets_none; read = λ none. tt }

-- it takes one and then the others
pub reads_then : {row : ℕ} {table : Members} {key : Key} {z : ℤ} {numbers : Numbers} {a b c : Option DeckFault} → ReadsKey key row table z a b → ReadsKeys row table numbers b c
    → ReadsKeys row table ((key, z) ∷ numbers) a c
reads_then {b = b} {c = c} one rest = record {
  faults = meets_both one.faults rest.faults;
  read = λ none. (one.read (none_before b c rest.faults none), rest.read none);
}

module _ (row : ℕ) (table : Members) where
  -- the fault at one of the keys
  fault_at : (numbers : Numbers) (key : Key) (fault : DeckFault) → IsAmong key numbers → IsKeyFault key row table fault → HasKeyFault row table numbers fault
  fault_at [] key fault among is = absurd among
  fault_at (n ∷ ns) key fault (inl here) is = inl (subst (λ (k : Key). IsKeyFault k row table fault) here is)
  fault_at (n ∷ ns) key fault (inr there) is = inr (fault_at ns key fault there is)

  -- such a fault is one of the row
  fault_of_keys : (of_top : Bool) (numbers : Numbers) (fault : DeckFault) → ((key : Key) → IsAmong key numbers → (is_of_top key ≡ of_top) × IsSome (range_of key)) → HasKeyFault row table numbers fault
      → IsRowFault of_top row table fault
  fault_of_keys of_top [] fault own has = absurd has
  fault_of_keys of_top (n ∷ ns) fault own (inl is) = let (there, wants) = own n.0 (inl refl) in at_key n.0 fault there wants is
  fault_of_keys of_top (n ∷ ns) fault own (inr has) = fault_of_keys of_top ns fault (λ key among. own key (inr among)) has

  -- the integer at one of the keys
  number_at : (numbers : Numbers) (key : Key) → IsAmong key numbers → AreReadAt table numbers → (z : ℤ) × IsReadAt key table z
  number_at [] key among read = absurd among
  number_at (n ∷ ns) key (inl here) read = (n.1, subst (λ (k : Key). IsReadAt k table n.1) (sym here) read.0)
  number_at (n ∷ ns) key (inr there) read = number_at ns key there read.1

  module _ {of_top : Bool} {numbers : Numbers} (keys : AreOwn of_top numbers) where
    -- a fault by an unknown name or at one of the keys is one of the row
    of_row : (fault : DeckFault) → IsNameFault of_top row table fault ⊎ HasKeyFault row table numbers fault → IsRowFault of_top row table fault
    of_row fault (inl (has, is)) = rw is (unknown_name has)
    of_row fault (inr has) = fault_of_keys of_top numbers fault keys.own has

    -- and back
    part_of_row : (fault : DeckFault) → IsRowFault of_top row table fault → IsNameFault of_top row table fault ⊎ HasKeyFault row table numbers fault
    part_of_row fault (unknown_name has) = inl (has, refl)
    part_of_row fault (at_key key f own wants is) = inr (fault_at numbers key fault (keys.all key own wants) is)

    -- so a walk over the names and all keys is one over the row
    pub meets_row : {a b c : Option DeckFault} → Meets (IsNameFault of_top row table) a b → ReadsKeys row table numbers b c → Meets (IsRowFault of_top row table) a c
    meets_row names walk = meets_as of_row part_of_row (meets_both names walk.faults)

    -- and without a fault all its integers were read
    pub numbers_read : AreReadAt table numbers → AreNumbersRead of_top table
    numbers_read read key own wants = number_at numbers key (keys.all key own wants) read
