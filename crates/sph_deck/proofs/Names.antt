-- The names of a table, and the keys that they name.
use Rattle.std.proofs.Common.{◌≡◌, ◌≢◌, ℕ, ◌<◌, suc, zero, length, get_or, Bool, true, false, List, [], ◌∷◌, Option, Some, None, IsSome, Ordering, Less, Equal, Greater, MatchBool, inl, inr, String, Global, string_bytes, find, refl, sym, ap, ◌∙◌, arith}
use mathlib.Core.Bool.{beq}
use Rattle.std.proofs.lemmas.Bool.{cases_Bool, false≢true}
use Rattle.std.proofs.lemmas.Cmp.{nat_list_cmp_total}
use Rattle.std.proofs.lemmas.Map.Lookups.{exact_bytes}
use Rattle.std.proofs.lemmas.Slice.Eq.{bytes_eq-Decides}
use Rattle.std.specs.Cmp.{tied_itself}
use Rattle.std.specs.List.{AllWithin, HoldsAt}
use Rattle.std.specs.Map.{keys_of}
use Rattle.std.specs.Ordering.{match_ordering}
use Rattle.std.specs.Str.{bytes_eq}
use Rattle.toml.specs.Data.{Data, get_member}
use Rattle.toml.specs.View.{members_view}
use Rattle.toml.specs.declared.value.Value.{Value}
use Rattle.sph_deck.specs.declared.key.Key.{Key}
use Rattle.sph_deck.specs.declared.key.Key.TheVariants.{Ticks}
use Rattle.sph_deck.specs.Keys.{keys, name_of, is_of_top}
use Rattle.sph_deck.specs.inner.Row.{key_of, IsKnownName, IsUnknownName, AreNamesKnown, HasUnknownName}

-- an entry of a table's map
abbrev Entry : Type 0
Entry = String Global × Value

-- a key's name is its own
key_of-name_of : (key : Key) → key_of (name_of key) ≡ Some key
unfolding key_of
key_of-name_of Ticks = refl
key_of-name_of _ = refl

-- what is found passes the test
pub found_passes : {A : Type 0} (p : A → Bool) (xs : List A) (x : A) → find p xs ≡ Some x → p x ≡ true
found_passes p [] x h = cc
found_passes p (y ∷ ys) x h =
    elim (cases_Bool (p y)) [
      | inl passes ↦ let e = rw passes at h in let same : y ≡ x = cc in rw (← same) passes
      | inr fails ↦ found_passes p ys x (rw fails at h)
    ]

-- the key of a name has that name
name_of_found : (name : List ℕ) (key : Key) → key_of name ≡ Some key → name_of key ≡ name
unfolding key_of
name_of_found name key h =
    (bytes_eq-Decides (name_of key) name).0 (found_passes (λ k. bytes_eq (name_of k) name) keys key h)

-- a name of some key is found
found_named : (name : List ℕ) (key : Key) → name_of key ≡ name → key_of name ≡ Some key
found_named name key named = rw (← named) (key_of-name_of key)

-- a name with no key is unknown
pub unknown_from_none : (name : List ℕ) (of_top : Bool) → key_of name ≡ None → IsUnknownName of_top name
unknown_from_none name of_top none = λ key own named. let e = found_named name key named in cc

-- a name with a key is known where the key is
known_by_key : (name : List ℕ) (key : Key) (of_top : Bool) → key_of name ≡ Some key → is_of_top key ≡ of_top → IsKnownName of_top name
known_by_key name key of_top found own = record { key = key; own = own; named = name_of_found name key found }

-- and unknown where it is not
unknown_by_key : (name : List ℕ) (key : Key) (of_top : Bool) → key_of name ≡ Some key → is_of_top key ≢ of_top → IsUnknownName of_top name
unknown_by_key name key of_top found other =
    λ k own named.
    let e = found_named name k named in
    let same : key ≡ k = cc in
    other (ap is_of_top same ∙ own)

-- the test of a found key
pub known_or_unknown : (name : List ℕ) (key : Key) (r of_top : Bool) → key_of name ≡ Some key → r ≡ is_of_top key → MatchBool (beq r of_top) (IsKnownName of_top name) (IsUnknownName of_top name)
known_or_unknown name key true true found is = known_by_key name key true found (sym is)
known_or_unknown name key false false found is = known_by_key name key false found (sym is)
known_or_unknown name key true false found is = unknown_by_key name key false found (λ own. cc)
known_or_unknown name key false true found is = unknown_by_key name key true found (λ own. cc)

-- a value that a look-up finds stands at the first key or after it
found_at_or_after : {Q : Type 0} (o : Ordering) (rest : Option Data) (d : Data) → (o ≡ Equal → Q) → (IsSome rest → Q) → IsSome (match_ordering o rest (Some d) rest) → Q
found_at_or_after Less rest d here after h = after h
found_at_or_after Equal rest d here after h = here refl
found_at_or_after Greater rest d here after h = after h

-- one that stands after the first key is found
found_after : (o : Ordering) (rest : Option Data) (d : Data) → IsSome rest → IsSome (match_ordering o rest (Some d) rest)
found_after Less rest d h = h
found_after Equal rest d h = refl
found_after Greater rest d h = h

-- what holds of each key holds of each name that is found
of_each_name : (P : List ℕ → Type 0) (es : List Entry) → AllWithin (λ k. P (string_bytes k)) (keys_of es) 0 (length (keys_of es))
    → (name : List ℕ) → IsSome (get_member name (members_view es)) → P name
of_each_name P [] all name h = absurd (false≢true h)
of_each_name P (e ∷ es) all name h =
    found_at_or_after _ _ _
    (λ same. let named : name ≡ string_bytes e.0 = exact_bytes _ _ same in rw named (all 0 e.0 (omega arith) (omega arith)))
    (of_each_name P es (λ k d low high. all (suc k) d (omega arith) (omega arith)) name)
    h

-- each key is found by its name
found_by_name : (es : List Entry) (i : ℕ) (d : String Global) → i < length (keys_of es) → IsSome (get_member (string_bytes (get_or (keys_of es) i d)) (members_view es))
found_by_name [] i d h = absurd (omega arith)
found_by_name (e ∷ es) zero d h = rw (tied_itself nat_list_cmp_total (string_bytes e.0))
found_by_name (e ∷ es) (suc i) d h = found_after _ _ _ (found_by_name es i d (omega arith))

-- what a test of each key says of the names
pub names_from_any : (of_top : Bool) (es : List Entry) (r : Bool)
    → MatchBool r
    ((k : ℕ) × (k < length (keys_of es)) × HoldsAt (λ (s : String Global). IsUnknownName of_top (string_bytes s)) (keys_of es) k)
    (AllWithin (λ (s : String Global). IsKnownName of_top (string_bytes s)) (keys_of es) 0 (length (keys_of es)))
    → MatchBool r (HasUnknownName of_top (members_view es)) (AreNamesKnown of_top (members_view es))
names_from_any of_top [] true (k, low, at) = absurd (omega arith)
names_from_any of_top (e ∷ es) true (k, low, at) = record {
  name = string_bytes (get_or (keys_of (e ∷ es)) k e.0);
  stands = found_by_name (e ∷ es) k e.0 low;
  unknown = at e.0;
}
names_from_any of_top es false all = of_each_name (IsKnownName of_top) es all
