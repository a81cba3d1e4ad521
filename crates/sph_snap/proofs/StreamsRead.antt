-- What was read of a stream: whole snapshots, up to an offset.
use Rattle.std.proofs.Common.{◌≡◌, ℕ, zero, suc, ◌+◌, ◌*◌, ◌<◌, ◌≤◌, ◌⊎◌, inl, inr, Bool, true, false, Option, None, Some, Err, Result, List, [], ◌∷◌, ◌++◌, length, map, take, drop, refl, sym, ap, ◌∙◌, subst, arith, append-nil}
use Rattle.std.specs.Prelude.{◌==◌, if◌then◌else◌, nat_lt, slice_get, slice_index, MatchResult, Ok}
use Rattle.std.specs.Result.{IsErrAnd}
use Rattle.std.specs.declared.alloc.Global.{Global}
use Rattle.std.specs.declared.vec.Vec.{Vec}
use Rattle.std.specs.List.{cons_option, filter_map, flat_map}
use Rattle.std.specs.List.Sorted.{IsStrictlyIncreasing}
use Rattle.std.proofs.Math.Seq.{take-add}
use Rattle.std.proofs.lemmas.Bool.Decides.{nat_tests}
use Rattle.std.proofs.lemmas.Option.{none-some, same_Some}
use Rattle.std.proofs.lemmas.Grind.{flat_map-append}
use Rattle.std.proofs.lemmas.List.{get_or_default, length-drop, length-take-le, take_all, take_at, take-append-drop}
use Rattle.std.proofs.lemmas.List.Elements.{All-nil, All-push}
use Rattle.byteorder.specs.Endian.{little_from}
use Rattle.sph_snap.specs.declared.fault.SnapFault.{SnapFault}
use Rattle.sph_snap.specs.declared.fault.SnapFault.TheVariants.{Magic, Memory, Range, Short, Trailing}
use Rattle.sph_snap.specs.declared.snapshot.Snapshot.{Snapshot}
use Rattle.sph_snap.specs.Fields.{Field, field_fault, first_fault, snapshot_fields}
use Rattle.sph_snap.specs.inner.Parts.{AllFit, EndFails, Ends, FailsFirst, snapshot_in}
use Rattle.sph_snap.specs.Reads.{AnswersStream, FailsAt, IsFieldsFault, IsMarkAt, IsStreamFault, least_tick}
use Rattle.sph_snap.specs.Snapshot.{AreInOrder, IsSnapshot, IsStreamOf, snapshot_mark, spell}
use Rattle.sph_snap.proofs.Differ.{just_one_fault, none_begins_another, rising_tail, streams_have_no_fault}
use Rattle.sph_snap.proofs.NoFault.{length-spell}
use Rattle.sph_snap.proofs.Pieces.{IsAt, IsAt-fits}
use Rattle.sph_snap.proofs.ReadBack.{IsSpelledAt, IsSpelledAt-from_fields}

-- ---- one snapshot

-- the snapshot that was read stands in the bytes, in its ranges
pub record StandsAt (bytes : List ℕ) (least at : ℕ) (s : Snapshot) : Type 0 where
  pub ranges : IsSnapshot s
  pub tick : least ≤ s.tick
  pub within : at + (16 + 84 * length s.rows) ≤ length bytes
  pub spelled : take (16 + 84 * length s.rows) (drop at bytes) ≡ spell s

pub stands : (bytes : List ℕ) (least at : ℕ) (s : Snapshot) → ((i : ℕ) → slice_index bytes i < 256) → IsMarkAt snapshot_mark bytes at → AllFit bytes (snapshot_fields bytes least at)
    → s ≡ snapshot_in bytes at → StandsAt bytes least at s
stands bytes least at s small mark fit is =
    let found : IsSpelledAt s bytes least at = subst (λ (r : Snapshot). IsSpelledAt r bytes least at) (sym is) (IsSpelledAt-from_fields bytes least at (λ k d h. subst (λ b. b < 256) (get_or_default bytes k 0 d h) (small k)) mark fit.none) in
    let size : length (spell s) ≡ 16 + 84 * length s.rows = length-spell s found.ranges in
    let here : IsAt (spell s) bytes at = found.stands in
    record {
      ranges = found.ranges;
      tick = found.tick;
      within = let inside : at + length (spell s) ≤ length bytes = IsAt-fits (spell s) bytes at (omega arith) here in omega arith;
      spelled = ap (take (16 + 84 * length s.rows)) here.is ∙ take_at (spell s) here.after (16 + 84 * length s.rows) size;
    }

-- ---- all snapshots so far

-- the bytes before the offset are those of the snapshots, and the next tick is no less than the least one
pub record IsReadTo (bytes : List ℕ) (snapshots : List Snapshot) (at least : ℕ) : Type 0 where
  pub in_order : AreInOrder snapshots
  pub spelled : take at bytes ≡ flat_map spell snapshots
  pub within : at ≤ length bytes
  pub next : least ≡ least_tick snapshots

pub read_none : (bytes : List ℕ) → IsReadTo bytes [] 0 0
read_none bytes = record {
  in_order = record { each = All-nil IsSnapshot; rising = λ k h. absurd (omega arith) };
  spelled = refl;
  within = omega arith;
  next = refl;
}

-- the least tick behind one snapshot more
least_tick-push : (snapshots : List Snapshot) (s : Snapshot) → least_tick (snapshots ++ s ∷ []) ≡ suc s.tick
least_tick-push [] s = refl
least_tick-push (r ∷ []) s = refl
least_tick-push (r ∷ q ∷ rest) s = least_tick-push (q ∷ rest) s

-- numbers rise where each is below the next
rising_cons : (x y : ℕ) (xs : List ℕ) → x < y → IsStrictlyIncreasing (y ∷ xs) → IsStrictlyIncreasing (x ∷ y ∷ xs)
rising_cons x y xs below rising zero h = below
rising_cons x y xs below rising (suc k) h = let next : suc (k + 1) ≡ suc k + 1 = omega arith in subst (λ n. slice_index (y ∷ xs) k < slice_index (x ∷ y ∷ xs) n) next (rising k (omega arith))

rising_push : (snapshots : List Snapshot) (s : Snapshot) → IsStrictlyIncreasing (map (λ (r : Snapshot). r.tick) snapshots) → least_tick snapshots ≤ s.tick
    → IsStrictlyIncreasing (map (λ (r : Snapshot). r.tick) (snapshots ++ s ∷ []))
rising_push [] s rising low = λ k h. absurd (omega arith)
rising_push (r ∷ []) s rising low = rising_cons r.tick s.tick [] low (λ k h. absurd (omega arith))
rising_push (r ∷ q ∷ rest) s rising low =
    rising_cons r.tick q.tick (map (λ (u : Snapshot). u.tick) (rest ++ s ∷ [])) (rising 0 (omega arith))
    (rising_push (q ∷ rest) s (rising_tail r.tick (map (λ (u : Snapshot). u.tick) (q ∷ rest)) rising) low)

-- one snapshot more
pub read_more : (bytes : List ℕ) (snapshots next : List Snapshot) (at least end tick : ℕ) (s : Snapshot) → IsReadTo bytes snapshots at least → StandsAt bytes least at s
    → next ≡ snapshots ++ s ∷ [] → end ≡ at + (16 + 84 * length s.rows) → tick ≡ s.tick + 1 → IsReadTo bytes next end tick
read_more bytes snapshots next at least end tick s so_far here put is rises =
    let order = so_far.in_order in
    let low : least_tick snapshots ≤ s.tick = subst (λ n. n ≤ s.tick) so_far.next here.tick in
    let size = 16 + 84 * length s.rows in
    subst (λ l. IsReadTo bytes l end tick) (sym put) (subst (λ k. IsReadTo bytes (snapshots ++ s ∷ []) k tick) (sym is) record {
      in_order = record { each = All-push IsSnapshot snapshots s order.each here.ranges; rising = rising_push snapshots s order.rising low };
      spelled =
          take-add at size bytes ∙ ap (λ l. l ++ take size (drop at bytes)) so_far.spelled ∙ ap (λ l. flat_map spell snapshots ++ l) (here.spelled ∙ sym (append-nil (spell s)))
          ∙ sym (flat_map-append spell snapshots (s ∷ []));
      within = here.within;
      next = let last = least_tick-push snapshots s in omega arith;
    })

-- ---- the answers

-- behind what was read the bytes fail
pub read_fails : (bytes : List ℕ) (snapshots : List Snapshot) (at least : ℕ) (fault : SnapFault) → IsReadTo bytes snapshots at least → FailsAt bytes snapshots at fault → IsStreamFault bytes fault
read_fails bytes snapshots at least fault so_far fails =
    let size : length (flat_map spell snapshots) ≡ at = sym (ap length so_far.spelled) ∙ length-take-le at bytes so_far.within in
    record {
      before = snapshots;
      in_order = so_far.in_order;
      rest = drop at bytes;
      spelled = sym (take-append-drop at bytes) ∙ ap (λ l. l ++ drop at bytes) so_far.spelled;
      fails = subst (λ k. FailsAt bytes snapshots k fault) (sym size) fails;
    }

-- what an answer says besides: of a stream its snapshots, and of bytes with a fault that fault
pub stream_answered : (bytes : List ℕ) (result : Result (Vec Snapshot Global) SnapFault) → AnswersStream bytes result
    → (snapshots : List Snapshot) → IsStreamOf bytes snapshots → MatchResult result (λ read. read.items ≡ snapshots) (λ fault. fault ≡ Memory)
stream_answered bytes (Ok read) answer snapshots is =
    let same : bytes ++ [] ≡ bytes = append-nil bytes in
    (none_begins_another bytes [] read.items snapshots answer (subst (λ l. IsStreamOf l snapshots) (sym same) is)).1
stream_answered bytes (Err fault) (inl e) snapshots is = e
stream_answered bytes (Err fault) (inr fails) snapshots is = absurd (streams_have_no_fault bytes snapshots fault is fails)

pub fault_answered : (bytes : List ℕ) (result : Result (Vec Snapshot Global) SnapFault) → AnswersStream bytes result
    → (fault : SnapFault) → IsStreamFault bytes fault → (result ≡ Err fault) ⊎ (result ≡ Err Memory)
fault_answered bytes (Ok read) answer fault fails = absurd (streams_have_no_fault bytes read.items fault answer fails)
fault_answered bytes (Err other) (inl e) fault fails = inr (ap Err e)
fault_answered bytes (Err other) (inr is) fault fails = inl (ap Err (just_one_fault bytes other fault is fails))

-- the exit of a `?`
pub err_answered : (bytes : List ℕ) (result : Result (Vec Snapshot Global) SnapFault) (fault : SnapFault) → IsErrAnd result (λ y. y ≡ fault)
    → (fault ≡ Memory) ⊎ IsStreamFault bytes fault → AnswersStream bytes result
err_answered bytes (Ok read) fault e p = absurd e
err_answered bytes (Err y) fault e p = subst (λ z. (z ≡ Memory) ⊎ IsStreamFault bytes z) (sym e) p

-- a mark that is cut off
pub mark_cut : (bytes : List ℕ) (snapshots : List Snapshot) (at least : ℕ) (fault : SnapFault) → IsReadTo bytes snapshots at least
    → (length bytes < at + 8) × (fault ≡ Short at) → IsStreamFault bytes fault
mark_cut bytes snapshots at least fault so_far (cut, is) = subst (IsStreamFault bytes) (sym is) (read_fails bytes snapshots at least (Short at) so_far (inl (refl, cut)))

-- the fault of a field is that it is cut off or out of range
abbrev IsOfField : SnapFault → Type 0
IsOfField (Short place) = Unit {0}
IsOfField (Range place) = Unit {0}
IsOfField _ = ⊥

tests_failed : (cut fits : Bool) (place : ℕ) (fault : SnapFault) → (if cut then Some (Short place) else if fits then None else Some (Range place)) ≡ Some fault → IsOfField fault
tests_failed true fits place fault e = subst IsOfField (same_Some (Short place) fault e) tt
tests_failed false true place fault e = absurd (none-some fault e)
tests_failed false false place fault e = subst IsOfField (same_Some (Range place) fault e) tt

field_kind : (bytes : List ℕ) (f : Field) (fault : SnapFault) → field_fault bytes f ≡ Some fault → IsOfField fault
unfolding field_fault
field_kind bytes f fault e = tests_failed (nat_lt (length bytes) (f.offset + f.size)) (f.fits (little_from f.offset f.size bytes)) f.offset fault e

first_kind : (o : Option SnapFault) (rest : List SnapFault) (fault : SnapFault) → ((x : SnapFault) → o ≡ Some x → IsOfField x) → (slice_get rest 0 ≡ Some fault → IsOfField fault)
    → slice_get (cons_option o rest) 0 ≡ Some fault → IsOfField fault
first_kind None rest fault first later e = later e
first_kind (Some x) rest fault first later e = first fault e

fields_kind : (bytes : List ℕ) (fields : List Field) (fault : SnapFault) → first_fault bytes fields ≡ Some fault → IsOfField fault
fields_kind bytes [] fault e = absurd (none-some fault e)
fields_kind bytes (f ∷ fs) fault e =
    first_kind (field_fault bytes f) (filter_map (field_fault bytes) fs) fault (field_kind bytes f) (fields_kind bytes fs fault) e

-- a fault of a snapshot's fields
fails_in : (bytes : List ℕ) (snapshots : List Snapshot) (at : ℕ) (fault : SnapFault) → IsOfField fault → IsFieldsFault bytes snapshots at fault → FailsAt bytes snapshots at fault
fails_in bytes snapshots at (Short place) kind is = inr is
fails_in bytes snapshots at (Range place) kind is = is
fails_in bytes snapshots at (Magic place) kind is = absurd kind
fails_in bytes snapshots at (Trailing place) kind is = absurd kind
fails_in bytes snapshots at Memory kind is = absurd kind

pub snapshot_failed : (bytes : List ℕ) (snapshots : List Snapshot) (at least : ℕ) (fault : SnapFault) → IsReadTo bytes snapshots at least → IsMarkAt snapshot_mark bytes at
    → (fault ≡ Memory) ⊎ FailsFirst bytes (snapshot_fields bytes least at) fault → (fault ≡ Memory) ⊎ IsStreamFault bytes fault
snapshot_failed bytes snapshots at least fault so_far mark (inl e) = inl e
snapshot_failed bytes snapshots at least fault so_far mark (inr fails) =
    let same : first_fault bytes (snapshot_fields bytes (least_tick snapshots) at) ≡ Some fault = subst (λ n. first_fault bytes (snapshot_fields bytes n at) ≡ Some fault) so_far.next fails.first in
    let kind = fields_kind bytes (snapshot_fields bytes (least_tick snapshots) at) fault same in
    inr (read_fails bytes snapshots at least fault so_far (fails_in bytes snapshots at fault kind (record { mark = mark; first = same })))

-- whether anything was read yet
is_empty : (snapshots : List Snapshot) (n : ℕ) (is_first : Bool) → n ≡ length snapshots → is_first ≡ (n == 0) → is_first ≡ true → snapshots ≡ []
is_empty [] n is_first size is e = refl
is_empty (s ∷ rest) n is_first size is e = absurd (grind (arith, nat_tests))

is_not_empty : (snapshots : List Snapshot) (n : ℕ) (is_first : Bool) → n ≡ length snapshots → is_first ≡ (n == 0) → is_first ≡ false → 1 ≤ length snapshots
is_not_empty [] n is_first size is e = grind (arith, nat_tests)
is_not_empty (s ∷ rest) n is_first size is e = omega arith

-- no mark, or bytes behind the end mark
end_failed : (bytes : List ℕ) (snapshots : List Snapshot) (n at : ℕ) (is_first : Bool) (fault : SnapFault) → n ≡ length snapshots → is_first ≡ (n == 0) → at + 8 ≤ length bytes
    → (IsMarkAt snapshot_mark bytes at → ⊥) → EndFails bytes at is_first fault → FailsAt bytes snapshots at fault
end_failed bytes snapshots n at is_first (Magic place) size is long none (e, inl first) = (e, long, none, inl (is_empty snapshots n is_first size is first))
end_failed bytes snapshots n at is_first (Magic place) size is long none (e, inr other) = (e, long, none, inr other)
end_failed bytes snapshots n at is_first (Trailing place) size is long none (e, later, mark, more) =
    let some = is_not_empty snapshots n is_first size is later in
    (e, (λ empty. absurd (let nothing = ap length empty in omega arith)), mark, more)
end_failed bytes snapshots n at is_first (Short place) size is long none fails = absurd fails
end_failed bytes snapshots n at is_first (Range place) size is long none fails = absurd fails
end_failed bytes snapshots n at is_first Memory size is long none fails = absurd fails

pub no_end : (bytes : List ℕ) (snapshots : List Snapshot) (n at least : ℕ) (is_first : Bool) (fault : SnapFault) → IsReadTo bytes snapshots at least → n ≡ length snapshots → is_first ≡ (n == 0)
    → at + 8 ≤ length bytes → (IsMarkAt snapshot_mark bytes at → ⊥) → EndFails bytes at is_first fault → (fault ≡ Memory) ⊎ IsStreamFault bytes fault
no_end bytes snapshots n at least is_first fault so_far size is long none fails =
    inr (read_fails bytes snapshots at least fault so_far (end_failed bytes snapshots n at is_first fault size is long none fails))

-- the end mark, and nothing behind it
pub ended : (bytes : List ℕ) (snapshots : List Snapshot) (n at least : ℕ) (is_first : Bool) → IsReadTo bytes snapshots at least → n ≡ length snapshots → is_first ≡ (n == 0)
    → Ends bytes at is_first → IsStreamOf bytes snapshots
ended bytes snapshots n at least is_first so_far size is ends =
    let left : length (drop at bytes) ≡ 8 = let rest = length-drop at bytes in let end = ends.end in omega arith in
    record {
      some = is_not_empty snapshots n is_first size is ends.later;
      in_order = so_far.in_order;
      spelled =
          sym (take-append-drop at bytes) ∙ ap (λ l. l ++ drop at bytes) so_far.spelled
          ∙ ap (λ l. flat_map spell snapshots ++ l) (sym (take_all 8 (drop at bytes) (omega arith)) ∙ ends.mark);
    }
