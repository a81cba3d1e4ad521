-- Streams can be told apart: two readings of the same bytes agree, in their snapshots and in their first fault.
use Rattle.std.proofs.Common.{◌≡◌, ◌≢◌, ℕ, suc, ◌+◌, ◌-◌, ◌<◌, ◌≤◌, Some, None, List, [], ◌∷◌, ◌++◌, length, get_or, take, drop, refl, sym, ap, ◌∙◌, subst, inl, inr, ◌⊎◌, arith, map}
use Rattle.std.specs.List.{All, flat_map}
use Rattle.std.specs.List.Sorted.{IsStrictlyIncreasing}
use Rattle.std.proofs.lemmas.List.{append-nil, append_assoc, append_cancel_left, take_at, length-drop, length-take}
use Rattle.std.proofs.lemmas.List.Elements.{All-head, All-tail}
use Rattle.std.proofs.lemmas.List.Prefix.{front_rest}
use Rattle.sph_snap.specs.declared.fault.SnapFault.{SnapFault}
use Rattle.sph_snap.specs.declared.fault.SnapFault.TheVariants.{Magic, Short, Range, Trailing, Memory}
use Rattle.sph_snap.specs.declared.snapshot.Snapshot.{Snapshot}
use Rattle.sph_snap.specs.Laws.{JustOneFault, NoneBeginsAnother, StreamsHaveNoFault}
use Rattle.sph_snap.specs.Reads.{FailsAt, IsFieldsFault, IsMarkAt, IsStreamFault, least_tick}
use Rattle.sph_snap.specs.Snapshot.{AreInOrder, IsSnapshot, end_mark, snapshot_mark, spell}
use Rattle.sph_snap.proofs.Codes.{Compared, Same, FirstEnds, SecondEnds, Compared-from_bytes}
use Rattle.sph_snap.proofs.NoFault.{mark_at, snapshot_fields-none}
use Rattle.sph_snap.proofs.Pieces.{IsAt}
use Rattle.sph_snap.proofs.Spelled.{IsCode-snapshot}

-- ---- snapshots in order

-- numbers that rise still do without the first
pub rising_tail : (x : ℕ) (xs : List ℕ) → IsStrictlyIncreasing (x ∷ xs) → IsStrictlyIncreasing xs
rising_tail x xs rising k h =
    let next : suc k + 1 ≡ suc (k + 1) = omega arith in
    rw next at (rising (suc k) (omega arith))

-- a snapshot behind others has at least their least tick
least_tick-le : (before : List Snapshot) (s : Snapshot) (more : List Snapshot)
    → IsStrictlyIncreasing (map (λ (r : Snapshot). r.tick) (before ++ s ∷ more)) → least_tick before ≤ s.tick
least_tick-le [] s more rising = omega arith
least_tick-le (r ∷ []) s more rising = rising 0 (omega arith)
least_tick-le (r ∷ q ∷ rest) s more rising = least_tick-le (q ∷ rest) s more (rising_tail r.tick (map (λ (u : Snapshot). u.tick) (q ∷ rest ++ s ∷ more)) rising)

-- an element behind others
All-middle : {X : Type 0} (P : X → Type 0) (xs : List X) (y : X) (more : List X) → All P (xs ++ y ∷ more) → P y
All-middle P [] y more all = All-head P y more all
All-middle P (x ∷ xs) y more all = All-middle P xs y more (All-tail P x (xs ++ y ∷ more) all)

-- the snapshot that follows others which are in order with it
record Follows (before : List Snapshot) (s : Snapshot) : Type 0 where
  ranges : IsSnapshot s
  tick : least_tick before ≤ s.tick

Follows-from_order : (before : List Snapshot) (s : Snapshot) (more all : List Snapshot) → all ≡ before ++ s ∷ more → AreInOrder all → Follows before s
Follows-from_order before s more all e order =
    let same : AreInOrder (before ++ s ∷ more) = subst AreInOrder e order in
    record { ranges = All-middle IsSnapshot before s more same.each; tick = least_tick-le before s more same.rising }

-- ---- marks

marks_differ : snapshot_mark ≡ end_mark → ⊥
marks_differ e = let letter = ap (λ (l : List ℕ). get_or l 5 0) e in let differ : get_or snapshot_mark 5 0 ≡ get_or end_mark 5 0 → ⊥ = λ h. omega arith in differ letter

-- no snapshot begins with the end mark
end_is_no_snapshot : (s : Snapshot) (a b : List ℕ) → end_mark ++ a ≡ spell s ++ b → ⊥
end_is_no_snapshot s a b e =
    let stands : IsAt (spell s) (end_mark ++ a) 0 = record { after = b; is = e } in
    marks_differ (sym (mark_at s (end_mark ++ a) 0 stands) ∙ take_at end_mark a 8 refl)

-- a mark lies within the bytes
mark-le : (mark bytes : List ℕ) (at : ℕ) → length mark ≡ 8 → IsMarkAt mark bytes at → at + 8 ≤ length bytes
mark-le mark bytes at long is =
    let size : length mark ≡ length (take 8 (drop at bytes)) = sym (ap length is) in
    let left = length-drop at bytes in
    let taken = length-take 8 (drop at bytes) in
    omega arith

-- ---- one fault

-- why bytes fail at an offset, one cause for each kind of place
data Cause (bytes : List ℕ) (before : List Snapshot) (at : ℕ) (fault : SnapFault) : Type 0 where
  NoMark : at + 8 ≤ length bytes → take 8 (drop at bytes) ≢ snapshot_mark → (before ≡ []) ⊎ (take 8 (drop at bytes) ≢ end_mark) → fault ≡ Magic at → Cause bytes before at fault
  CutMark : length bytes < at + 8 → fault ≡ Short at → Cause bytes before at fault
  InFields : IsFieldsFault bytes before at fault → Cause bytes before at fault
  Behind : before ≢ [] → IsMarkAt end_mark bytes at → at + 8 < length bytes → fault ≡ Trailing (at + 8) → Cause bytes before at fault

cause_of : (bytes : List ℕ) (before : List Snapshot) (at : ℕ) (fault : SnapFault) → FailsAt bytes before at fault → Cause bytes before at fault
cause_of bytes before at (Magic place) f = NoMark f.1 f.2 f.3 (ap Magic f.0)
cause_of bytes before at (Short place) (inl f) = CutMark f.1 (ap Short f.0)
cause_of bytes before at (Short place) (inr f) = InFields f
cause_of bytes before at (Range place) f = InFields f
cause_of bytes before at (Trailing place) f = Behind f.1 f.2 f.3 (ap Trailing f.0)
cause_of bytes before at Memory f = absurd f

module _ (bytes : List ℕ) (before : List Snapshot) (at : ℕ) where
  -- of two causes that exclude each other
  unmarked_fields : (f : SnapFault) → take 8 (drop at bytes) ≢ snapshot_mark → IsFieldsFault bytes before at f → ⊥
  unmarked_fields f none is = none is.mark

  cut_fields : (f : SnapFault) → length bytes < at + 8 → IsFieldsFault bytes before at f → ⊥
  cut_fields f short is = let long = mark-le snapshot_mark bytes at refl is.mark in omega arith

  end_fields : (f : SnapFault) → IsMarkAt end_mark bytes at → IsFieldsFault bytes before at f → ⊥
  end_fields f ends is = marks_differ (sym is.mark ∙ ends)

  unmarked_end : (before ≡ []) ⊎ (take 8 (drop at bytes) ≢ end_mark) → before ≢ [] → IsMarkAt end_mark bytes at → ⊥
  unmarked_end (inl none) some ends = some none
  unmarked_end (inr no_end) some ends = no_end ends

  one_cause : (f g : SnapFault) → Cause bytes before at f → Cause bytes before at g → f ≡ g
  one_cause f g (NoMark l n e p) (NoMark l' n' e' q) = p ∙ sym q
  one_cause f g (NoMark l n e p) (CutMark s q) = absurd (omega arith)
  one_cause f g (NoMark l n e p) (InFields w) = absurd (unmarked_fields g n w)
  one_cause f g (NoMark l n e p) (Behind some ends m q) = absurd (unmarked_end e some ends)
  one_cause f g (CutMark s p) (NoMark l n e q) = absurd (omega arith)
  one_cause f g (CutMark s p) (CutMark s' q) = p ∙ sym q
  one_cause f g (CutMark s p) (InFields w) = absurd (cut_fields g s w)
  one_cause f g (CutMark s p) (Behind some ends m q) = absurd (omega arith)
  one_cause f g (InFields v) (NoMark l n e q) = absurd (unmarked_fields f n v)
  one_cause f g (InFields v) (CutMark s q) = absurd (cut_fields f s v)
  one_cause f g (InFields v) (InFields w) = let both = sym v.first ∙ w.first in cc
  one_cause f g (InFields v) (Behind some ends m q) = absurd (end_fields f ends v)
  one_cause f g (Behind some ends m p) (NoMark l n e q) = absurd (unmarked_end e some ends)
  one_cause f g (Behind some ends m p) (CutMark s q) = absurd (omega arith)
  one_cause f g (Behind some ends m p) (InFields w) = absurd (end_fields g ends w)
  one_cause f g (Behind some ends m p) (Behind some' ends' m' q) = p ∙ sym q

  -- where a snapshot follows, nothing fails
  snapshot_stands : (s : Snapshot) (f : SnapFault) → Follows before s → IsAt (spell s) bytes at → Cause bytes before at f → ⊥
  snapshot_stands s f follows is (NoMark l n e p) = n (mark_at s bytes at is)
  snapshot_stands s f follows is (CutMark short p) = let long = mark-le snapshot_mark bytes at refl (mark_at s bytes at is) in omega arith
  snapshot_stands s f follows is (InFields w) =
      let none = snapshot_fields-none s bytes (least_tick before) at follows.ranges follows.tick is in
      let both : None ≡ Some f = sym none ∙ w.first in
      cc
  snapshot_stands s f follows is (Behind some ends m p) = marks_differ (sym (mark_at s bytes at is) ∙ ends)

  -- where the end mark is the last of the bytes, behind a snapshot or more, nothing fails
  end_stands : (f : SnapFault) → before ≢ [] → drop at bytes ≡ end_mark → Cause bytes before at f → ⊥
  end_stands f some is (NoMark l n e p) = unmarked_end e some (ap (take 8) is)
  end_stands f some is (CutMark short p) = let long = mark-le end_mark bytes at refl (ap (take 8) is) in omega arith
  end_stands f some is (InFields w) = end_fields f (ap (take 8) is) w
  end_stands f some is (Behind some' ends m p) =
      let left : length bytes - at ≡ 8 = sym (length-drop at bytes) ∙ ap length is in
      omega arith

-- ---- two readings of the same bytes

compared : (before others : List Snapshot) (a b : List ℕ) → AreInOrder before → AreInOrder others → flat_map spell before ++ a ≡ flat_map spell others ++ b → Compared spell before others a b
compared before others a b p q e = Compared-from_bytes IsSnapshot spell IsCode-snapshot before others a b p.each q.each e

-- the bytes fail behind the snapshots before
at_end : (bytes : List ℕ) (fault : SnapFault) (is : IsStreamFault bytes fault) → Cause bytes is.before (length (flat_map spell is.before)) fault
at_end bytes fault is = cause_of bytes is.before (length (flat_map spell is.before)) fault is.fails

-- they don't fail where a snapshot goes on
goes_on : (bytes : List ℕ) (fault : SnapFault) (is : IsStreamFault bytes fault) (s : Snapshot) (more all : List Snapshot) (b : List ℕ)
    → AreInOrder all → all ≡ is.before ++ s ∷ more → is.rest ≡ flat_map spell (s ∷ more) ++ b → ⊥
goes_on bytes fault is s more all b order e rest =
    let at = length (flat_map spell is.before) in
    let stands : IsAt (spell s) bytes at = record { after = flat_map spell more ++ b; is = front_rest bytes (flat_map spell is.before) is.rest is.spelled ∙ rest ∙ append_assoc (spell s) (flat_map spell more) b } in
    snapshot_stands bytes is.before at s fault (Follows-from_order is.before s more all e order) stands (at_end bytes fault is)

pub none_begins_another : NoneBeginsAnother
none_begins_another bytes rest snapshots others p q = cases (compared snapshots others (end_mark ++ rest) end_mark p.in_order q.in_order same)
  where
    same : flat_map spell snapshots ++ (end_mark ++ rest) ≡ flat_map spell others ++ end_mark
    same = sym (append_assoc (flat_map spell snapshots) end_mark rest) ∙ ap (λ l. l ++ rest) (sym p.spelled) ∙ q.spelled

    cases : Compared spell snapshots others (end_mark ++ rest) end_mark → (bytes ≡ bytes ++ rest) × (snapshots ≡ others)
    cases (Same e f) =
        let none : rest ≡ [] = append_cancel_left end_mark rest [] f in
        (sym (append-nil bytes) ∙ ap (λ l. bytes ++ l) (sym none), e)
    cases (FirstEnds y more e f) = absurd (end_is_no_snapshot y rest (flat_map spell more ++ end_mark) (f ∙ append_assoc (spell y) (flat_map spell more) end_mark))
    cases (SecondEnds x more e f) = absurd (end_is_no_snapshot x [] (flat_map spell more ++ (end_mark ++ rest)) (f ∙ append_assoc (spell x) (flat_map spell more) (end_mark ++ rest)))

pub streams_have_no_fault : StreamsHaveNoFault
streams_have_no_fault bytes snapshots fault p q = cases (compared snapshots q.before end_mark q.rest p.in_order q.in_order (sym p.spelled ∙ q.spelled))
  where
    cases : Compared spell snapshots q.before end_mark q.rest → ⊥
    cases (Same e f) =
        let some : q.before ≢ [] = λ none. let size : length snapshots ≡ 0 = ap length (e ∙ none) in let low = p.some in omega arith in
        end_stands bytes q.before (length (flat_map spell q.before)) fault some
        (front_rest bytes (flat_map spell q.before) q.rest q.spelled ∙ sym f) (at_end bytes fault q)
    cases (FirstEnds y more e f) = end_is_no_snapshot y [] (flat_map spell more ++ q.rest) (f ∙ append_assoc (spell y) (flat_map spell more) q.rest)
    cases (SecondEnds x more e f) = goes_on bytes fault q x more snapshots end_mark p.in_order e f

pub just_one_fault : JustOneFault
just_one_fault bytes fault other p q = cases (compared p.before q.before p.rest q.rest p.in_order q.in_order (sym p.spelled ∙ q.spelled))
  where
    cases : Compared spell p.before q.before p.rest q.rest → fault ≡ other
    cases (Same e f) =
        let moved : Cause bytes p.before (length (flat_map spell p.before)) other =
        subst (λ (l : List Snapshot). Cause bytes l (length (flat_map spell l)) other) (sym e) (at_end bytes other q) in
        one_cause bytes p.before (length (flat_map spell p.before)) fault other (at_end bytes fault p) moved
    cases (FirstEnds y more e f) = absurd (goes_on bytes fault p y more q.before q.rest q.in_order e f)
    cases (SecondEnds x more e f) = absurd (goes_on bytes other q x more p.before p.rest p.in_order e f)
