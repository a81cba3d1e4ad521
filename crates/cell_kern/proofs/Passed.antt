-- One member gives to the sums of others, one after the other.
use Rattle.std.proofs.Common.{◌≡◌, ◌≢◌, ℕ, ◌+◌, ◌*◌, ◌<◌, ◌≤◌, List, [], ◌∷◌, length, get_or, set, All, fold, length-set, inl, inr, refl, sym, ap, ◌∙◌, arith}
use Rattle.std.specs.List.{between}
use Rattle.std.proofs.lemmas.Bool.{cases_lt}
use Rattle.std.proofs.lemmas.List.{get_or-set_same, get_or-set_other, get_or_default}
use Rattle.std.proofs.lemmas.List.Edits.{between_none, between_more}
use Rattle.std.proofs.lemmas.List.Elements.{All-head, All-tail}
use Rattle.std.proofs.lemmas.List.Sums.{fold_push}
use Rattle.cell_kern.specs.declared.members.Member.{Member}
use Rattle.cell_kern.specs.inner.Gathered.{IsPassed, no_member}

-- nothing is changed before the first
pub passed_none : {X : Type 0} (given : Member → X → Member → X) (one : Member) (to : List Member) (from : ℕ) (sums : List X) → IsPassed given one to from from sums sums
passed_none given one to from sums = record {
  same_length = refl;
  passed = λ k d low high. absurd (omega arith);
  first = λ k d low. refl;
  last = λ k d high. refl;
}

-- one member more is given to
pub passed_more : {X : Type 0} (given : Member → X → Member → X) (one : Member) (to : List Member) (from upto : ℕ) (before sums after : List X) (d : X) (v : X) → from ≤ upto → upto < length before
    → IsPassed given one to from upto before sums → v ≡ given (get_or to upto no_member) (get_or before upto d) one → after ≡ set sums upto v → IsPassed given one to from (upto + 1) before after
passed_more given one to from upto before sums after d v low inside so_far is written =
    let same = so_far.same_length in
    let within : upto < length sums = omega arith in
    let other = λ (k : ℕ) (e : _) (ne : k ≢ upto). ap (λ xs. get_or xs k e) written ∙ get_or-set_other sums upto k v e ne in
    record {
      same_length = ap length written ∙ length-set sums upto v ∙ so_far.same_length;
      passed = λ k e from_low high. elim (cases_lt k upto) [
        | inl below ↦ other k e (omega arith) ∙ so_far.passed k e from_low below
        | inr above ↦
            let here : k ≡ upto = omega arith in
            rw here (ap (λ xs. get_or xs upto e) written ∙ get_or-set_same sums upto v e within ∙ is ∙ ap (λ x. given (get_or to upto no_member) x one) (get_or_default before upto d e inside))
      ];
      first = λ k e below. other k e (omega arith) ∙ so_far.first k e below;
      last = λ k e above. other k e (omega arith) ∙ so_far.last k e (omega arith);
    }

-- or is out of reach
pub passed_kept : {X : Type 0} (given : Member → X → Member → X) (one : Member) (to : List Member) (from upto : ℕ) (before sums : List X) (d : X) → from ≤ upto → upto < length before
    → IsPassed given one to from upto before sums → given (get_or to upto no_member) (get_or before upto d) one ≡ get_or before upto d → IsPassed given one to from (upto + 1) before sums
passed_kept given one to from upto before sums d low inside so_far none = record {
  same_length = so_far.same_length;
  passed = λ k e from_low high. elim (cases_lt k upto) [
    | inl below ↦ so_far.passed k e from_low below
    | inr above ↦
        let here : k ≡ upto = omega arith in
        let same = get_or_default before upto d e inside in
        rw here (so_far.last upto e (omega arith) ∙ sym same ∙ sym none ∙ ap (λ x. given (get_or to upto no_member) x one) same)
  ];
  first = so_far.first;
  last = λ k e above. so_far.last k e (omega arith);
}

-- or all are
pub passed_nothing : {X : Type 0} (given : Member → X → Member → X) (one : Member) (to : List Member) (from : ℕ) (sums : List X) (d : X)
    → ((k : ℕ) → k < length sums → given (get_or to k no_member) (get_or sums k d) one ≡ get_or sums k d) → IsPassed given one to from (length sums) sums sums
passed_nothing given one to from sums d none = record {
  same_length = refl;
  passed = λ k e from_low high.
      let same = get_or_default sums k d e high in
      sym same ∙ sym (none k high) ∙ ap (λ x. given (get_or to k no_member) x one) same;
  first = λ k e below. refl;
  last = λ k e above. refl;
}

-- what one member was given, from one more
pub given_more : {X : Type 0} (given : X → Member → X) (start : X) (from : List Member) (first upto : ℕ) (sum new : X) → first ≤ upto → upto < length from → sum ≡ fold given start (between first upto from) → new ≡ given sum (get_or from upto no_member)
    → new ≡ fold given start (between first (upto + 1) from)
given_more given start from first upto sum new low inside so_far is =
    is ∙ ap (λ x. given x (get_or from upto no_member)) so_far ∙ sym (fold_push given start (between first upto from) (get_or from upto no_member)) ∙ ap (fold given start) (sym (between_more from first upto no_member low inside))

pub given_none : {X : Type 0} (given : X → Member → X) (start : X) (from : List Member) (first : ℕ) → start ≡ fold given start (between first first from)
given_none given start from first = ap (fold given start) (sym (between_none from first))

-- from none that gives anything
pub fold_kept : {X : Type 0} (given : X → Member → X) (sum : X) (from : List Member) → All (λ m. given sum m ≡ sum) from → fold given sum from ≡ sum
fold_kept given sum [] all = refl
fold_kept given sum (m ∷ ms) all = ap (λ x. fold given x ms) (All-head (λ n. given sum n ≡ sum) m ms all) ∙ fold_kept given sum ms (All-tail (λ n. given sum n ≡ sum) m ms all)

-- a sum grows by no more than a bound for each
pub fold-le : {X : Type 0} (size : X → ℕ) (bound : ℕ) (P : Member → Type 0) (given : X → Member → X) → ((x : X) (from : Member) → P from → size (given x from) ≤ size x + bound) → (start : X) (from : List Member) → All P from → size (fold given start from) ≤ size start + length from * bound
fold-le size bound P given grows start [] all = omega arith
fold-le size bound P given grows start (m ∷ ms) all =
    omega (arith, grows start m (All-head P m ms all), fold-le size bound P given grows (given start m) ms (All-tail P m ms all))
