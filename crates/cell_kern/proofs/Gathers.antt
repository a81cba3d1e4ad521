-- Members are given to by a list, one after the other: how far the loops have come.
use Rattle.std.proofs.Common.{◌≡◌, ◌≢◌, ℕ, ◌+◌, ◌<◌, ◌≤◌, List, [], ◌++◌, length, get_or, set, take, fold, length-set, inl, inr, refl, sym, ap, ◌∙◌, arith}
use Rattle.std.specs.List.{between}
use Rattle.std.proofs.lemmas.Bool.{cases_lt}
use Rattle.std.proofs.lemmas.List.{get_or-set_same, get_or-set_other, get_or_default, same_lists, take_rest, take-append-drop}
use Rattle.std.proofs.lemmas.List.Sums.{fold-append, fold_more}
use Rattle.std.proofs.lemmas.Simd.{length-zip2, get_or-zip2}
use Rattle.cell_kern.specs.declared.members.Member.{Member}
use Rattle.cell_kern.specs.inner.Gathered.{IsPassed, gathered, no_member}

-- the first members were given to by the whole list, the others by a part of it
pub record AreGiven {X : Type 0} (given : Member → X → Member → X) (to whole part : List Member) (upto : ℕ) (before after : List X) : Type 0 where
  pub same_length : length after ≡ length before
  pub done : (k : ℕ) (d : X) → k < upto → k < length before → get_or after k d ≡ fold (given (get_or to k no_member)) (get_or before k d) whole
  pub rest : (k : ℕ) (d : X) → upto ≤ k → k < length before → get_or after k d ≡ fold (given (get_or to k no_member)) (get_or before k d) part

-- nothing was given yet
pub given_none : {X : Type 0} (given : Member → X → Member → X) (to whole : List Member) (sums : List X) → AreGiven given to whole [] 0 sums sums
given_none given to whole sums = record {
  same_length = refl;
  done = λ k d low inside. absurd (omega arith);
  rest = λ k d high inside. refl;
}

-- all was given
pub given_all : {X : Type 0} (given : Member → X → Member → X) (to whole part : List Member) (upto : ℕ) (before after : List X) → length before ≡ length to → length to ≤ upto → AreGiven given to whole part upto before after → after ≡ gathered given to whole before
given_all given to whole part upto before after same high are =
    let f = λ (member : Member) (sum : _). fold (given member) sum whole in
    same_lists after (gathered given to whole before) (are.same_length ∙ same ∙ sym (length-zip2 f to before (sym same)))
    (λ k d inside. let low : k < length before = omega (arith, are.same_length) in
    are.done k d (omega (arith, are.same_length)) low ∙ sym (get_or-zip2 f to before k no_member d d (omega arith) low))

-- the part became the whole
pub given_part : {X : Type 0} (given : Member → X → Member → X) (to whole part : List Member) (before after : List X) → length before ≡ length to → part ≡ whole → AreGiven given to whole part 0 before after → after ≡ gathered given to whole before
given_part given to whole part before after same is are =
    let f = λ (member : Member) (sum : _). fold (given member) sum whole in
    same_lists after (gathered given to whole before) (are.same_length ∙ same ∙ sym (length-zip2 f to before (sym same)))
    (λ k d inside. let low : k < length before = omega (arith, are.same_length) in
    are.rest k d (omega arith) low ∙ ap (fold (given (get_or to k no_member)) (get_or before k d)) is ∙ sym (get_or-zip2 f to before k no_member d d (omega arith) low))

-- the next member was given to by the whole list
pub given_next : {X : Type 0} (given : Member → X → Member → X) (to whole : List Member) (i : ℕ) (before sums after : List X) (d v : X) → i < length before → AreGiven given to whole [] i before sums
    → v ≡ fold (given (get_or to i no_member)) (get_or sums i d) whole → after ≡ set sums i v → AreGiven given to whole [] (i + 1) before after
given_next given to whole i before sums after d v inside so_far is written =
    let within : i < length sums = omega (arith, so_far.same_length) in
    let other = λ (k : ℕ) (e : _) (ne : k ≢ i). ap (λ xs. get_or xs k e) written ∙ get_or-set_other sums i k v e ne in
    record {
      same_length = ap length written ∙ length-set sums i v ∙ so_far.same_length;
      done = λ k e low here. elim (cases_lt k i) [
        | inl below ↦ other k e (omega arith) ∙ so_far.done k e below here
        | inr above ↦
            let at : k ≡ i = omega arith in
            rw at (ap (λ xs. get_or xs i e) written ∙ get_or-set_same sums i v e within ∙ is
            ∙ ap (λ x. fold (given (get_or to i no_member)) x whole) (get_or_default sums i d e within ∙ so_far.rest i e (omega arith) inside))
      ];
      rest = λ k e high here. other k e (omega arith) ∙ so_far.rest k e (omega arith) here;
    }

-- each member was given to by one more of the list
pub given_by_next : {X : Type 0} (given : Member → X → Member → X) (to whole : List Member) (i : ℕ) (before sums after : List X) → i < length whole → AreGiven given to whole (take i whole) 0 before sums
    → IsPassed given (get_or whole i no_member) to 0 (length sums) sums after → AreGiven given to whole (take (i + 1) whole) 0 before after
given_by_next given to whole i before sums after inside so_far passed = record {
  same_length = passed.same_length ∙ so_far.same_length;
  done = λ k d low here. absurd (omega arith);
  rest = λ k d high here.
      let one = get_or whole i no_member in
      passed.passed k d (omega arith) (omega (arith, so_far.same_length)) ∙ ap (λ x. given (get_or to k no_member) x one) (so_far.rest k d high here)
      ∙ sym (fold_more (given (get_or to k no_member)) (get_or before k d) whole i no_member inside);
}

-- a list round one of its members
split_at : (ms : List Member) (i : ℕ) → i < length ms → take (i + 1) ms ++ between (i + 1) (length ms) ms ≡ ms
split_at ms i inside = ap (λ xs. take (i + 1) ms ++ xs) (take_rest ms (i + 1)) ∙ take-append-drop (i + 1) ms

-- one list's members are given to by one another: the next was given to by itself and those behind it, which it gave to
pub given_within : {X : Type 0} (given : Member → X → Member → X) (ms : List Member) (i : ℕ) (before sums mid after : List X) (d own v : X) → length before ≡ length ms → i < length ms → AreGiven given ms ms (take i ms) i before sums
    → own ≡ given (get_or ms i no_member) (get_or sums i d) (get_or ms i no_member) → v ≡ fold (given (get_or ms i no_member)) own (between (i + 1) (length sums) ms)
    → IsPassed given (get_or ms i no_member) ms (i + 1) (length sums) sums mid → after ≡ set mid i v → AreGiven given ms ms (take (i + 1) ms) (i + 1) before after
given_within given ms i before sums mid after d own v same inside so_far own_is is passed written =
    let one = get_or ms i no_member in
    let of = fold (given one) in
    let long : length sums ≡ length ms = so_far.same_length ∙ same in
    let here : i < length before = omega arith in
    let within : i < length sums = omega (arith, so_far.same_length) in
    let in_mid : i < length mid = omega (arith, passed.same_length) in
    let other = λ (k : ℕ) (e : _) (ne : k ≢ i). ap (λ xs. get_or xs k e) written ∙ get_or-set_other mid i k v e ne in
    record {
      same_length = ap length written ∙ length-set mid i v ∙ passed.same_length ∙ so_far.same_length;
      done = λ k e low known. elim (cases_lt k i) [
        | inl below ↦ other k e (omega arith) ∙ passed.first k e (omega arith) ∙ so_far.done k e below known
        | inr above ↦
            let at : k ≡ i = omega arith in
            let start : own ≡ of (get_or before i e) (take (i + 1) ms) =
            own_is ∙ ap (λ x. given one x one) (get_or_default sums i d e within ∙ so_far.rest i e (omega arith) here)
            ∙ sym (fold_more (given one) (get_or before i e) ms i no_member inside) in
            rw at (ap (λ xs. get_or xs i e) written ∙ get_or-set_same mid i v e in_mid ∙ is ∙ ap (λ n. of own (between (i + 1) n ms)) long ∙ ap (λ x. of x (between (i + 1) (length ms) ms)) start
            ∙ sym (fold-append (given one) (get_or before i e) (take (i + 1) ms) (between (i + 1) (length ms) ms)) ∙ ap (of (get_or before i e)) (split_at ms i inside))
      ];
      rest = λ k e high known.
          other k e (omega arith) ∙ passed.passed k e high (omega (arith, so_far.same_length)) ∙ ap (λ x. given (get_or ms k no_member) x one) (so_far.rest k e (omega arith) known)
          ∙ sym (fold_more (given (get_or ms k no_member)) (get_or before k e) ms i no_member inside);
    }
