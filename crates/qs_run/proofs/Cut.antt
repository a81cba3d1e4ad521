-- Parts of a list that is cut in two: where they stand in it, and what stays beside them.
use Rattle.std.proofs.Common.{◌≡◌, ℕ, ◌+◌, ◌-◌, ◌<◌, ◌≤◌, List, ◌++◌, length, get_or, take, drop, refl, sym, ap, inl, inr, ◌∙◌, subst, arith, length-append, length-take, length-drop}
use Rattle.std.specs.List.{between}
use Rattle.std.proofs.lemmas.Bool.{cases_lt}
use Rattle.std.proofs.lemmas.List.{take_at, get_or-take, get_or-drop, get_or_append_left, get_or-append_right}
use Rattle.std.proofs.lemmas.List.Edits.{get_or-between, length-between}
use Rattle.std.proofs.lemmas.Slice.{between-put_mid}
use borrow.Rule.Slice.PartMut.{put_mid}

-- the part is what stands in the whole from one place up to another
pub record IsPart {B : Type 0} (from to : ℕ) (part whole : List B) : Type 0 where
  pub long : length part ≡ to - from
  pub at : (k : ℕ) (d : B) → k < to - from → get_or part k d ≡ get_or whole (from + k) d

-- a list is as long as before, and the same outside two ranges
pub record IsKept {B : Type 0} (from to from' to' : ℕ) (before after : List B) : Type 0 where
  pub same_length : length after ≡ length before
  pub outside : (k : ℕ) (d : B) → (from ≤ k → k < to → ⊥) → (from' ≤ k → k < to' → ⊥) → get_or after k d ≡ get_or before k d

-- a list cut in two, with a range in the first piece and one at the front of the second
pub record IsCut {B : Type 0} (from to mid end : ℕ) (low high whole : List B) : Type 0 where
  pub rises : from ≤ to
  pub before : to ≤ mid
  pub rises' : mid ≤ end
  pub within : end ≤ length whole
  pub joined : whole ≡ low ++ high
  pub cut_at : length low ≡ mid

-- the parts in these ranges
pub part_of_first : {B : Type 0} (from to mid end : ℕ) (low high whole : List B) → IsCut from to mid end low high whole → IsPart from to (between from to low) whole
part_of_first from to mid end low high whole cut = record {
  long = length-between low from to (let b = cut.before in let n = cut.cut_at in omega arith);
  at = λ k d h.
      let b = cut.before in
      let n = cut.cut_at in
      get_or-between low from to k d (omega arith) ∙ sym (get_or_append_left low high d (from + k) (omega arith)) ∙ ap (λ xs. get_or xs (from + k) d) (sym cut.joined);
}

pub part_of_second : {B : Type 0} (from to mid end : ℕ) (low high whole : List B) → IsCut from to mid end low high whole → IsPart mid end (take (end - mid) high) whole
part_of_second from to mid end low high whole cut =
    let sum = ap length cut.joined ∙ length-append low high in
    let n = cut.cut_at in
    let w = cut.within in record {
      long = length-take (end - mid) high ∙ (let few : end - mid ≤ length high = omega arith in omega arith);
      at = λ k d h.
          get_or-take (end - mid) high k d h ∙ sym (get_or-append_right low high mid (mid + k) d n (omega arith) ∙ ap (λ x. get_or high x d) (let e : mid + k - mid ≡ k = omega arith in e))
          ∙ ap (λ xs. get_or xs (mid + k) d) (sym cut.joined);
    }

-- outside of a part that was written nothing changed
length_written : {B : Type 0} (from n : ℕ) (before part : List B) → from + n ≤ length before → length part ≡ n → length (put_mid from n before part) ≡ length before
length_written from n before part l e = simp (length-append, length-take, length-drop) (omega arith)

outside_written : {B : Type 0} (from n : ℕ) (before part : List B) (k : ℕ) (d : B) → from + n ≤ length before → length part ≡ n → (from ≤ k → k < from + n → ⊥) → get_or (put_mid from n before part) k d ≡ get_or before k d
outside_written from n before part k d l e out =
    let front = length-take from before in
    let rest = part ++ drop n (drop from before) in
    elim (cases_lt k from) [
      | inl below ↦ get_or_append_left (take from before) rest d k (omega arith) ∙ get_or-take from before k d below
      | inr above ↦
          let past : from + n ≤ k = elim (cases_lt k (from + n)) [ inl h ↦ absurd (out above h) | inr h ↦ h ] in
          get_or-append_right (take from before) rest from k d (omega arith) above ∙ get_or-append_right part (drop n (drop from before)) n (k - from) d e (omega arith)
          ∙ get_or-drop n (drop from before) (k - from - n) d ∙ get_or-drop from before (n + (k - from - n)) d
          ∙ ap (λ x. get_or before x d) (let at : from + (n + (k - from - n)) ≡ k = omega arith in at)
    ]

-- the list with both parts written: it is cut at the same place, and has what was written in the ranges
pub written_cut : {B : Type 0} (from to mid end : ℕ) (low high p q whole : List B) → IsCut from to mid end low high whole → length p ≡ to - from → length q ≡ end - mid
    → IsCut from to mid end (put_mid from (to - from) low p) (put_mid 0 (end - mid) high q) (put_mid from (to - from) low p ++ put_mid 0 (end - mid) high q)
written_cut from to mid end low high p q whole cut lp lq =
    let sum = ap length cut.joined ∙ length-append low high in
    let sum' = length-append (put_mid from (to - from) low p) (put_mid 0 (end - mid) high q) in
    let w = cut.within in
    let r = cut.rises in
    let r' = cut.rises' in
    let b = cut.before in
    let n = cut.cut_at in
    let keeps = length_written from (to - from) low p (omega arith) lp in
    let keeps' = length_written 0 (end - mid) high q (omega arith) lq in record { rises = r; before = b; rises' = r'; within = omega arith; joined = refl; cut_at = omega arith }

pub first_written : {B : Type 0} (from to mid end : ℕ) (low high p q whole : List B) → IsCut from to mid end low high whole → length p ≡ to - from → length q ≡ end - mid
    → IsPart from to p (put_mid from (to - from) low p ++ put_mid 0 (end - mid) high q)
first_written from to mid end low high p q whole cut lp lq =
    subst (λ x. IsPart from to x (put_mid from (to - from) low p ++ put_mid 0 (end - mid) high q))
    (between-put_mid from (to - from) low p to (let r = cut.rises in let b = cut.before in let n = cut.cut_at in omega arith) lp)
    (part_of_first from to mid end _ _ _ (written_cut from to mid end low high p q whole cut lp lq))

pub second_written : {B : Type 0} (from to mid end : ℕ) (low high p q whole : List B) → IsCut from to mid end low high whole → length p ≡ to - from → length q ≡ end - mid
    → IsPart mid end q (put_mid from (to - from) low p ++ put_mid 0 (end - mid) high q)
second_written from to mid end low high p q whole cut lp lq =
    subst (λ x. IsPart mid end x (put_mid from (to - from) low p ++ put_mid 0 (end - mid) high q)) (take_at q (drop (end - mid) high) (end - mid) lq)
    (part_of_second from to mid end _ _ _ (written_cut from to mid end low high p q whole cut lp lq))

-- and the rest as before
pub kept_by_cut : {B : Type 0} (from to mid end : ℕ) (low high p q whole : List B) → IsCut from to mid end low high whole → length p ≡ to - from → length q ≡ end - mid
    → IsKept from to mid end whole (put_mid from (to - from) low p ++ put_mid 0 (end - mid) high q)
kept_by_cut from to mid end low high p q whole cut lp lq =
    let low' = put_mid from (to - from) low p in
    let high' = put_mid 0 (end - mid) high q in
    let sum = ap length cut.joined ∙ length-append low high in
    let sum' = length-append low' high' in
    let w = cut.within in
    let r = cut.rises in
    let r' = cut.rises' in
    let b = cut.before in
    let l = cut.cut_at in
    let keeps = length_written from (to - from) low p (omega arith) lp in
    let keeps' = length_written 0 (end - mid) high q (omega arith) lq in record {
      same_length = omega arith;
      outside = λ k d out out'. elim (cases_lt k mid) [
        | inl below ↦
            get_or_append_left low' high' d k (omega arith) ∙ outside_written from (to - from) low p k d (omega arith) lp (λ h h'. out h (omega arith)) ∙ sym (get_or_append_left low high d k (omega arith))
            ∙ ap (λ xs. get_or xs k d) (sym cut.joined)
        | inr above ↦
            get_or-append_right low' high' mid k d (omega arith) above ∙ outside_written 0 (end - mid) high q (k - mid) d (omega arith) lq (λ h h'. out' above (omega arith))
            ∙ sym (get_or-append_right low high mid k d l above) ∙ ap (λ xs. get_or xs k d) (sym cut.joined)
      ];
    }
