-- What marking a task adds to the tasks that three marks say are done.
use Rattle.std.proofs.Common.{◌≡◌, ◌⊎◌, ◌↔◌, ℕ, Bool, true, false, [], ◌∷◌, ◌++◌, Contains, sym, inl, inr, arith}
use Rattle.lists.proofs.Elements.{Contains-append, Contains-nil, only}
use Rattle.qs_family.specs.Family.{done_by, where_set}

-- the one mark or the other or the third
in_marks : (a b c : Bool) (t : ℕ) → Contains (done_by a b c) t ↔ ((Contains (where_set a 0) t ⊎ Contains (where_set b 1) t) ⊎ Contains (where_set c 2) t)
in_marks a b c t =
    let all = Contains-append (where_set a 0 ++ where_set b 1) (where_set c 2) t in
    let two = Contains-append (where_set a 0) (where_set b 1) t in (
      λ h. elim (all.0 h) [ inl g ↦ inl (two.0 g) | inr g ↦ inr g ],
      λ s. all.1 (elim s [ inl g ↦ inl (two.1 g) | inr g ↦ inr g ]),
    )

in_set : (b : Bool) (task t : ℕ) → Contains (where_set true task) t ↔ (Contains (where_set b task) t ⊎ (t ≡ task))
in_set b task t = (λ h. inr (sym (only task t h)), λ s. elim s [ inl h ↦ was b h | inr e ↦ (0, omega arith, sym e) ])
  where
    was : (b : Bool) → Contains (where_set b task) t → Contains (task ∷ []) t
    was true h = h
    was false h = absurd (Contains-nil t h)

-- what one part of a sum gains, the sum gains
gains_left : {P Q R E : Type 0} → P ↔ (Q ⊎ E) → (P ⊎ R) ↔ ((Q ⊎ R) ⊎ E)
gains_left f = (
  λ s. elim s [ inl p ↦ elim (f.0 p) [ inl q ↦ inl (inl q) | inr e ↦ inr e ] | inr r ↦ inl (inr r) ],
  λ s. elim s [ inl q ↦ elim q [ inl q ↦ inl (f.1 (inl q)) | inr r ↦ inr r ] | inr e ↦ inl (f.1 (inr e)) ],
)

gains_right : {P Q R E : Type 0} → P ↔ (Q ⊎ E) → (R ⊎ P) ↔ ((R ⊎ Q) ⊎ E)
gains_right f = (
  λ s. elim s [ inl r ↦ inl (inl r) | inr p ↦ elim (f.0 p) [ inl q ↦ inl (inr q) | inr e ↦ inr e ] ],
  λ s. elim s [ inl q ↦ elim q [ inl r ↦ inl r | inr q ↦ inr (f.1 (inl q)) ] | inr e ↦ inr (f.1 (inr e)) ],
)

through : {X Y S T E : Type 0} → X ↔ S → Y ↔ T → S ↔ (T ⊎ E) → X ↔ (Y ⊎ E)
through f g h = (
  λ x. elim (h.0 (f.0 x)) [ inl t ↦ inl (g.1 t) | inr e ↦ inr e ],
  λ s. f.1 (elim s [ inl y ↦ h.1 (inl (g.0 y)) | inr e ↦ h.1 (inr e) ]),
)

pub marked_0 : (a b c : Bool) (task : ℕ) → task ≡ 0 → (t : ℕ) → Contains (done_by true b c) t ↔ (Contains (done_by a b c) t ⊎ (t ≡ task))
marked_0 a b c task e t = rw e (through (in_marks true b c t) (in_marks a b c t) (gains_left (gains_left (in_set a 0 t))))

pub marked_1 : (a b c : Bool) (task : ℕ) → task ≡ 1 → (t : ℕ) → Contains (done_by a true c) t ↔ (Contains (done_by a b c) t ⊎ (t ≡ task))
marked_1 a b c task e t = rw e (through (in_marks a true c t) (in_marks a b c t) (gains_left (gains_right (in_set b 1 t))))
