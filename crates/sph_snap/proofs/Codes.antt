-- Codes of which none begins another: what a list of them can be read as.
use Rattle.std.proofs.Common.{◌≡◌, ℕ, List, [], ◌∷◌, ◌++◌, length, refl, sym, ap₂, ◌∙◌, arith}
use Rattle.std.specs.List.{All, flat_map}
use Rattle.std.proofs.lemmas.List.{append_assoc}
use Rattle.std.proofs.lemmas.List.Elements.{All-head, All-tail}

-- of the values with P each code, with anything behind it, is that of one value
pub record IsCode {X : Type 0} (P : X → Type 0) (code : X → List ℕ) : Type 0 where
  pub same : (x y : X) (a b : List ℕ) → P x → P y → code x ++ a ≡ code y ++ b → (x ≡ y) × (a ≡ b)

-- two lists that begin with the same code
IsCode-cons : {X : Type 0} (P : X → Type 0) (code : X → List ℕ) → IsCode P code → (x y : X) (xs ys : List X) (a b : List ℕ)
    → P x → P y → flat_map code (x ∷ xs) ++ a ≡ flat_map code (y ∷ ys) ++ b → (x ≡ y) × (flat_map code xs ++ a ≡ flat_map code ys ++ b)
IsCode-cons P code is x y xs ys a b p q e =
    is.same x y (flat_map code xs ++ a) (flat_map code ys ++ b) p q
    (sym (append_assoc (code x) (flat_map code xs) a) ∙ e ∙ append_assoc (code y) (flat_map code ys) b)

-- lists of one length
pub IsCode-list : {X : Type 0} (P : X → Type 0) (code : X → List ℕ) → IsCode P code → (xs ys : List X) (a b : List ℕ)
    → All P xs → All P ys → length xs ≡ length ys → flat_map code xs ++ a ≡ flat_map code ys ++ b → (xs ≡ ys) × (a ≡ b)
IsCode-list P code is [] [] a b p q len e = (refl, e)
IsCode-list P code is [] (y ∷ ys) a b p q len e = absurd (omega arith)
IsCode-list P code is (x ∷ xs) [] a b p q len e = absurd (omega arith)
IsCode-list P code is (x ∷ xs) (y ∷ ys) a b p q len e =
    let first = IsCode-cons P code is x y xs ys a b (All-head P x xs p) (All-head P y ys q) e in
    let rest = IsCode-list P code is xs ys a b (All-tail P x xs p) (All-tail P y ys q) (omega arith) first.1 in
    let same_x = first.0 in
    let same_xs = rest.0 in
    (cc, rest.1)

-- how two lists of codes with the same bytes stand to each other: they are one, or one goes on where the other ends
pub data Compared {X : Type 0} (code : X → List ℕ) (xs ys : List X) (a b : List ℕ) : Type 0 where
  Same : xs ≡ ys → a ≡ b → Compared code xs ys a b
  FirstEnds : (y : X) (more : List X) → ys ≡ xs ++ y ∷ more → a ≡ flat_map code (y ∷ more) ++ b → Compared code xs ys a b
  SecondEnds : (x : X) (more : List X) → xs ≡ ys ++ x ∷ more → b ≡ flat_map code (x ∷ more) ++ a → Compared code xs ys a b

Compared-cons : {X : Type 0} (code : X → List ℕ) (x y : X) (xs ys : List X) (a b : List ℕ) → x ≡ y → Compared code xs ys a b → Compared code (x ∷ xs) (y ∷ ys) a b
Compared-cons code x y xs ys a b e (Same p q) = Same (cc) q
Compared-cons code x y xs ys a b e (FirstEnds z more p q) = FirstEnds z more (cc) q
Compared-cons code x y xs ys a b e (SecondEnds z more p q) = SecondEnds z more (cc) q

pub Compared-from_bytes : {X : Type 0} (P : X → Type 0) (code : X → List ℕ) → IsCode P code → (xs ys : List X) (a b : List ℕ)
    → All P xs → All P ys → flat_map code xs ++ a ≡ flat_map code ys ++ b → Compared code xs ys a b
Compared-from_bytes P code is [] [] a b p q e = Same refl e
Compared-from_bytes P code is [] (y ∷ ys) a b p q e = FirstEnds y ys refl e
Compared-from_bytes P code is (x ∷ xs) [] a b p q e = SecondEnds x xs refl (sym e)
Compared-from_bytes P code is (x ∷ xs) (y ∷ ys) a b p q e =
    let first = IsCode-cons P code is x y xs ys a b (All-head P x xs p) (All-head P y ys q) e in
    Compared-cons code x y xs ys a b first.0
    (Compared-from_bytes P code is xs ys a b (All-tail P x xs p) (All-tail P y ys q) first.1)

-- one code behind another
pub IsCode-both : {X Y : Type 0} (P : X → Type 0) (Q : Y → Type 0) (f : X → List ℕ) (g : Y → List ℕ) → IsCode P f → IsCode Q g
    → IsCode (λ (r : X × Y). P r.0 × Q r.1) (λ (r : X × Y). f r.0 ++ g r.1)
IsCode-both {X = X} {Y = Y} P Q f g first second = record { same = same }
  where
    same : (r s : X × Y) (a b : List ℕ) → P r.0 × Q r.1 → P s.0 × Q s.1 → (f r.0 ++ g r.1) ++ a ≡ (f s.0 ++ g s.1) ++ b → (r ≡ s) × (a ≡ b)
    same r s a b p q e =
        let one = first.same r.0 s.0 (g r.1 ++ a) (g s.1 ++ b) p.0 q.0 (sym (append_assoc (f r.0) (g r.1) a) ∙ e ∙ append_assoc (f s.0) (g s.1) b) in
        let two = second.same r.1 s.1 a b p.1 q.1 one.1 in
        (ap₂ (λ (x : X) (y : Y). (x, y)) one.0 two.0, two.1)
