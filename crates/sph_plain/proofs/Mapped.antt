-- A list that is written over in place from its start, by a value of each element of another.
use Rattle.std.proofs.Common.{◌≡◌, ℕ, zero, suc, ◌+◌, ◌<◌, ◌≤◌, List, [], ◌∷◌, ◌++◌, length, map, take, drop, get_or, set, refl, ap, ◌∙◌, arith}

-- the first i are written, the others as they were
abbrev pub written : {X Y : Type 0} → (X → Y) → List X → List Y → ℕ → List Y
written f xs olds i = map f (take i xs) ++ drop i olds

-- the next is as it was
written_read : {X Y : Type 0} (f : X → Y) (xs : List X) (olds : List Y) (i : ℕ) (e : Y) → length olds ≡ length xs → i < length xs → get_or (written f xs olds i) i e ≡ get_or olds i e
written_read f [] olds i e same low = absurd (omega arith)
written_read f (x ∷ xs) [] i e same low = absurd (omega arith)
written_read f (x ∷ xs) (o ∷ os) zero e same low = refl
written_read f (x ∷ xs) (o ∷ os) (suc i) e same low = written_read f xs os i e (omega arith) (omega arith)

pub read_next : {X Y : Type 0} (f : X → Y) (xs : List X) (olds ys : List Y) (i : ℕ) (e : Y) → length olds ≡ length xs → i < length xs → ys ≡ written f xs olds i → get_or ys i e ≡ get_or olds i e
read_next f xs olds ys i e same low so_far = ap (λ zs. get_or zs i e) so_far ∙ written_read f xs olds i e same low

-- it is written
set_next : {X Y : Type 0} (f : X → Y) (xs : List X) (olds : List Y) (i : ℕ) (d : X) (v : Y) → length olds ≡ length xs → i < length xs → v ≡ f (get_or xs i d) → set (written f xs olds i) i v ≡ written f xs olds (suc i)
set_next f [] olds i d v same low is = absurd (omega arith)
set_next f (x ∷ xs) [] i d v same low is = absurd (omega arith)
set_next f (x ∷ xs) (o ∷ os) zero d v same low is = ap (λ z. z ∷ os) is
set_next f (x ∷ xs) (o ∷ os) (suc i) d v same low is = ap (λ z. f x ∷ z) (set_next f xs os i d v (omega arith) (omega arith) is)

pub written_more : {X Y : Type 0} (f : X → Y) (xs : List X) (olds ys : List Y) (i : ℕ) (d : X) (v : Y) → length olds ≡ length xs → i < length xs → ys ≡ written f xs olds i → v ≡ f (get_or xs i d) → set ys i v ≡ written f xs olds (i + 1)
written_more f xs olds ys i d v same low so_far is =
    let next : suc i ≡ i + 1 = omega arith in
    ap (λ zs. set zs i v) so_far ∙ set_next f xs olds i d v same low is ∙ ap (written f xs olds) next

-- or it is left, and was right
keep_next : {X Y : Type 0} (f : X → Y) (xs : List X) (olds : List Y) (i : ℕ) (d : X) (e : Y) → length olds ≡ length xs → i < length xs → get_or olds i e ≡ f (get_or xs i d) → written f xs olds i ≡ written f xs olds (suc i)
keep_next f [] olds i d e same low is = absurd (omega arith)
keep_next f (x ∷ xs) [] i d e same low is = absurd (omega arith)
keep_next f (x ∷ xs) (o ∷ os) zero d e same low is = ap (λ z. z ∷ os) is
keep_next f (x ∷ xs) (o ∷ os) (suc i) d e same low is = ap (λ z. f x ∷ z) (keep_next f xs os i d e (omega arith) (omega arith) is)

pub written_kept : {X Y : Type 0} (f : X → Y) (xs : List X) (olds ys : List Y) (i : ℕ) (d : X) (e : Y) → length olds ≡ length xs → i < length xs → ys ≡ written f xs olds i → get_or olds i e ≡ f (get_or xs i d) → ys ≡ written f xs olds (i + 1)
written_kept f xs olds ys i d e same low so_far is =
    let next : suc i ≡ i + 1 = omega arith in
    so_far ∙ keep_next f xs olds i d e same low is ∙ ap (written f xs olds) next

-- all are written
pub written_all : {X Y : Type 0} (f : X → Y) (xs : List X) (olds : List Y) (i : ℕ) → length olds ≡ length xs → length xs ≤ i → written f xs olds i ≡ map f xs
written_all f [] [] zero same high = refl
written_all f [] [] (suc i) same high = refl
written_all f [] (o ∷ os) i same high = absurd (omega arith)
written_all f (x ∷ xs) [] i same high = absurd (omega arith)
written_all f (x ∷ xs) (o ∷ os) zero same high = absurd (omega arith)
written_all f (x ∷ xs) (o ∷ os) (suc i) same high = ap (λ z. f x ∷ z) (written_all f xs os i (omega arith) (omega arith))
