-- How many spans there are: no more than pairs of points, each with itself among them.
use Rattle.std.proofs.Common.{◌≡◌, ℕ, zero, suc, ◌+◌, ◌*◌, ◌<◌, ◌≤◌, Bool, List, [], ◌∷◌, ◌++◌, map, length, length-append, ap, ◌∙◌, arith}
use Rattle.std.specs.List.{Contains, flat_map, sum_by}
use Rattle.std.proofs.lemmas.List.Concat.{length-flat_map}
use Rattle.std.proofs.lemmas.List.Sums.{sum_by-cons, sum_by-append}
use Rattle.std.proofs.lemmas.Nat.{mul-le}
use Rattle.std.proofs.lemmas.List.FromFn.{length-range_with_len}
use Rattle.lists.proofs.Sums.{sum_by-le_each, sum_by-mul}
use Rattle.lists.proofs.Elements.{Contains-head, Contains-later}
use Rattle.cell_tree.specs.declared.tree.Span.{Span}
use Rattle.cell_tree.specs.Laws.{CanBeMade}
use Rattle.cell_tree.specs.Spans.{count_of}
use Rattle.cell_tree.specs.Tree.{Made, Cell, cells_of}
use Rattle.cell_tree.proofs.Members.{root, sound_at}
use Rattle.cell_tree.proofs.Orders.{cells_some}
use Rattle.cell_tree.proofs.Shape.{cells_under-first}
use Rattle.pair_cover.specs.declared.looks.Limits.{Limits}
use Rattle.pair_cover.specs.Looks.{pair_spans, self_spans, spans_of, children_of, twos, most_looks}
use Rattle.pair_cover.proofs.ChildLists.{IsParent-from_children}
use Rattle.pair_cover.proofs.Families.{children_count}
use Rattle.pair_cover.proofs.Sums.{sum_by-map}
use Rattle.pair_cover.proofs.LookCases.{pairs_none, selves_none}
use Rattle.pair_cover.proofs.LookSteps.{pair_cases, self_cases}

-- a number's own pairs, those with others, and those of the others
joined_pairs : (own with others s n m : ℕ) → 2 * own ≤ n * (n + 1) → with ≤ m * n → 2 * (s + others) ≤ m * (m + 1) → 2 * (own + s + (with + others)) ≤ (n + m) * (n + m + 1)
joined_pairs own with others s n m p q r = omega arith

-- own pairs and pairs of each two are no more than all pairs
twos_most : (own count : ℕ → ℕ) (both : ℕ × ℕ → ℕ) (xs : List ℕ) → ((x : ℕ) → Contains xs x → 2 * own x ≤ count x * (count x + 1))
    → ((x y : ℕ) → Contains xs x → Contains xs y → both (x, y) ≤ count x * count y)
    → 2 * (sum_by own xs + sum_by both (twos xs)) ≤ sum_by count xs * (sum_by count xs + 1)
twos_most own count both [] p q = omega arith
twos_most own count both (x ∷ xs) p q =
    let rest = twos_most own count both xs (λ y c. p y (Contains-later x xs y c)) (λ y z c d. q y z (Contains-later x xs y c) (Contains-later x xs z d)) in
    let here = p x (Contains-head x xs) in
    let with = sum_by-le_each (λ y. both (x, y)) (λ y. count y * count x) xs (λ y c. let w = q x y (Contains-head x xs) (Contains-later x xs y c) in omega arith) in
    let product = sum_by-mul count (count x) xs in
    let split = sum_by-append both (map (λ y. (x, y)) xs) (twos xs) in
    let mapped = sum_by-map both (λ y. (x, y)) xs in
    let all = joined_pairs (own x) (sum_by (λ y. both (x, y)) xs) (sum_by both (twos xs)) (sum_by own xs) (count x) (sum_by count xs) here (omega arith) rest in
    rw (sum_by-cons own x xs, sum_by-cons count x xs, split, mapped) all

module _ (made : Made) (can : CanBeMade made) where
  -- each cell has a member
  count_some : (cell : ℕ) → cell < length (cells_of made) → 1 ≤ count_of made cell
  count_some cell l = (sound_at made can cell l).some

  -- where the looks at the children of a cell and another one give no more than their pairs, so do those of the cell
  children_few : (looks : ℕ → List Span) (a n : ℕ) → a < length (cells_of made) → ((c : ℕ) → c < length (cells_of made) → length (looks c) ≤ count_of made c * n)
      → length (flat_map looks (children_of made a)) ≤ count_of made a * n
  children_few looks a n l h =
      let parts = length-flat_map looks (children_of made a) in
      let each = sum_by-le_each (λ child. length (looks child)) (λ child. count_of made child * n) (children_of made a) (λ c m. h c ((IsParent-from_children made a l c m).within)) in
      let sum = sum_by-mul (count_of made) n (children_of made a) in
      let all = mul-le (sum_by (count_of made) (children_of made a)) n (count_of made a) n (children_count made can a l) (omega arith) in
      omega arith

  -- so with the looks at each child, and at each two
  family_few : (own : ℕ → List Span) (both : ℕ × ℕ → List Span) (cell : ℕ) → cell < length (cells_of made)
      → ((c : ℕ) → c < length (cells_of made) → 2 * length (own c) ≤ count_of made c * (count_of made c + 1))
      → ((c d : ℕ) → c < length (cells_of made) → d < length (cells_of made) → length (both (c, d)) ≤ count_of made c * count_of made d)
      → 2 * length (flat_map own (children_of made cell) ++ flat_map both (twos (children_of made cell))) ≤ count_of made cell * (count_of made cell + 1)
  family_few own both cell l p q =
      let selves = length-flat_map own (children_of made cell) in
      let pairs = length-flat_map both (twos (children_of made cell)) in
      let joined = length-append (flat_map own (children_of made cell)) (flat_map both (twos (children_of made cell))) in
      let within : (c : ℕ) → Contains (children_of made cell) c → c < length (cells_of made) = λ c m. (IsParent-from_children made cell l c m).within in
      let most = twos_most (λ child. length (own child)) (count_of made) (λ two. length (both two)) (children_of made cell) (λ c m. p c (within c m)) (λ c d m n. q c d (within c m) (within d n)) in
      let sum = children_count made can cell l in
      let all = mul-le (sum_by (count_of made) (children_of made cell)) (sum_by (count_of made) (children_of made cell) + 1) (count_of made cell) (count_of made cell + 1) sum (omega arith) in
      omega arith

  module _ (due : List Bool) (limits : Limits) where
    -- a look at two cells gives no more spans than they have pairs
    pair_few : (looks a b : ℕ) → a < length (cells_of made) → b < length (cells_of made) → length (pair_spans made due limits looks a b) ≤ count_of made a * count_of made b
    pair_few zero a b l m = rw (pairs_none made due limits a b) (omega arith)
    pair_few (suc looks) a b l m =
        pair_cases made due limits (λ (s : List Span). length s ≤ count_of made a * count_of made b) looks a b (λ d. omega arith)
        (λ d. mul-le 1 1 (count_of made a) (count_of made b) (count_some a l) (count_some b m))
        (λ f. children_few (λ child. pair_spans made due limits looks child b) a (count_of made b) l (λ c n. pair_few looks c b n m))
        (λ s f. let few = children_few (λ child. pair_spans made due limits looks a child) b (count_of made a) m (λ c n. let w = pair_few looks a c l n in omega arith) in omega arith)

    -- a look at one cell gives no more spans than its members have pairs, each with itself among them
    self_few : (looks cell : ℕ) → cell < length (cells_of made) → 2 * length (self_spans made due limits looks cell) ≤ count_of made cell * (count_of made cell + 1)
    self_few zero cell l = rw (selves_none made due limits cell) (omega arith)
    self_few (suc looks) cell l =
        self_cases made due limits (λ (s : List Span). 2 * length s ≤ count_of made cell * (count_of made cell + 1)) looks cell (λ d. omega arith)
        (λ d. let some = count_some cell l in mul-le 1 2 (count_of made cell) (count_of made cell + 1) some (omega arith))
        (λ s. family_few (self_spans made due limits looks) (λ two. pair_spans made due limits most_looks two.0 two.1) cell l (λ c m. self_few looks c m) (λ c d m n. pair_few most_looks c d m n))

    -- the spans of a tree are no more than pairs of its points
    pub spans_few : 2 * length (spans_of made due limits) ≤ length made.points * (length made.points + 1)
    spans_few =
        let whole : count_of made 0 ≡ length made.points = ap (λ (c : Cell). length c.members) (cells_under-first made (root made)).first ∙ length-range_with_len 0 (length made.points) in
        let few = self_few most_looks 0 (cells_some made) in
        rw whole at few
