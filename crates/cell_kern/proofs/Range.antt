-- Blocks are given to by others, one after the other: how far the loops have come.
use Rattle.std.proofs.Common.{◌≡◌, ◌≢◌, ℕ, suc, ◌+◌, ◌-◌, ◌<◌, ◌≤◌, List, [], ◌∷◌, ◌++◌, length, get_or, set, take, drop, flat_map, All, length-set, length-append, inl, inr, subst, refl, sym, ap, ◌∙◌, arith}
use Rattle.std.proofs.lemmas.Bool.{cases_lt}
use Rattle.std.proofs.lemmas.List.{get_or-set_same, get_or-set_other, get_or_default, get_or-drop, get_or-take, take-append-drop, take_more, length-take, length-drop, append-nil, get_or_append_left, get_or-append-add}
use Rattle.std.proofs.lemmas.Grind.{flat_map-append}
use Rattle.std.proofs.lemmas.List.Elements.{All-nil}
use Rattle.lists.proofs.Elements.{All-flat_map}
use Rattle.sph_num.specs.Ranges.{most_particles}
use Rattle.cell_block.specs.declared.rows.BlockRows.{BlockRows}
use Rattle.cell_kern.specs.declared.members.Member.{Member}
use Rattle.cell_kern.specs.inner.Gathered.{IsSound}
use Rattle.cell_kern.specs.inner.Taking.{AreGivenTo, CanTake, CanTakeAll, IsGiven, Sums, rows_in}
use Rattle.cell_kern.proofs.Taken.{same_rows, taken_can, taken_more, taken_none}

-- the first blocks were given to by the whole, the others by a part of it
pub record AreTaken (sums : Sums) (whole part : List Member) (upto : ℕ) (before after : List BlockRows) : Type 0 where
  pub same_length : length after ≡ length before
  pub done : (k : ℕ) (d : BlockRows) → k < upto → k < length before → IsGiven sums (get_or before k d) whole (get_or after k d)
  pub rest : (k : ℕ) (d : BlockRows) → upto ≤ k → k < length before → IsGiven sums (get_or before k d) part (get_or after k d)

-- nothing was given
pub none_taken : (sums : Sums) (level : ℕ) (whole : List Member) (blocks : List BlockRows) → CanTakeAll sums level blocks → AreTaken sums whole [] 0 blocks blocks
none_taken sums level whole blocks can = record {
  same_length = refl;
  done = λ k d low inside. absurd (omega arith);
  rest = λ k d high inside. taken_none sums level (get_or blocks k d) (can k d inside);
}

-- all was
pub all_taken : (sums : Sums) (whole part : List Member) (upto : ℕ) (before after : List BlockRows) → length before ≤ upto → AreTaken sums whole part upto before after → AreGivenTo sums before whole after
all_taken sums whole part upto before after high are = record {
  same_length = are.same_length;
  given = λ k d inside. are.done k d (omega arith) inside;
}

pub part_taken : (sums : Sums) (whole part : List Member) (before after : List BlockRows) → part ≡ whole → AreTaken sums whole part 0 before after → AreGivenTo sums before whole after
part_taken sums whole part before after is are = record {
  same_length = are.same_length;
  given = λ k d inside. subst (λ (from : List Member). IsGiven sums (get_or before k d) from (get_or after k d)) is (are.rest k d (omega arith) inside);
}

-- the next block was given to by the whole
pub next_taken : (sums : Sums) (whole : List Member) (i : ℕ) (before blocks after : List BlockRows) (new : BlockRows) → i < length before → AreTaken sums whole [] i before blocks
    → ((d : BlockRows) → IsGiven sums (get_or blocks i d) whole new) → after ≡ set blocks i new → AreTaken sums whole [] (i + 1) before after
next_taken sums whole i before blocks after new inside so_far is written =
    let within : i < length blocks = omega (arith, so_far.same_length) in
    let other = λ (k : ℕ) (d : BlockRows) (ne : k ≢ i). ap (λ xs. get_or xs k d) written ∙ get_or-set_other blocks i k new d ne in
    record {
      same_length = ap length written ∙ length-set blocks i new ∙ so_far.same_length;
      done = λ k d low here. elim (cases_lt k i) [
        | inl below ↦ subst (IsGiven sums (get_or before k d) whole) (sym (other k d (omega arith))) (so_far.done k d below here)
        | inr above ↦
            let at : k ≡ i = omega arith in
            let read = ap (λ xs. get_or xs i d) written ∙ get_or-set_same blocks i new d within in
            rw at (subst (IsGiven sums (get_or before i d) whole) (sym read) (taken_more sums (get_or before i d) (get_or blocks i d) new [] whole (so_far.rest i d (omega arith) inside) (is d)))
      ];
      rest = λ k d high here. subst (IsGiven sums (get_or before k d) []) (sym (other k d (omega arith))) (so_far.rest k d (omega arith) here);
    }

-- the members of the first of some blocks, and of one more
pub rows_more : (blocks : List BlockRows) (i : ℕ) (d : BlockRows) → i < length blocks → flat_map rows_in (take (i + 1) blocks) ≡ flat_map rows_in (take i blocks) ++ rows_in (get_or blocks i d)
rows_more blocks i d inside =
    ap (flat_map rows_in) (take_more blocks i d inside) ∙ flat_map-append rows_in (take i blocks) (get_or blocks i d ∷ []) ∙ ap (λ xs. flat_map rows_in (take i blocks) ++ xs) (append-nil (rows_in (get_or blocks i d)))

-- each block was given to by those of one more
pub more_taken : (sums : Sums) (whole : List Member) (from : List BlockRows) (i : ℕ) (e one : BlockRows) (before blocks after : List BlockRows) → i < length from → rows_in one ≡ rows_in (get_or from i e)
    → AreTaken sums whole (flat_map rows_in (take i from)) 0 before blocks → AreGivenTo sums blocks (rows_in one) after → AreTaken sums whole (flat_map rows_in (take (i + 1) from)) 0 before after
more_taken sums whole from i e one before blocks after inside same so_far given = record {
  same_length = given.same_length ∙ so_far.same_length;
  done = λ k d low here. absurd (omega arith);
  rest = λ k d high here.
      subst (λ (xs : List Member). IsGiven sums (get_or before k d) xs (get_or after k d))
      (ap (λ xs. flat_map rows_in (take i from) ++ xs) same ∙ sym (rows_more from i e inside))
      (taken_more sums (get_or before k d) (get_or blocks k d) (get_or after k d) (flat_map rows_in (take i from)) (rows_in one) (so_far.rest k d (omega arith) here) (given.given k d (omega (arith, so_far.same_length))));
}

-- the members of blocks are sound and not many, and so are those of a part
pub rows_sound : (sums : Sums) (level : ℕ) (blocks : List BlockRows) → CanTakeAll sums level blocks → All IsSound (flat_map rows_in blocks)
rows_sound sums level blocks can = All-flat_map IsSound rows_in blocks (λ k d inside. (can k d inside).sound)

pub rows_split : (blocks : List BlockRows) (i : ℕ) → flat_map rows_in (take i blocks) ++ flat_map rows_in (drop i blocks) ≡ flat_map rows_in blocks
rows_split blocks i = sym (flat_map-append rows_in (take i blocks) (drop i blocks)) ∙ ap (flat_map rows_in) (take-append-drop i blocks)

pub part_sound : (sums : Sums) (level : ℕ) (blocks : List BlockRows) (i : ℕ) → CanTakeAll sums level blocks → All IsSound (flat_map rows_in (take i blocks))
part_sound sums level blocks i can = rows_sound sums level (take i blocks) (λ k d inside.
    let low : k < i = omega (arith, length-take i blocks) in
    subst (CanTake sums level) (sym (get_or-take i blocks k d low)) (can k d (omega (arith, length-take i blocks))))

pub part_few : (blocks : List BlockRows) (i : ℕ) → length (flat_map rows_in blocks) ≤ most_particles → length (flat_map rows_in (take i blocks)) ≤ most_particles
part_few blocks i few = omega (arith, ap length (rows_split blocks i), length-append (flat_map rows_in (take i blocks)) (flat_map rows_in (drop i blocks)))

pub rest_few : (blocks : List BlockRows) (i : ℕ) → length (flat_map rows_in blocks) ≤ most_particles → length (flat_map rows_in (drop i blocks)) ≤ most_particles
rest_few blocks i few = omega (arith, ap length (rows_split blocks i), length-append (flat_map rows_in (take i blocks)) (flat_map rows_in (drop i blocks)))

-- blocks with the same members, one by one
flat_map_same : (xs ys : List BlockRows) → length xs ≡ length ys → ((k : ℕ) (d : BlockRows) → k < length xs → rows_in (get_or xs k d) ≡ rows_in (get_or ys k d)) → flat_map rows_in xs ≡ flat_map rows_in ys
flat_map_same [] [] same each = refl
flat_map_same [] (y ∷ ys) same each = absurd (omega arith)
flat_map_same (x ∷ xs) [] same each = absurd (omega arith)
flat_map_same (x ∷ xs) (y ∷ ys) same each =
    ap (λ zs. zs ++ flat_map rows_in xs) (each 0 x (omega arith)) ∙ ap (λ zs. rows_in y ++ zs) (flat_map_same xs ys (omega arith) (λ k d low. each (suc k) d (omega arith)))

pub same_rows_all : (sums : Sums) (whole part : List Member) (upto : ℕ) (before after : List BlockRows) (k : ℕ) (d : BlockRows) → AreTaken sums whole part upto before after → k < length before → rows_in (get_or after k d) ≡ rows_in (get_or before k d)
same_rows_all sums whole part upto before after k d are inside =
    elim (cases_lt k upto) [
      | inl early ↦ same_rows sums (get_or before k d) whole (get_or after k d) (are.done k d early inside)
      | inr late ↦ same_rows sums (get_or before k d) part (get_or after k d) (are.rest k d late inside)
    ]

pub rows_after : (sums : Sums) (whole part : List Member) (upto : ℕ) (before after : List BlockRows) → AreTaken sums whole part upto before after → flat_map rows_in after ≡ flat_map rows_in before
rows_after sums whole part upto before after are =
    flat_map_same after before are.same_length (λ k d inside. same_rows_all sums whole part upto before after k d are (omega (arith, are.same_length)))

-- blocks that were given to can take more, at the next level
pub taken_can_all : (sums : Sums) (level : ℕ) (whole part : List Member) (upto : ℕ) (before after : List BlockRows) → CanTakeAll sums level before → All IsSound whole → length whole ≤ most_particles → All IsSound part → length part ≤ most_particles
    → AreTaken sums whole part upto before after → CanTakeAll sums (level + 1) after
taken_can_all sums level whole part upto before after can whole_sound whole_few part_sound part_few are =
    λ k d inside.
    let low : k < length before = omega (arith, are.same_length) in
    elim (cases_lt k upto) [
      | inl early ↦ taken_can sums level (get_or before k d) whole (get_or after k d) (can k d low) whole_sound whole_few (are.done k d early low)
      | inr late ↦ taken_can sums level (get_or before k d) part (get_or after k d) (can k d low) part_sound part_few (are.rest k d late low)
    ]

-- the next block gives to itself and to those behind it, and they to it
pub within_taken : (sums : Sums) (i : ℕ) (before blocks head behind given : List BlockRows) (e mid new : BlockRows) → i < length before → blocks ≡ head ++ behind → length head ≡ i + 1
    → AreTaken sums (flat_map rows_in before) (flat_map rows_in (take i before)) i before blocks
    → IsGiven sums (get_or head i e) (rows_in (get_or head i e)) mid → IsGiven sums mid (flat_map rows_in behind) new → AreGivenTo sums behind (rows_in mid) given
    → AreTaken sums (flat_map rows_in before) (flat_map rows_in (take (i + 1) before)) (i + 1) before (set head i new ++ given)
within_taken sums i before blocks head behind given e mid new inside parts long so_far own with_others others =
    let all = flat_map rows_in before in
    let part = flat_map rows_in (take i before) in
    let part_more = flat_map rows_in (take (i + 1) before) in
    let count : length blocks ≡ length before = so_far.same_length in
    let count_parts : length blocks ≡ length head + length behind = ap length parts ∙ length-append head behind in
    let at_head = λ (k : ℕ) (d : BlockRows) (low : k < length head). ap (λ xs. get_or xs k d) parts ∙ get_or_append_left head behind d k low in
    let at_behind = λ (k : ℕ) (d : BlockRows). ap (λ xs. get_or xs (length head + k) d) parts ∙ get_or-append-add head behind k d in
    let one = get_or before i e in
    let rows_of_head : rows_in (get_or head i e) ≡ rows_in one = ap rows_in (sym (at_head i e (omega arith))) ∙ same_rows_all sums all part i before blocks i e so_far inside in
    let rows_of_mid : rows_in mid ≡ rows_in one = same_rows sums (get_or head i e) (rows_in (get_or head i e)) mid own ∙ rows_of_head in
    let more = rows_more before i e inside in
    let behind_rows : flat_map rows_in behind ≡ flat_map rows_in (drop (i + 1) before) =
    flat_map_same behind (drop (i + 1) before) (sym (length-drop (i + 1) before ∙ omega arith))
    (λ k d low.
    let place : length head + k ≡ (i + 1) + k = omega arith in
    let here : (i + 1) + k < length before = omega arith in
    ap rows_in (sym (at_behind k d) ∙ ap (λ n. get_or blocks n d) place) ∙ same_rows_all sums all part i before blocks ((i + 1) + k) d so_far here ∙ ap rows_in (sym (get_or-drop (i + 1) before k d))) in
    let set_long : length (set head i new) ≡ length head = length-set head i new in
    record {
      same_length = length-append (set head i new) given ∙ omega (arith, others.same_length);
      done = λ k d low known. elim (cases_lt k i) [
        | inl early ↦
            let read = get_or_append_left (set head i new) given d k (omega arith) ∙ get_or-set_other head i k new d (omega arith) ∙ sym (at_head k d (omega arith)) in
            subst (IsGiven sums (get_or before k d) all) (sym read) (so_far.done k d early known)
        | inr late ↦
            let here : k ≡ i = omega arith in
            let read = get_or_append_left (set head i new) given d i (omega arith) ∙ get_or-set_same head i new d (omega arith) in
            let start = subst (λ (b : BlockRows). IsGiven sums (get_or before i d) part b) (at_head i d (omega arith) ∙ get_or_default head i d e (omega arith)) (so_far.rest i d (omega arith) inside) in
            let with_own = taken_more sums (get_or before i d) (get_or head i e) mid part (rows_in (get_or head i e)) start own in
            let whole = taken_more sums (get_or before i d) mid new (part ++ rows_in (get_or head i e)) (flat_map rows_in behind) with_own with_others in
            let total : (part ++ rows_in (get_or head i e)) ++ flat_map rows_in behind ≡ all =
            ap (λ xs. (part ++ xs) ++ flat_map rows_in behind) rows_of_head ∙ ap (λ xs. (part ++ rows_in one) ++ xs) behind_rows ∙ ap (λ xs. xs ++ flat_map rows_in (drop (i + 1) before)) (sym more) ∙ rows_split before (i + 1) in
            rw here (subst (IsGiven sums (get_or before i d) all) (sym read) (subst (λ (xs : List Member). IsGiven sums (get_or before i d) xs new) total whole))
      ];
      rest = λ k d high known.
          let n = k - (i + 1) in
          let place : length head + n ≡ k = omega arith in
          let set_place : k ≡ length (set head i new) + n = omega arith in
          let read : get_or (set head i new ++ given) k d ≡ get_or given n d = ap (λ m. get_or (set head i new ++ given) m d) set_place ∙ get_or-append-add (set head i new) given n d in
          let was : get_or behind n d ≡ get_or blocks k d = sym (at_behind n d) ∙ ap (λ m. get_or blocks m d) place in
          let step = subst (λ (b : BlockRows). IsGiven sums b (rows_in mid) (get_or given n d)) was (others.given n d (omega arith)) in
          let joined = taken_more sums (get_or before k d) (get_or blocks k d) (get_or given n d) part (rows_in mid) (so_far.rest k d (omega arith) known) step in
          subst (IsGiven sums (get_or before k d) part_more) (sym read) (subst (λ (xs : List Member). IsGiven sums (get_or before k d) xs (get_or given n d)) (ap (λ xs. part ++ xs) rows_of_mid ∙ sym more) joined);
    }

-- which it can, and so can they
pub own_can : (sums : Sums) (i : ℕ) (before blocks head behind : List BlockRows) (e : BlockRows) → CanTakeAll sums 0 before → length (flat_map rows_in before) ≤ most_particles → i < length before → blocks ≡ head ++ behind → length head ≡ i + 1
    → AreTaken sums (flat_map rows_in before) (flat_map rows_in (take i before)) i before blocks → CanTake sums 2 (get_or head i e)
own_can sums i before blocks head behind e can few inside parts long so_far =
    let all = rows_sound sums 0 before can in
    let each = taken_can_all sums 0 (flat_map rows_in before) (flat_map rows_in (take i before)) i before blocks can all few (part_sound sums 0 before i can) (part_few before i few) so_far in
    let here = subst (CanTake sums 1) (ap (λ xs. get_or xs i e) parts ∙ get_or_append_left head behind e i (omega arith)) (each i e (omega (arith, so_far.same_length))) in
    taken_can sums 1 (get_or head i e) [] (get_or head i e) here (All-nil IsSound) (omega arith) (taken_none sums 1 (get_or head i e) here)

pub mid_can : (sums : Sums) (i : ℕ) (before blocks head behind : List BlockRows) (e mid : BlockRows) → CanTakeAll sums 0 before → length (flat_map rows_in before) ≤ most_particles → i < length before → blocks ≡ head ++ behind → length head ≡ i + 1
    → AreTaken sums (flat_map rows_in before) (flat_map rows_in (take i before)) i before blocks → IsGiven sums (get_or head i e) (rows_in (get_or head i e)) mid → CanTake sums 1 mid
mid_can sums i before blocks head behind e mid can few inside parts long so_far own =
    let part = flat_map rows_in (take i before) in
    let read : get_or blocks i e ≡ get_or head i e = ap (λ xs. get_or xs i e) parts ∙ get_or_append_left head behind e i (omega arith) in
    let start = subst (λ (b : BlockRows). IsGiven sums (get_or before i e) part b) read (so_far.rest i e (omega arith) inside) in
    let with_own = taken_more sums (get_or before i e) (get_or head i e) mid part (rows_in (get_or head i e)) start own in
    let same = ap rows_in (sym read) ∙ same_rows_all sums (flat_map rows_in before) part i before blocks i e so_far inside in
    let more = ap (λ xs. part ++ xs) same ∙ sym (rows_more before i e inside) in
    taken_can sums 0 (get_or before i e) (flat_map rows_in (take (i + 1) before)) mid (can i e inside) (part_sound sums 0 before (i + 1) can) (part_few before (i + 1) few)
    (subst (λ (xs : List Member). IsGiven sums (get_or before i e) xs mid) more with_own)

pub behind_can : (sums : Sums) (i : ℕ) (before blocks head behind : List BlockRows) → CanTakeAll sums 0 before → length (flat_map rows_in before) ≤ most_particles → blocks ≡ head ++ behind
    → AreTaken sums (flat_map rows_in before) (flat_map rows_in (take i before)) i before blocks → CanTakeAll sums 1 behind
behind_can sums i before blocks head behind can few parts so_far =
    λ k d low.
    let all = rows_sound sums 0 before can in
    let each = taken_can_all sums 0 (flat_map rows_in before) (flat_map rows_in (take i before)) i before blocks can all few (part_sound sums 0 before i can) (part_few before i few) so_far in
    let count : length blocks ≡ length head + length behind = ap length parts ∙ length-append head behind in
    subst (CanTake sums 1) (ap (λ xs. get_or xs (length head + k) d) parts ∙ get_or-append-add head behind k d) (each (length head + k) d (omega arith))

pub behind_few : (sums : Sums) (i : ℕ) (before blocks head behind : List BlockRows) → length (flat_map rows_in before) ≤ most_particles → blocks ≡ head ++ behind
    → AreTaken sums (flat_map rows_in before) (flat_map rows_in (take i before)) i before blocks → length (flat_map rows_in behind) ≤ most_particles
behind_few sums i before blocks head behind few parts so_far =
    let same = rows_after sums (flat_map rows_in before) (flat_map rows_in (take i before)) i before blocks so_far in
    let split = ap (flat_map rows_in) parts ∙ flat_map-append rows_in head behind in
    omega (arith, ap length same, ap length split, length-append (flat_map rows_in head) (flat_map rows_in behind))
