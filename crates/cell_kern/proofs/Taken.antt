-- A block after members gave to it: it can be given to by more, and it is seen by others as before.
use Rattle.std.proofs.Common.{◌≡◌, ℕ, ◌+◌, ◌*◌, ◌^◌, ◌<◌, ◌≤◌, List, [], ◌∷◌, ◌++◌, length, get_or, fold, All, subst, refl, sym, ap, ◌∙◌, arith}
use Rattle.std.proofs.lemmas.List.Sums.{fold-append}
use Rattle.std.proofs.lemmas.Simd.{length-zip2, get_or-zip2}
use Rattle.sph_num.specs.Ranges.{most_particles}
use Rattle.cell_block.specs.declared.rows.BlockRows.{BlockRows}
use Rattle.cell_block.specs.Extents.{AreWithin}
use Rattle.cell_kern.specs.declared.members.Member.{Member}
use Rattle.cell_kern.specs.inner.Gathered.{IsSound, force_given, gathered, no_member, rho_given}
use Rattle.cell_kern.specs.inner.Taking.{CanTake, Densities, Forces, HasRoom, IsGiven, Sums, rows_in}
use Rattle.cell_kern.proofs.Densities.{rho_sum-le}
use Rattle.cell_kern.proofs.Forces.{force_sum-narrow}
use Rattle.cell_kern.proofs.Lists.{length-members}

-- what no member and what more members gave
gathered_none : {X : Type 0} (given : Member → X → Member → X) (to : List Member) (sums : List X) → length to ≡ length sums → sums ≡ gathered given to [] sums
gathered_none given [] [] same = refl
gathered_none given [] (s ∷ ss) same = absurd (omega arith)
gathered_none given (m ∷ ms) [] same = absurd (omega arith)
gathered_none given (m ∷ ms) (s ∷ ss) same = ap (λ xs. s ∷ xs) (gathered_none given ms ss (omega arith))

gathered_more : {X : Type 0} (given : Member → X → Member → X) (to xs ys : List Member) (sums : List X) → gathered given to ys (gathered given to xs sums) ≡ gathered given to (xs ++ ys) sums
gathered_more given [] xs ys sums = refl
gathered_more given (m ∷ ms) xs ys [] = refl
gathered_more given (m ∷ ms) xs ys (s ∷ ss) =
    ap (λ z. z ∷ gathered given ms ys (gathered given ms xs ss)) (sym (fold-append (given m) s xs ys)) ∙ ap (λ zs. fold (given m) s (xs ++ ys) ∷ zs) (gathered_more given ms xs ys ss)

pub length-rows_in : (sums : Sums) (level : ℕ) (block : BlockRows) → CanTake sums level block → length (rows_in block) ≡ length block.spots.items
length-rows_in sums level block can = length-members block.spots.items block.pulls.items block.due.items can.pulls can.due

pub taken_none : (sums : Sums) (level : ℕ) (block : BlockRows) → CanTake sums level block → IsGiven sums block [] block
taken_none Densities level block can = record { rhos = gathered_none rho_given (rows_in block) block.rhos.items (length-rows_in Densities level block can ∙ sym can.rhos); unchanged = refl }
taken_none Forces level block can = record { forces = gathered_none force_given (rows_in block) block.forces.items (length-rows_in Forces level block can ∙ sym can.forces); unchanged = refl }

pub same_rows : (sums : Sums) (before : BlockRows) (from : List Member) (after : BlockRows) → IsGiven sums before from after → rows_in after ≡ rows_in before
same_rows Densities before from after is = ap rows_in is.unchanged
same_rows Forces before from after is = ap rows_in is.unchanged

same_spots : (sums : Sums) (before : BlockRows) (from : List Member) (after : BlockRows) → IsGiven sums before from after → after.spots.items ≡ before.spots.items
same_spots Densities before from after is = ap (λ (x : BlockRows). x.spots.items) is.unchanged
same_spots Forces before from after is = ap (λ (x : BlockRows). x.spots.items) is.unchanged

same_extent : (sums : Sums) (before : BlockRows) (from : List Member) (after : BlockRows) → IsGiven sums before from after → AreWithin before.extent before.spots.items → AreWithin after.extent after.spots.items
same_extent Densities before from after is within = subst (λ (x : BlockRows). AreWithin x.extent x.spots.items) (sym is.unchanged) within
same_extent Forces before from after is within = subst (λ (x : BlockRows). AreWithin x.extent x.spots.items) (sym is.unchanged) within

pub taken_more : (sums : Sums) (a b c : BlockRows) (xs ys : List Member) → IsGiven sums a xs b → IsGiven sums b ys c → IsGiven sums a (xs ++ ys) c
taken_more Densities a b c xs ys first second = record {
  rhos = second.rhos ∙ ap (λ rows. gathered rho_given rows ys b.rhos.items) (same_rows Densities a xs b first) ∙ ap (gathered rho_given (rows_in a) ys) first.rhos ∙ gathered_more rho_given (rows_in a) xs ys a.rhos.items;
  unchanged = ap (λ (x : BlockRows). record x { rhos = a.rhos }) second.unchanged ∙ first.unchanged;
}
taken_more Forces a b c xs ys first second = record {
  forces = second.forces ∙ ap (λ rows. gathered force_given rows ys b.forces.items) (same_rows Forces a xs b first) ∙ ap (gathered force_given (rows_in a) ys) first.forces ∙ gathered_more force_given (rows_in a) xs ys a.forces.items;
  unchanged = ap (λ (x : BlockRows). record x { forces = a.forces }) second.unchanged ∙ first.unchanged;
}

-- what stays of a block, and how long its sums are
record HasStayed (before after : BlockRows) : Type 0 where
  spots : after.spots.items ≡ before.spots.items
  pulls : after.pulls.items ≡ before.pulls.items
  due : after.due.items ≡ before.due.items
  rhos : length after.rhos.items ≡ length before.rhos.items
  forces : length after.forces.items ≡ length before.forces.items

has_stayed : (sums : Sums) (level : ℕ) (before : BlockRows) (from : List Member) (after : BlockRows) → CanTake sums level before → IsGiven sums before from after → HasStayed before after
has_stayed Densities level before from after can is = record {
  spots = same_spots Densities before from after is;
  pulls = ap (λ (x : BlockRows). x.pulls.items) is.unchanged;
  due = ap (λ (x : BlockRows). x.due.items) is.unchanged;
  rhos = ap length is.rhos ∙ length-zip2 (λ (m : Member) s. fold (rho_given m) s from) (rows_in before) before.rhos.items (length-rows_in Densities level before can ∙ sym can.rhos) ∙ length-rows_in Densities level before can ∙ sym can.rhos;
  forces = ap (λ (x : BlockRows). length x.forces.items) is.unchanged;
}
has_stayed Forces level before from after can is = record {
  spots = same_spots Forces before from after is;
  pulls = ap (λ (x : BlockRows). x.pulls.items) is.unchanged;
  due = ap (λ (x : BlockRows). x.due.items) is.unchanged;
  rhos = ap (λ (x : BlockRows). length x.rhos.items) is.unchanged;
  forces = ap length is.forces ∙ length-zip2 (λ (m : Member) s. fold (force_given m) s from) (rows_in before) before.forces.items (length-rows_in Forces level before can ∙ sym can.forces) ∙ length-rows_in Forces level before can ∙ sym can.forces;
}

-- there is room for what is given, at the next level
room_left : (sums : Sums) (level : ℕ) (before : BlockRows) (from : List Member) (after : BlockRows) → CanTake sums level before → All IsSound from → length from ≤ most_particles → IsGiven sums before from after → HasRoom sums (level + 1) after
room_left Densities level before from after can all few is =
    λ k inside due.
    let rows = rows_in before in
    let same = same_rows Densities before from after is in
    let long = length-rows_in Densities level before can in
    let low : k < length rows = omega (arith, ap length same) in
    let here = ap (λ (ms : List Member). (get_or ms k no_member).due) (sym same) ∙ due in
    let one = get_or rows k no_member in
    let value = ap (λ xs. get_or xs k 0) is.rhos ∙ get_or-zip2 (λ (m : Member) s. fold (rho_given m) s from) rows before.rhos.items k no_member 0 0 low (omega (arith, can.rhos)) in
    omega (arith, value, rho_sum-le one (get_or before.rhos.items k 0) from (can.sound k no_member low) all, can.room k low here)
room_left Forces level before from after can all few is =
    λ k inside due.
    let rows = rows_in before in
    let same = same_rows Forces before from after is in
    let long = length-rows_in Forces level before can in
    let low : k < length rows = omega (arith, ap length same) in
    let here = ap (λ (ms : List Member). (get_or ms k no_member).due) (sym same) ∙ due in
    let one = get_or rows k no_member in
    let value = ap (λ xs. get_or xs k []) is.forces ∙ get_or-zip2 (λ (m : Member) s. fold (force_given m) s from) rows before.forces.items k no_member [] [] low (omega (arith, can.forces)) in
    let narrow = force_sum-narrow one (get_or before.forces.items k []) from ((1 + level) * 2 ^ 112) (can.sound k no_member low) all few (can.room k low here) in
    rw value (record { three = narrow.three; small = λ axis. omega (arith, narrow.small axis) })

pub taken_can : (sums : Sums) (level : ℕ) (before : BlockRows) (from : List Member) (after : BlockRows) → CanTake sums level before → All IsSound from → length from ≤ most_particles → IsGiven sums before from after → CanTake sums (level + 1) after
taken_can sums level before from after can all few is =
    let stayed = has_stayed sums level before from after can is in
    let spots = ap length stayed.spots in
    record {
      pulls = ap length stayed.pulls ∙ can.pulls ∙ sym spots;
      due = ap length stayed.due ∙ can.due ∙ sym spots;
      rhos = stayed.rhos ∙ can.rhos ∙ sym spots;
      forces = stayed.forces ∙ can.forces ∙ sym spots;
      few = omega (arith, spots, can.few);
      sound = subst (All IsSound) (sym (same_rows sums before from after is)) can.sound;
      extent = same_extent sums before from after is can.extent;
      room = room_left sums level before from after can all few is;
    }
