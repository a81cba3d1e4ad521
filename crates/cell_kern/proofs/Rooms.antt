-- Sums on the way have room for the parts that are still to come.
use Rattle.std.proofs.Common.{◌≡◌, ℕ, ◌+◌, ◌<◌, ◌≤◌, true, List, [], ◌∷◌, length, get_or, All, fold, inl, inr, subst, sym, arith}
use Rattle.std.specs.List.{between}
use Rattle.std.proofs.lemmas.Bool.{cases_lt}
use Rattle.std.proofs.lemmas.List.Edits.{length-between}
use Rattle.std.proofs.lemmas.List.Elements.{All-head, All-tail}
use Rattle.sph_num.specs.Ranges.{most_particles}
use Rattle.cell_kern.specs.declared.members.Member.{Member}
use Rattle.cell_kern.specs.inner.Gathered.{IsSound, no_member}
use Rattle.cell_kern.specs.inner.Rooms.{AreSums, HaveRoom}
use Rattle.cell_kern.proofs.Gathers.{AreGiven}
use Rattle.cell_kern.proofs.Lists.{All-between}

module _ {X : Type 0} (given : Member → X → Member → X) (has_room : ℕ → X → Type 0) (laws : AreSums given has_room) where
  -- one sum, after a list
  pub room_after : (n : ℕ) (to : Member) (sum : X) (from : List Member) → IsSound to → All IsSound from → has_room (length from + n) sum → has_room n (fold (given to) sum from)
  room_after n to sum [] sound all room = laws.fewer n (length {A = Member} [] + n) sum (omega arith) room
  room_after n to sum (m ∷ ms) sound all room =
      room_after n to (given to sum m) ms sound (All-tail IsSound m ms all)
      (laws.takes (length ms + n) to m sum sound (All-head IsSound m ms all) (laws.fewer (length ms + n + 1) (length (m ∷ ms) + n) sum (omega arith) room))

  -- the sum of a row before one of its turns
  pub room_row : (one : Member) (list : List Member) (from j : ℕ) (start sum : X) → IsSound one → All IsSound list → length list ≤ most_particles → from ≤ j → j < length list
      → has_room most_particles start → sum ≡ fold (given one) start (between from j list) → has_room 1 sum
  room_row one list from j start sum sound all few low inside room is =
      let long = length-between list from j (omega arith) in
      subst (has_room 1) (sym is) (room_after 1 one start (between from j list) sound (All-between IsSound list from j all) (laws.fewer (length (between from j list) + 1) most_particles start (omega arith) room))

  -- the sums of due members, some after a whole list and the others after a part of it
  pub room_given : (to whole part : List Member) (upto : ℕ) (before after : List X) (n m : ℕ) → length before ≡ length to → All IsSound to → All IsSound whole → All IsSound part → length whole + m ≤ n → length part + m ≤ n
      → HaveRoom has_room n to before → AreGiven given to whole part upto before after → HaveRoom has_room m to after
  room_given to whole part upto before after n m same sound all_whole all_part few_whole few_part room are =
      λ k d inside due.
      let one = get_or to k no_member in
      let sum = get_or before k d in
      elim (cases_lt k upto) [
        | inl early ↦ subst (has_room m) (sym (are.done k d early (omega arith))) (room_after m one sum whole (sound k no_member inside) all_whole (laws.fewer (length whole + m) n sum few_whole (room k d inside due)))
        | inr late ↦ subst (has_room m) (sym (are.rest k d late (omega arith))) (room_after m one sum part (sound k no_member inside) all_part (laws.fewer (length part + m) n sum few_part (room k d inside due)))
      ]

  -- the next of them, after the part
  pub room_next : (to whole part : List Member) (i : ℕ) (before sums : List X) (d : X) (n m : ℕ) → length before ≡ length to → i < length to → All IsSound to → All IsSound part → length part + m ≤ n
      → HaveRoom has_room n to before → AreGiven given to whole part i before sums → (get_or to i no_member).due ≡ true → has_room m (get_or sums i d)
  room_next to whole part i before sums d n m same inside sound all few room are due =
      let sum = get_or before i d in
      subst (has_room m) (sym (are.rest i d (omega arith) (omega arith))) (room_after m (get_or to i no_member) sum part (sound i no_member inside) all (laws.fewer (length part + m) n sum few (room i d inside due)))
