-- Blocks in slots: at the start they are moved in, and at the end out again.
use Rattle.std.proofs.Common.{◌≡◌, ℕ, zero, suc, ◌+◌, ◌≤◌, ◌<◌, List, [], ◌∷◌, ◌++◌, map, length, slice_get, get_or, Option, Some, None, refl, reverse, sym, ap, ◌∙◌, subst, append-nil, append_assoc, length-append, take, slice_index_or, slice_set, Bool, false, arith}
use Rattle.std.proofs.lemmas.List.{length-map, reverse-append, take_more}
use Rattle.std.proofs.lemmas.List.Elements.{filter_map-append}
use Rattle.std.proofs.lemmas.Option.{get_or_from_slice_get, none-some, same_Some, slice_get-get_or, slice_get-map}
use Rattle.std.specs.Option.{option_map, option_to_list}
use mathlib.Core.Option.{some}
use lib.ListN.{get_elem?}
use Rattle.qs_core.specs.Shape.{IsEdge, IsPath, IsShape, Shape}
use Rattle.qs_table.specs.declared.view.SeatView.{SeatView}
use Rattle.qs_core.specs.Blocks.{AreFresh}
use Rattle.qs_table.specs.Blocks.{AreReturned, IsTaken}
use Rattle.qs_table.specs.inner.Slots.{AreFreshSlots, IsClosed, IsReturned, blocks_in}
use Rattle.lists.proofs.Words.{elem_or, elem_within, get_from_elem}

-- the places up to one are empty, and those behind it as they were
pub emptied_more : (fs : List Bool) (i : ℕ) → ((k : ℕ) → k < i → slice_index_or fs k false ≡ false) → (k : ℕ) → k < i + 1 → slice_index_or (slice_set fs i false) k false ≡ false
emptied_more [] i h k l = refl
emptied_more (f ∷ fs) zero h zero l = refl
emptied_more (f ∷ fs) zero h (suc k) l = absurd (omega arith)
emptied_more (f ∷ fs) (suc i) h zero l = h 0 (omega arith)
emptied_more (f ∷ fs) (suc i) h (suc k) l = emptied_more fs i (λ j m. h (suc j) (omega arith)) k (omega arith)

pub full_behind : (fs : List Bool) (i k : ℕ) → i + 1 ≤ k → slice_index_or (slice_set fs i false) k false ≡ slice_index_or fs k false
full_behind [] i k l = refl
full_behind (f ∷ fs) i zero l = absurd (omega arith)
full_behind (f ∷ fs) zero (suc k) l = refl
full_behind (f ∷ fs) (suc i) (suc k) l = full_behind fs i k (omega arith)

module _ {B : Type 0} where
  -- the slots of blocks have those blocks
  pub blocks_in_all : (blocks : List B) → blocks_in (map Some blocks) ≡ blocks
  blocks_in_all [] = refl
  blocks_in_all (x ∷ xs) = ap (λ (ys : List B). x ∷ ys) (blocks_in_all xs)

  -- one slot more
  blocks_in_more : (slots : List (Option B)) (slot : Option B) → blocks_in (slots ++ slot ∷ []) ≡ blocks_in slots ++ option_to_list slot
  blocks_in_more slots None = filter_map-append (λ (s : Option B). s) slots (None ∷ [])
  blocks_in_more slots (Some block) = filter_map-append (λ (s : Option B). s) slots (Some block ∷ [])

  turned_round : (ys : List B) (slot : Option B) → reverse (ys ++ option_to_list slot) ≡ option_to_list slot ++ reverse ys
  turned_round ys None = ap reverse (append-nil ys)
  turned_round ys (Some block) = reverse-append ys (block ∷ [])

  few : (slot : Option B) → length (option_to_list slot) ≤ 1
  few None = omega arith
  few (Some block) = omega arith

  pub one_longer : (slot : Option B) (ys zs : List B) → zs ≡ ys ++ option_to_list slot → length zs ≤ length ys + 1
  one_longer slot ys zs pushed = let one = few slot in let many : length zs ≡ length ys + length (option_to_list slot) = ap length pushed ∙ length-append ys (option_to_list slot) in omega arith

  -- the last slot is popped, and its block, if it has one, comes to the end of the list
  pub drained : (all before after : List (Option B)) (slot : Option B) (ys zs : List B) → blocks_in all ≡ blocks_in before ++ reverse ys → before ≡ after ++ slot ∷ [] → zs ≡ ys ++ option_to_list slot
      → blocks_in all ≡ blocks_in after ++ reverse zs
  drained all before after slot ys zs was popped pushed =
      was
      ∙ ap (λ (bs : List B). bs ++ reverse ys) (ap blocks_in popped ∙ blocks_in_more after slot)
      ∙ append_assoc (blocks_in after) (option_to_list slot) (reverse ys)
      ∙ ap (λ (bs : List B). blocks_in after ++ bs) (sym (turned_round ys slot) ∙ ap reverse (sym pushed))

  -- the next slot is taken
  pub taken : (slots : List (Option B)) (leaf : ℕ) (slot : Option B) (ys zs : List B) → get_elem? slots leaf ≡ some slot → ys ≡ blocks_in (take leaf slots) → zs ≡ ys ++ option_to_list slot → zs ≡ blocks_in (take (leaf + 1) slots)
  taken slots leaf slot ys zs at was pushed =
      pushed
      ∙ ap (λ (bs : List B). bs ++ option_to_list slot) was
      ∙ sym (blocks_in_more (take leaf slots) slot)
      ∙ ap (λ (s : Option B). blocks_in (take leaf slots ++ s ∷ [])) (sym (elem_or slots leaf slot at))
      ∙ ap blocks_in (sym (take_more slots leaf slot (elem_within slots leaf slot at)))

  -- where each slot has a block, the slots are those of the blocks
  all_there : (slots : List (Option B)) → ((leaf : ℕ) → leaf < length slots → (block : B) × (slice_get slots leaf ≡ Some (Some block))) → slots ≡ map Some (blocks_in slots)
  all_there [] each = refl
  all_there (None ∷ slots) each = let first = each 0 (omega arith) in absurd (none-some first.0 (same_Some None (Some first.0) first.1))
  all_there (Some x ∷ slots) each = ap (λ (ys : List (Option B)). Some x ∷ ys) (all_there slots (λ leaf l. each (suc leaf) (omega arith)))

  there : (xs : List B) (i : ℕ) → i < length xs → (x : B) × (slice_get xs i ≡ Some x) × (get_elem? (map Some xs) i ≡ some (Some x))
  there [] i l = absurd (omega arith)
  there (x ∷ xs) zero l = (x, refl, refl)
  there (x ∷ xs) (suc i) l = there xs i (omega arith)

  module _ (shape : Shape) (fits : ℕ → B → Type 0) (done : B → List ℕ) where
    -- fresh blocks stand in fresh slots
    pub fresh_slots : (blocks : List B) → AreFresh shape fits done blocks → AreFreshSlots shape fits done (map Some blocks)
    fresh_slots blocks fresh = record {
      one_each = length-map blocks Some ∙ fresh.fitting.one_each;
      each = λ leaf l.
          let at = there blocks leaf (subst (λ (n : ℕ). leaf < n) (sym fresh.fitting.one_each) l) in
          let same : get_or blocks leaf at.0 ≡ at.0 = get_or_from_slice_get blocks leaf at.0 at.0 at.1 in
          record {
            block = at.0;
            at = at.2;
            good = record { fitting = subst (fits leaf) same (fresh.fitting.each leaf at.0 l); none_done = ap done (sym same) ∙ fresh.none_done leaf at.0 l };
          };
    }

    -- what precedes a task goes by its edges
    along : (claimed : ℕ → Type 0) → ((before after : ℕ) → before < length shape.tasks → after < length shape.tasks → IsEdge shape before after → claimed after → claimed before) → IsShape shape
        → (before : ℕ) (path : List ℕ) (after : ℕ) → before < length shape.tasks → IsPath shape before path after → claimed after → claimed before
    along claimed step laws before [] after l path c = step before after l ((laws.tasks before l).later after path).1 path c
    along claimed step laws before (task ∷ path) after l p c =
        let m = ((laws.tasks before l).later task p.0).1 in
        step before task l m p.0 (along claimed step laws task path after m p.1 c)

    -- the blocks of a closed table are returned
    pub returned_blocks : (known : List SeatView) (words : List ℕ) (slots : List (Option B)) → IsShape shape → IsClosed shape fits done known words slots → AreReturned shape fits done words (blocks_in slots)
    returned_blocks known words slots laws closed =
        let all : slots ≡ map Some (blocks_in slots) = all_there slots (λ leaf l. let r = closed.each leaf (subst (λ (n : ℕ). leaf < n) closed.one_each l) in (r.block, get_from_elem slots leaf (Some r.block) r.at)) in
        let many : length (blocks_in slots) ≡ shape.leaves = sym (length-map (blocks_in slots) Some) ∙ ap length (sym all) ∙ closed.one_each in
        let good : (leaf : ℕ) (d : B) → leaf < shape.leaves → IsReturned shape fits done words leaf (get_or (blocks_in slots) leaf d) = λ leaf d l.
        let r = closed.each leaf l in
        let e = slice_get-get_or (blocks_in slots) leaf d (subst (λ (n : ℕ). leaf < n) (sym many) l) in
        let at : slice_get slots leaf ≡ Some (Some (get_or (blocks_in slots) leaf d)) =
        ap (λ (ss : List (Option B)). slice_get ss leaf) all ∙ slice_get-map Some (blocks_in slots) leaf ∙ ap (option_map Some) e in
        let same : r.block ≡ get_or (blocks_in slots) leaf d =
        same_Some r.block (get_or (blocks_in slots) leaf d) (same_Some (Some r.block) (Some (get_or (blocks_in slots) leaf d)) (sym (get_from_elem slots leaf (Some r.block) r.at) ∙ at)) in
        subst (IsReturned shape fits done words leaf) same r.good in
        record {
          tasks = record { fitting = record { one_each = many; each = λ leaf d l. (good leaf d l).fitting }; tasks = λ leaf d l task. let both = (good leaf d l).tasks task in (λ c. let was = both.0 c in ((closed.within task was.0, was.0), was.1), λ h. both.1 (h.0.1, h.1)) };
          released = closed.released;
          in_order = λ before after l p taken. along (IsTaken shape words) closed.in_order laws before p.0 after l p.1 taken;
        }
