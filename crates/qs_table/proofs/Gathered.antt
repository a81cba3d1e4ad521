-- Seats that are dealt one by one, and gathered again.
use Rattle.std.proofs.Common.{◌≡◌, ℕ, suc, ◌+◌, ◌-◌, ◌≤◌, List, [], ◌∷◌, ◌++◌, All, length, map, sum_by, Option, Some, sym, ap, ◌∙◌, arith}
use Rattle.std.specs.List.{range_with_len}
use Rattle.std.specs.Option.{option_to_list}
use Rattle.std.proofs.lemmas.List.{length-map, length_push}
use Rattle.std.proofs.lemmas.List.Elements.{All-cons, All-head, All-nil, All-tail}
use Rattle.std.proofs.lemmas.List.Sums.{sum_by-cons, sum_by_push}
use mathlib.Core.List.{map-append}
use Rattle.atomic_table.specs.Table.{Me}
use Rattle.atomic_table.specs.declared.shared.Seat.{Seat}
use Rattle.qs_table.specs.declared.view.Bundle.{Bundle}
use Rattle.qs_table.specs.declared.view.SeatView.{SeatView}
use Rattle.qs_table.specs.Seats.{IsNewSeat, TableView, TokenView, views_of}
use Rattle.qs_table.specs.Views.{all_seats, alone, fresh_seat}
use Rattle.qs_table.specs.inner.Plays.{first_alone, seat_in, without_first}
use Rattle.lists.proofs.Words.{length_is_sum}

module _ {X : Type 0} where
  -- a list that was popped
  pub all_before : (P : X → Type 0) (xs : List X) (x : X) → All P (xs ++ x ∷ []) → All P xs
  all_before P [] x a = All-nil P
  all_before P (y ∷ ys) x a = All-cons P y ys (All-head P y (ys ++ x ∷ []) a) (all_before P ys x (All-tail P y (ys ++ x ∷ []) a))

  pub all_last : (P : X → Type 0) (xs : List X) (x : X) → All P (xs ++ x ∷ []) → P x
  all_last P [] x a = All-head P x [] a
  all_last P (y ∷ ys) x a = all_last P ys x (All-tail P y (ys ++ x ∷ []) a)

  pub popped : (xs ys : List X) (given : Option X) (x : X) → xs ≡ ys ++ option_to_list given → given ≡ Some x → xs ≡ ys ++ x ∷ []
  popped xs ys given x is e = is ∙ ap (λ (o : Option X). ys ++ option_to_list o) e

  pub length_popped : (xs ys : List X) (x : X) → xs ≡ ys ++ x ∷ [] → length xs ≡ length ys + 1
  length_popped xs ys x is = let e = ap length is in let p = length_push ys x in omega arith

-- the seats that aren't dealt yet, at the i-th
abbrev pub undealt : {P : Type 0} → P → ℕ → ℕ → Bundle P
undealt plan i count = record { plan = Some plan; seats = map fresh_seat (range_with_len (i - 1) (count + 1 - i)) }

pub deals_all : {P : Type 0} (plan : P) (count : ℕ) → all_seats plan count ≡ undealt plan 1 count
deals_all plan count = ap (λ (n : ℕ). record { plan = Some plan; seats = map fresh_seat (range_with_len 0 n) }) same
  where
    same : count ≡ count + 1 - 1
    same = omega arith

module _ {P : Type 0} (plan : P) (i count : ℕ) (some : 1 ≤ i) (few : i ≤ count) where
  several : undealt plan i count ≡ record { plan = Some plan; seats = map fresh_seat (range_with_len (i - 1) (suc (count - i))) }
  several = ap (λ (n : ℕ). record { plan = Some plan; seats = map fresh_seat (range_with_len (i - 1) n) }) more
    where
      more : count + 1 - i ≡ suc (count - i)
      more = omega arith

  pub deals_first : first_alone (undealt plan i count) ≡ alone plan (fresh_seat (i - 1))
  deals_first = ap first_alone several

  pub deals_rest : without_first (undealt plan i count) ≡ undealt plan (i + 1) count
  deals_rest =
      ap without_first several
      ∙ λ k. record { plan = Some plan; seats = map fresh_seat (range_with_len (from k) (many k)) }
    where
      from : i - 1 + 1 ≡ i + 1 - 1
      from = omega arith

      many : count - i ≡ count + 1 - (i + 1)
      many = omega arith

-- the last one
pub deals_last : {P : Type 0} (plan : P) (i count : ℕ) → 1 ≤ i → i ≡ count → undealt plan i count ≡ alone plan (fresh_seat (i - 1))
deals_last plan i count some all = ap (λ (n : ℕ). record { plan = Some plan; seats = map fresh_seat (range_with_len (i - 1) n) }) one
  where
    one : count + 1 - i ≡ 1
    one = omega arith

-- a fresh seat is so at its own place
pub fresh_at : {S P : Type 0} (me : Me S (Bundle P)) (plan : P) (place : ℕ) → me.0 ≡ alone plan (fresh_seat place) → me.0 ≡ alone plan (fresh_seat (seat_in me.0).place)
fresh_at me plan place e = e ∙ ap (λ (k : ℕ). alone plan (fresh_seat k)) (sym (ap (λ (b : Bundle _). (seat_in b).place) e))

-- the token of a seat that was dealt
pub dealt_is_new : {S P : Type 0} (table : TableView P) (seat : Seat S (Bundle P)) (place : ℕ) → seat.table_id ≡ table.id → seat.me.0 ≡ alone table.plan (fresh_seat place)
    → IsNewSeat table (record { id = seat.table_id; plan = seat.me.0.plan; view = seat_in seat.me.0 })
dealt_is_new table seat place same e = record {
  of_table = record { same = same; plan_is = ap (λ (b : Bundle _). b.plan) e };
  fresh = ap seat_in (fresh_at seat.me table.plan place e);
}

-- a sum over the seats of tokens, of which the last was popped
sum_popped : {P : Type 0} (f : SeatView → ℕ) (all rest : List (TokenView P)) (last : TokenView P) → all ≡ rest ++ last ∷ [] → sum_by f (views_of all) ≡ sum_by f (views_of rest) + f last.view
sum_popped f all rest last is =
    ap (λ (ts : List (TokenView _)). sum_by f (views_of ts)) is
    ∙ ap (sum_by f) (map-append (λ (t : TokenView _). t.view) rest (last ∷ []))
    ∙ sum_by_push f (views_of rest) last.view

-- the last one is taken first, and then one more
pub first_gathered : {P : Type 0} (f : SeatView → ℕ) (all rest : List (TokenView P)) (last : TokenView P) (seats : List SeatView) → all ≡ rest ++ last ∷ [] → seats ≡ last.view ∷ []
    → sum_by f seats + sum_by f (views_of rest) ≡ sum_by f (views_of all)
first_gathered f all rest last seats is one =
    let s = ap (sum_by f) one ∙ sum_by-cons f last.view [] in
    let r = sum_popped f all rest last is in
    omega (arith, s, r)

pub more_gathered : {P : Type 0} (f : SeatView → ℕ) (total : ℕ) (all rest : List (TokenView P)) (last : TokenView P) (seats seats' : List SeatView) → all ≡ rest ++ last ∷ [] → seats' ≡ seats ++ last.view ∷ []
    → sum_by f seats + sum_by f (views_of all) ≡ total → sum_by f seats' + sum_by f (views_of rest) ≡ total
more_gathered f total all rest last seats seats' is both was =
    let s = ap (sum_by f) both ∙ sum_by_push f seats last.view in
    let r = sum_popped f all rest last is in
    omega (arith, s, r, was)

-- as many views as tokens
pub many_views : {P : Type 0} (tokens : List (TokenView P)) (seats : List SeatView) → ((f : SeatView → ℕ) → sum_by f seats ≡ sum_by f (views_of tokens)) → length seats ≡ length tokens
many_views tokens seats same =
    length_is_sum seats ∙ same (λ (v : SeatView). 1) ∙ sym (length_is_sum (views_of tokens)) ∙ length-map tokens (λ (t : TokenView _). t.view)
