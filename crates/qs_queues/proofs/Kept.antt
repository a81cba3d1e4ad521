-- Each of the four kinds of step keeps the rule.
use Rattle.std.proofs.Common.{◌≡◌, ◌≢◌, ℕ, ◌+◌, ◌-◌, ◌%◌, ◌^◌, ◌<◌, ◌≤◌, ◌==◌, ◌&&◌, cond, Bool, eqb, List, [], ◌∷◌, ◌++◌, length, set, slice_get, slice_index, sum_by, count_by, Contains, Some, None, Option, refl, sym, ap, ap₂, ◌∙◌, subst, inl, inr, length-set, length-append, eq-eqb, ne_eqb, eq-zero-or-pos, get_or-set_same, get_or-set_other, arith}
use Rattle.std.proofs.lemmas.Bool.{cases_eq}
use Rattle.std.proofs.lemmas.List.Sums.{sum_by_push}
use Rattle.std.proofs.lemmas.Option.{none-some, same_Some, slice_get_within}
use mathlib.Core.Option.{none, some}
use lib.ListN.{get_elem?}
use prog.Atomic.{either}
use Rattle.atomic_table.specs.Table.{State, Me, stepped, Allows}
use Rattle.atomic_table.specs.Table as table
use Rattle.atomic_table.proofs.Lists.{at_set, set_else, set_here}
use Rattle.std.proofs.lemmas.List.Elements.{Contains-push_cases}
use Rattle.lists.proofs.Places.{get_from_Contains, slice_get-append_left}
use Rattle.lists.proofs.Sums.{same_place, some_share}
use Rattle.qs_heap.specs.Heap.{Heap}
use Rattle.qs_queues.specs.declared.view.Held.{Held}
use Rattle.qs_queues.specs.declared.view.QueueNote.{QueueNote}
use Rattle.qs_queues.specs.declared.view.QueueNote.TheVariants.{Locked, Unlocked, Loaded}
use Rattle.qs_queues.specs.declared.view.QueueView.{QueueView}
use Rattle.qs_queues.specs.Views.{with_less, with_note}
use Rattle.qs_queues.specs.Rule.{Fits, Hold, IsChain, IsQueueFree, IsHeld, IsRightHeap, ShowsQueues, holders_of, holds_one, is_unlock, last_left, unlocks_of}
use Rattle.qs_queues.specs.inner.Plays.{HasLocked, loaded, locked, subtracted, unlocked}
use Rattle.lists.proofs.Words.{elem_from_get, get_from_elem, sum_set}
use Rattle.qs_queues.proofs.Histories.{chain_more, held_counts, last_here, last_more, other_counts, right_by}

-- what the first slot that is carried holds
abbrev front_of : Option Heap → List (ℕ × Option Heap) → Option Heap
front_of d [] = d
front_of d (x ∷ xs) = x.1

module _ (queues room tasks : ℕ) where
  abbrev Rule : State (Option Heap) QueueView → Type 0
  Rule = ShowsQueues queues room tasks

  module _ (s : State (Option Heap) QueueView) (rule : Rule s) (seat : ℕ) (v : QueueView) (is : get_elem? s.views seat ≡ some v) where
    -- a view more of the same notes but one that is no unlock counts the same unlocks
    locks_count : (queue number q seen : ℕ) (o : Option Held) → unlocks_of queue number (set s.views seat (with_note v o (Locked q seen))) ≡ unlocks_of queue number s.views
    locks_count queue number q seen o =
        let f : QueueView → ℕ = λ u. count_by (is_unlock queue number) u.notes in
        let a = sum_set f s.views seat v (with_note v o (Locked q seen)) is in
        let b = sum_by_push (λ n. cond {A = ℕ} (is_unlock queue number n) 1 0) v.notes (Locked q seen) in
        omega arith

    more_notes : (history : ℕ → List Hold) (note : QueueNote) (n : QueueNote) → ((m : QueueNote) → Contains v.notes m → Fits history m) → Fits history note → Contains (v.notes ++ note ∷ []) n → Fits history n
    more_notes history note n old new c = elim (Contains-push_cases v.notes note n c) [ inl q ↦ old n q | inr e ↦ subst (Fits history) e new ]

    -- how many hold a queue after the seat's part of it changed
    holders_then : (queue : ℕ) (w : QueueView) → holders_of queue (set s.views seat w) + holds_one queue v.held ≡ holders_of queue s.views + holds_one queue w.held
    holders_then queue w = sum_set (λ (u : QueueView). holds_one queue u.held) s.views seat v w is

    same_left : (w : QueueView) → w.subtractions ≡ v.subtractions → sum_by (λ (u : QueueView). u.subtractions) (set s.views seat w) ≡ sum_by (λ (u : QueueView). u.subtractions) s.views
    same_left w e = let a = sum_set (λ (u : QueueView). u.subtractions) s.views seat v w is in omega arith

    limits_then : (w : QueueView) → w.room ≡ v.room → w.tasks ≡ v.tasks → (j : ℕ) (u : QueueView) → get_elem? (set s.views seat w) j ≡ some u → (u.room ≡ room) × (u.tasks ≡ tasks)
    limits_then w r t j u e = elim (at_set s.views seat j w u e) [
      | inl p ↦
          let l = rule.limits seat v is in
          (ap (λ (x : QueueView). x.room) (sym p.1) ∙ r ∙ l.0, ap (λ (x : QueueView). x.tasks) (sym p.1) ∙ t ∙ l.1)
      | inr p ↦ rule.limits j u p.1
    ]

    -- an unlock of the next number has not been made yet
    no_unlock : (queue number : ℕ) → length (rule.history queue) < number → unlocks_of queue number s.views ≡ 0
    no_unlock queue number l = elim (eq-zero-or-pos (unlocks_of queue number s.views)) [
      | inl z ↦ z
      | inr more ↦
          let u = some_share (λ (u : QueueView). count_by (is_unlock queue number) u.notes) s.views more in
          let n = some_share (λ n. cond {A = ℕ} (is_unlock queue number n) 1 0) u.0.notes u.2 in
          let g = get_from_Contains s.views u.0 u.1 in
          absurd (no_note queue number l n.0 n.2 (rule.noted g.0 u.0 n.0 (elem_from_get s.views g.0 u.0 g.1) n.1))
    ]
      where
        no_note : (queue number : ℕ) → length (rule.history queue) < number → (n : QueueNote) → 0 < cond {A = ℕ} (is_unlock queue number n) 1 0 → Fits rule.history n → ⊥
        no_note queue number l (Locked q seen) p f = absurd (omega arith)
        no_note queue number l (Loaded left) p f = absurd (omega arith)
        no_note queue number l (Unlocked q k found left) p f = elim (cases_eq q queue) [
          | inl e ↦ elim (cases_eq k number) [
            | inl e' ↦
                let w = slice_get_within (rule.history q) (k - 1) (record { found = found; left = left }) f.1 in
                let same : length (rule.history q) ≡ length (rule.history queue) = ap (λ x. length (rule.history x)) e in
                let pos = f.0 in
                absurd (omega arith)
            | inr n ↦ absurd (let z : cond {A = ℕ} (eqb q queue && eqb k number) 1 0 ≡ 0 = ap₂ (λ (x y : Bool). cond {A = ℕ} (x && y) 1 0) (eq-eqb q queue e) (ne_eqb k number n) in omega arith)
          ]
          | inr n ↦ absurd (let z : cond {A = ℕ} (eqb q queue && eqb k number) 1 0 ≡ 0 = ap (λ (x : Bool). cond {A = ℕ} (x && eqb k number) 1 0) (ne_eqb q queue n) in omega arith)
        ]

    -- an unlock
    module _ (h : Held) (heap : Heap) (holds : v.held ≡ Some h) (right : IsRightHeap room tasks heap) where
      abbrev queue : ℕ
      queue = h.queue

      abbrev hold : Hold
      hold = record { found = h.found; left = heap.entries }

      abbrev note : QueueNote
      note = Unlocked queue (h.before + 1) h.found heap.entries

      abbrev free_view : QueueView
      free_view = with_note v None note

      known : IsHeld queues rule.history h
      known = rule.held seat v h is holds

      abbrev longer_history : ℕ → List Hold
      longer_history q = cond (eqb q queue) (rule.history q ++ hold ∷ []) (rule.history q)

      history_here : (q : ℕ) → q ≡ queue → longer_history q ≡ rule.history q ++ hold ∷ []
      history_here q e = ap (λ (b : Bool). cond {A = List Hold} b (rule.history q ++ hold ∷ []) (rule.history q)) (eq-eqb q queue e)

      history_else : (q : ℕ) → q ≢ queue → longer_history q ≡ rule.history q
      history_else q n = ap (λ (b : Bool). cond {A = List Hold} b (rule.history q ++ hold ∷ []) (rule.history q)) (ne_eqb q queue n)

      abbrev after : State (Option Heap) QueueView
      after = stepped s (queue + 1) 0 seat ((queue, Some heap) ∷ []) free_view table.gives

      one_here : holds_one queue v.held ≡ 1
      one_here = held_counts queue v.held h holds refl

      none_here : holders_of queue after.views ≡ 0
      none_here = let a = holders_then queue free_view in let b = rule.one queue in let c = one_here in omega arith

      same_there : (q : ℕ) → q ≢ queue → holders_of q after.views ≡ holders_of q s.views
      same_there q n = let a = holders_then q free_view in let b = other_counts q v.held h holds (λ e. n (sym e)) in omega arith

      old_fits : (m : QueueNote) → Fits rule.history m → Fits longer_history m
      old_fits (Locked q seen) f = tt
      old_fits (Loaded left) f = tt
      old_fits (Unlocked q k found left) f = (
        f.0,
        elim (cases_eq q queue) [
          | inl e ↦ ap (λ hs. slice_get hs (k - 1)) (history_here q e) ∙ slice_get-append_left (rule.history q) (hold ∷ []) (k - 1) (record { found = found; left = left }) f.1
          | inr n ↦ ap (λ hs. slice_get hs (k - 1)) (history_else q n) ∙ f.1
        ],
      )

      new_fits : Fits longer_history note
      new_fits = (omega arith, ap (λ hs. slice_get hs (h.before + 1 - 1)) (history_here queue refl) ∙ last_here (rule.history queue) hold (h.before + 1 - 1) (let b = known.before in omega arith))

      unlocks_then : (q number : ℕ) → unlocks_of q number after.views ≡ unlocks_of q number s.views + cond {A = ℕ} (eqb queue q && eqb (h.before + 1) number) 1 0
      unlocks_then q number =
          let f : QueueView → ℕ = λ u. count_by (is_unlock q number) u.notes in
          let a = sum_set f s.views seat v free_view is in
          let b : f free_view ≡ f v + cond {A = ℕ} (eqb queue q && eqb (h.before + 1) number) 1 0 = sum_by_push (λ n. cond {A = ℕ} (is_unlock q number n) 1 0) v.notes note in
          omega arith

      once_then : (q number : ℕ) → 0 < number → number ≤ length (longer_history q) → unlocks_of q number after.views ≡ 1
      once_then q number pos l = elim (cases_eq q queue) [
        | inl e ↦
            let long : length (longer_history q) ≡ length (rule.history q) + 1 = ap length (history_here q e) ∙ length-append (rule.history q) (hold ∷ []) in
            let before : h.before ≡ length (rule.history q) = known.before ∙ ap (λ x. length (rule.history x)) (sym e) in
            let a = unlocks_then q number in
            elim (cases_eq (h.before + 1) number) [
              | inl e' ↦
                  let z = no_unlock q number (omega arith) in
                  let c : cond {A = ℕ} (eqb queue q && eqb (h.before + 1) number) 1 0 ≡ 1 = ap₂ (λ (x y : Bool). cond {A = ℕ} (x && y) 1 0) (eq-eqb queue q (sym e)) (eq-eqb (h.before + 1) number e') in
                  omega arith
              | inr n ↦
                  let o = rule.once q number pos (omega arith) in
                  let c : cond {A = ℕ} (eqb queue q && eqb (h.before + 1) number) 1 0 ≡ 0 = ap₂ (λ (x y : Bool). cond {A = ℕ} (x && y) 1 0) (eq-eqb queue q (sym e)) (ne_eqb (h.before + 1) number n) in
                  omega arith
            ]
        | inr n ↦
            let a = unlocks_then q number in
            let o = rule.once q number pos (subst (λ (hs : List Hold). number ≤ length hs) (history_else q n) l) in
            let c : cond {A = ℕ} (eqb queue q && eqb (h.before + 1) number) 1 0 ≡ 0 = ap (λ (x : Bool). cond {A = ℕ} (x && eqb (h.before + 1) number) 1 0) (ne_eqb queue q (λ e. n (sym e))) in
            omega arith
      ]

      two_hold : (j : ℕ) (u : QueueView) (g : Held) → j ≢ seat → get_elem? s.views j ≡ some u → u.held ≡ Some g → g.queue ≡ queue → ⊥
      two_hold j u g n e hg q =
          n (same_place (λ (x : QueueView). holds_one queue x.held) s.views j seat u v (get_from_elem s.views j u e) (get_from_elem s.views seat v is)
          (let a = held_counts queue u.held g hg q in omega arith) (let a = one_here in omega arith) (rule.one queue))

      pub unlock_kept : Rule after
      unlock_kept = record {
        history = longer_history;
        wide = length-set s.words (queue + 1) 0 ∙ rule.wide;
        deep = length-set s.homes queue (some (Some heap)) ∙ rule.deep;
        chained = λ q. elim (cases_eq q queue) [
          | inl e ↦ subst (IsChain []) (sym (history_here q e)) (chain_more [] (rule.history q) hold (rule.chained q) (known.found ∙ ap (λ x. last_left [] (rule.history x)) (sym e)))
          | inr n ↦ subst (IsChain []) (sym (history_else q n)) (rule.chained q)
        ];
        noted = λ j u m e c. elim (at_set s.views seat j free_view u e) [
          | inl p ↦ more_notes longer_history note m (λ m' c'. old_fits m' (rule.noted seat v m' is c')) new_fits (subst (λ (x : QueueView). Contains x.notes m) (sym p.1) c)
          | inr p ↦ old_fits m (rule.noted j u m p.1 c)
        ];
        once = once_then;
        words = λ q l. elim (cases_eq q queue) [
          | inl e ↦
              let w = get_or-set_same s.words (queue + 1) 0 0 (let a = rule.wide in let b = known.is_queue in omega arith) in
              let z = none_here in
              subst (λ (x : ℕ). slice_index after.words (x + 1) ≡ holders_of x after.views) (sym e) (w ∙ sym z)
          | inr n ↦ get_or-set_other s.words (queue + 1) (q + 1) 0 0 (λ e. n (omega arith)) ∙ rule.words q l ∙ sym (same_there q n)
        ];
        one = λ q. elim (cases_eq q queue) [
          | inl e ↦ subst (λ (x : ℕ). holders_of x after.views ≤ 1) (sym e) (let z = none_here in omega arith)
          | inr n ↦ let a = same_there q n in let b = rule.one q in omega arith
        ];
        limits = limits_then free_view refl refl;
        held = λ j u g e hg. elim (at_set s.views seat j free_view u e) [
          | inl p ↦ absurd (none-some g (ap (λ (x : QueueView). x.held) p.1 ∙ hg))
          | inr p ↦
              let was = rule.held j u g p.1 hg in
              let same = history_else g.queue (two_hold j u g p.0 p.1 hg) in
              record { is_queue = was.is_queue; before = was.before ∙ sym (ap length same); found = was.found ∙ sym (ap (last_left []) same) }
        ];
        free = λ q l z. elim (cases_eq q queue) [
          | inl e ↦
              subst (IsQueueFree room tasks longer_history after.homes) (sym e)
              (record {
                heap = heap;
                right = right;
                at = set_here s.homes queue (some (Some heap)) (let a = rule.deep in let b = known.is_queue in omega arith);
                entries = sym (ap (last_left []) (history_here queue refl) ∙ last_more [] (rule.history queue) hold);
              })
          | inr n ↦
              let was = rule.free q l (sym (same_there q n) ∙ z) in
              record { heap = was.heap; right = was.right; at = set_else s.homes queue q (some (Some heap)) n ∙ was.at; entries = was.entries ∙ sym (ap (last_left []) (history_else q n)) }
        ];
        left =
            ap₂ (λ (x y : ℕ). (x + y) % 2 ^ 64) (get_or-set_other s.words (queue + 1) 0 0 0 (λ e. absurd (omega arith))) (same_left free_view refl)
            ∙ rule.left;
      }

    -- a lock
    module _ (queue : ℕ) (is_queue : queue < queues) (none_held : v.held ≡ None) where
      abbrev seen : ℕ
      seen = slice_index s.words (queue + 1)

      -- of a queue that is held
      abbrev busy : QueueView
      busy = with_note v v.held (Locked queue seen)

      abbrev stayed : State (Option Heap) QueueView
      stayed = stepped s (queue + 1) seen seat [] busy table.keeps

      same_holders : (q : ℕ) → holders_of q stayed.views ≡ holders_of q s.views
      same_holders q = let a = holders_then q busy in omega arith

      pub busy_kept : Rule stayed
      busy_kept = record {
        history = rule.history;
        wide = length-set s.words (queue + 1) seen ∙ rule.wide;
        deep = rule.deep;
        chained = rule.chained;
        noted = λ j u m e c. elim (at_set s.views seat j busy u e) [
          | inl p ↦ more_notes rule.history (Locked queue seen) m (λ m' c'. rule.noted seat v m' is c') tt (subst (λ (x : QueueView). Contains x.notes m) (sym p.1) c)
          | inr p ↦ rule.noted j u m p.1 c
        ];
        once = λ q number pos l. locks_count q number queue seen v.held ∙ rule.once q number pos l;
        words = λ q l. elim (cases_eq q queue) [
          | inl e ↦
              let w = get_or-set_same s.words (queue + 1) seen 0 (let a = rule.wide in omega arith) in
              subst (λ (x : ℕ). slice_index stayed.words (x + 1) ≡ holders_of x stayed.views) (sym e) (w ∙ rule.words queue is_queue ∙ sym (same_holders queue))
          | inr n ↦ get_or-set_other s.words (queue + 1) (q + 1) seen 0 (λ e. n (omega arith)) ∙ rule.words q l ∙ sym (same_holders q)
        ];
        one = λ q. let a = same_holders q in let b = rule.one q in omega arith;
        limits = limits_then busy refl refl;
        held = λ j u g e hg. elim (at_set s.views seat j busy u e) [
          | inl p ↦ rule.held seat v g is (ap (λ (x : QueueView). x.held) p.1 ∙ hg)
          | inr p ↦ rule.held j u g p.1 hg
        ];
        free = λ q l z. rule.free q l (sym (same_holders q) ∙ z);
        left = ap₂ (λ (x y : ℕ). (x + y) % 2 ^ 64) (get_or-set_other s.words (queue + 1) 0 seen 0 (λ e. absurd (omega arith))) (same_left busy refl) ∙ rule.left;
      }

      -- of a queue that is free
      module _ (zero_seen : seen ≡ 0) where
        pub none_holds : holders_of queue s.views ≡ 0
        none_holds = sym (rule.words queue is_queue) ∙ zero_seen

        abbrev pub home : IsQueueFree room tasks rule.history s.homes queue
        home = rule.free queue is_queue none_holds

        abbrev pub taken : Held
        taken = record { queue = queue; before = length (rule.history queue); found = home.heap.entries }

        abbrev pub holder : QueueView
        holder = with_note v (Some taken) (Locked queue seen)

        abbrev pub locked_state : State (Option Heap) QueueView
        locked_state = stepped s (queue + 1) 1 seat [] holder (table.takes queue (Some home.heap))

        none_before : (q : ℕ) → holds_one q v.held ≡ 0
        none_before q = ap (holds_one q) none_held

        one_now : holders_of queue locked_state.views ≡ 1
        one_now = let a = holders_then queue holder in let b = none_before queue in let c = held_counts queue (Some taken) taken refl refl in let d = none_holds in omega arith

        same_else : (q : ℕ) → q ≢ queue → holders_of q locked_state.views ≡ holders_of q s.views
        same_else q n = let a = holders_then q holder in let b = none_before q in let c = other_counts q (Some taken) taken refl (λ e. n (sym e)) in omega arith

        pub lock_kept : Rule locked_state
        lock_kept = record {
          history = rule.history;
          wide = length-set s.words (queue + 1) 1 ∙ rule.wide;
          deep = length-set s.homes queue none ∙ rule.deep;
          chained = rule.chained;
          noted = λ j u m e c. elim (at_set s.views seat j holder u e) [
            | inl p ↦ more_notes rule.history (Locked queue seen) m (λ m' c'. rule.noted seat v m' is c') tt (subst (λ (x : QueueView). Contains x.notes m) (sym p.1) c)
            | inr p ↦ rule.noted j u m p.1 c
          ];
          once = λ q number pos l. locks_count q number queue seen (Some taken) ∙ rule.once q number pos l;
          words = λ q l. elim (cases_eq q queue) [
            | inl e ↦
                let w = get_or-set_same s.words (queue + 1) 1 0 (let a = rule.wide in omega arith) in
                subst (λ (x : ℕ). slice_index locked_state.words (x + 1) ≡ holders_of x locked_state.views) (sym e) (w ∙ sym one_now)
            | inr n ↦ get_or-set_other s.words (queue + 1) (q + 1) 1 0 (λ e. n (omega arith)) ∙ rule.words q l ∙ sym (same_else q n)
          ];
          one = λ q. elim (cases_eq q queue) [
            | inl e ↦ subst (λ (x : ℕ). holders_of x locked_state.views ≤ 1) (sym e) (let z = one_now in omega arith)
            | inr n ↦ let a = same_else q n in let b = rule.one q in omega arith
          ];
          limits = limits_then holder refl refl;
          held = λ j u g e hg. elim (at_set s.views seat j holder u e) [
            | inl p ↦
                let same : taken ≡ g = same_Some taken g (ap (λ (x : QueueView). x.held) p.1 ∙ hg) in
                subst (IsHeld queues rule.history) same (record { is_queue = is_queue; before = refl; found = home.entries })
            | inr p ↦ rule.held j u g p.1 hg
          ];
          free = λ q l z. elim (cases_eq q queue) [
            | inl e ↦ absurd (let a : holders_of queue locked_state.views ≡ 0 = subst (λ (x : ℕ). holders_of x locked_state.views ≡ 0) e z in let b = one_now in omega arith)
            | inr n ↦
                let was = rule.free q l (sym (same_else q n) ∙ z) in
                record { heap = was.heap; right = was.right; at = set_else s.homes queue q none n ∙ was.at; entries = was.entries }
          ];
          left = ap₂ (λ (x y : ℕ). (x + y) % 2 ^ 64) (get_or-set_other s.words (queue + 1) 0 1 0 (λ e. absurd (omega arith))) (same_left holder refl) ∙ rule.left;
        }

  -- a lock may be tried
  pub lock_allowed : (slots seat : ℕ) (me : Me (Option Heap) QueueView) (queue : ℕ) → queue < queues → me.0.held ≡ None → me.1 ≡ []
      → Allows Rule slots seat me (queue + 1) (λ n. either (n == 0) 1 n) (locked (table.step slots (queue + 1) 0 1 none) me)
  lock_allowed slots seat me queue is_queue none_held bare s rule deep is small =
      let n : ℕ = slice_index s.words (queue + 1) in
      let bit : n < 2 = (let a = rule.words queue is_queue in let b = rule.one queue in omega arith) in
      elim (cases_eq n 0) [
        | inl z ↦
            (let h = home s rule seat me.0 is queue is_queue none_held z in
            let w : QueueView = holder s rule seat me.0 is queue is_queue none_held z in (
              w,
              table.takes queue (Some h.heap),
              h.at,
              subst (λ (c : List (ℕ × Option Heap)). Rule (stepped s (queue + 1) (either (n == 0) 1 n) seat c w (table.takes queue (Some h.heap)))) (sym bare)
                  (subst (λ (b : Bool). Rule (stepped s (queue + 1) (either b 1 n) seat [] w (table.takes queue (Some h.heap)))) (sym (eq-eqb n 0 z)) (lock_kept s rule seat me.0 is queue is_queue none_held z)),
              λ q e. subst (λ (x : ℕ). HasLocked x me n (w, (queue, Some h.heap) ∷ me.1)) (same_queue queue q e)
                  (record {
                    bit = bit;
                    busy = λ ne. absurd (ne z);
                    got = λ _. record {
                      hold = taken s rule seat me.0 is queue is_queue none_held z;
                      heap = h.heap;
                      after = ap (λ (k : ℕ). (with_note me.0 (Some (taken s rule seat me.0 is queue is_queue none_held z)) (Locked queue k), (queue, Some h.heap) ∷ me.1)) z;
                      of_queue = refl;
                      found = refl;
                      right = let l = rule.limits seat me.0 is in right_by room tasks me.0.room me.0.tasks h.heap (sym l.0) (sym l.1) h.right;
                    };
                  }),
            ))
        | inr ne ↦
            (let w : QueueView = busy s rule seat me.0 is queue is_queue none_held in (
              w,
              table.keeps,
              tt,
              subst (λ (c : List (ℕ × Option Heap)). Rule (stepped s (queue + 1) (either (n == 0) 1 n) seat c w table.keeps)) (sym bare)
                  (subst (λ (b : Bool). Rule (stepped s (queue + 1) (either b 1 n) seat [] w table.keeps)) (sym (ne_eqb n 0 ne)) (busy_kept s rule seat me.0 is queue is_queue none_held)),
              λ q e. subst (λ (x : ℕ). HasLocked x me n (w, me.1)) (same_queue queue q e)
                  (record { bit = bit; busy = λ _. refl; got = λ z. absurd (ne z) }),
            ))
      ]
    where
      same_queue : (a b : ℕ) → a + 1 ≡ b + 1 → a ≡ b
      same_queue a b e = omega arith

  -- an unlock may be made
  pub unlock_allowed : (slots seat : ℕ) (me : Me (Option Heap) QueueView) (queue new : ℕ) (h : Held) (heap : Heap) → me.0.held ≡ Some h → h.queue ≡ queue → me.1 ≡ (queue, Some heap) ∷ [] → IsRightHeap me.0.room me.0.tasks heap
      → Allows Rule slots seat me (queue + 1) (λ _. 0) (λ _. unlocked (table.step slots (queue + 1) 0 0 none) me new)
  unlock_allowed slots seat me queue new h heap holds of_queue carried own s rule deep is small =
      let l = rule.limits seat me.0 is in
      let right : IsRightHeap room tasks heap = right_by me.0.room me.0.tasks room tasks heap l.0 l.1 own in
      let w : QueueView = free_view s rule seat me.0 is h heap holds right in (
        w,
        table.gives,
        tt,
        subst (λ (c : List (ℕ × Option Heap)). Rule (stepped s (queue + 1) 0 seat c w table.gives)) (sym carried)
            (subst (λ (q : ℕ). Rule (stepped s (q + 1) 0 seat ((q, Some heap) ∷ []) w table.gives)) of_queue (unlock_kept s rule seat me.0 is h heap holds right)),
        λ q e g p hg cp.
            let number : queue ≡ q = omega arith in
            let same_held : h ≡ g = same_Some h g (sym holds ∙ hg) in
            let same_front : (queue, Some heap) ∷ [] ≡ (q, Some p) ∷ [] = sym carried ∙ cp in
            let same_heap : heap ≡ p = same_Some heap p (ap (front_of (Some p)) same_front) in
            let same_q : h.queue ≡ q = of_queue ∙ number in
            ap₂ (λ (x : QueueView) (y : List (ℕ × Option Heap)). (x, y))
            (ap (λ (x : Held × Heap × ℕ). with_note me.0 None (Unlocked x.2 (x.0.before + 1) x.0.found x.1.entries)) (λ i. (same_held i, same_heap i, same_q i)))
            (ap table.rest carried),
      )

  module _ (s : State (Option Heap) QueueView) (rule : Rule s) (seat : ℕ) (v : QueueView) (is : get_elem? s.views seat ≡ some v) where
    abbrev word : ℕ
    word = slice_index s.words 0

    -- a step on the word of tasks left, which holds and gives no queue
    counted_kept : (n : ℕ) (w : QueueView) → w.room ≡ v.room → w.tasks ≡ v.tasks → w.held ≡ v.held
        → ((queue number : ℕ) → count_by (is_unlock queue number) w.notes ≡ count_by (is_unlock queue number) v.notes)
        → ((m : QueueNote) → Contains w.notes m → Fits rule.history m)
        → (n + w.subtractions) % 2 ^ 64 ≡ (word + v.subtractions) % 2 ^ 64
        → Rule (stepped s 0 n seat [] w table.keeps)
    counted_kept n w same_room same_tasks same_held same_unlocks fits same_count = record {
      history = rule.history;
      wide = length-set s.words 0 n ∙ rule.wide;
      deep = rule.deep;
      chained = rule.chained;
      noted = λ j u m e c. elim (at_set s.views seat j w u e) [ inl p ↦ fits m (subst (λ (x : QueueView). Contains x.notes m) (sym p.1) c) | inr p ↦ rule.noted j u m p.1 c ];
      once = λ q number pos l.
          let f : QueueView → ℕ = λ u. count_by (is_unlock q number) u.notes in
          let a = sum_set f s.views seat v w is in
          let b = same_unlocks q number in
          let o = rule.once q number pos l in
          omega arith;
      words = λ q l. get_or-set_other s.words 0 (q + 1) n 0 (λ e. absurd (omega arith)) ∙ rule.words q l ∙ sym (same_holders q);
      one = λ q. let a = same_holders q in let b = rule.one q in omega arith;
      held = λ j u g e hg. elim (at_set s.views seat j w u e) [
        | inl p ↦ rule.held seat v g is (sym same_held ∙ ap (λ (x : QueueView). x.held) p.1 ∙ hg)
        | inr p ↦ rule.held j u g p.1 hg
      ];
      free = λ q l z. rule.free q l (sym (same_holders q) ∙ z);
      limits = limits_then s rule seat v is w same_room same_tasks;
      left =
          let a = sum_set (λ (u : QueueView). u.subtractions) s.views seat v w is in
          let b : slice_index (set s.words 0 n) 0 ≡ n = get_or-set_same s.words 0 n 0 (let a = rule.wide in omega arith) in
          let c = rule.left in
          omega arith;
    }
      where
        same_holders : (q : ℕ) → holders_of q (set s.views seat w) ≡ holders_of q s.views
        same_holders q =
            let a = holders_then s rule seat v is q w in
            let b : holds_one q w.held ≡ holds_one q v.held = ap (holds_one q) same_held in
            omega arith

  -- a subtraction may be made
  pub subtract_allowed : (slots seat : ℕ) (me : Me (Option Heap) QueueView) → Allows Rule slots seat me 0 (λ n. (n + (2 ^ 64 - 1)) % 2 ^ 64) (subtracted (table.step slots 0 1 0 none) me)
  subtract_allowed slots seat me s rule deep is small = (
    with_less me.0,
    table.keeps,
    tt,
    counted_kept s rule seat me.0 is ((slice_index s.words 0 + (2 ^ 64 - 1)) % 2 ^ 64) (with_less me.0) refl refl refl (λ q n. refl) (λ m c. rule.noted seat me.0 m is c) (omega arith),
    refl,
  )

  -- a load may be made
  pub load_allowed : (slots seat : ℕ) (me : Me (Option Heap) QueueView) → Allows Rule slots seat me 0 (λ n. n) (loaded (table.step slots 0 0 0 none) me)
  load_allowed slots seat me s rule deep is small =
      let n : ℕ = slice_index s.words 0 in
      let w : QueueView = with_note me.0 me.0.held (Loaded n) in (
        w,
        table.keeps,
        tt,
        counted_kept s rule seat me.0 is n w refl refl refl
            (λ q number. let a = sum_by_push (λ m. cond {A = ℕ} (is_unlock q number m) 1 0) me.0.notes (Loaded n) in omega arith)
            (λ m. more_notes s rule seat me.0 is rule.history (Loaded n) m (λ m' c. rule.noted seat me.0 m' is c) tt) refl,
        refl,
      )
