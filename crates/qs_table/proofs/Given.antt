-- A seat that takes a cell, or gives it back.
use Rattle.std.proofs.Common.{◌≡◌, ◌≢◌, ℕ, suc, ◌+◌, ◌-◌, ◌%◌, ◌<◌, ◌==◌, Bool, false, ne_eqb, List, [], ◌∷◌, ◌++◌, length, slice_index, Contains, refl, sym, ap, ◌∙◌, subst, inl, inr, append_assoc, append-nil, arith}
use Rattle.std.proofs.lemmas.Bool.{cond-false}
use Rattle.std.proofs.lemmas.List.Elements.{All-append, All-cons, All-nil, filter_map-append}
use Rattle.std.proofs.lemmas.Option.{slice_get-get_or}
use Rattle.lists.proofs.Elements.{Contains-append, Contains-head}
use Rattle.lists.proofs.Places.{Contains-from_slice_get}
use Rattle.qs_core.specs.declared.event.Note.{Note}
use Rattle.qs_core.specs.declared.event.Step.{Step}
use Rattle.qs_core.specs.declared.event.Step.TheVariants.{Lock, Raise, Lower, Unlock}
use Rattle.qs_core.specs.Shape.{Shape, ancestors}
use Rattle.qs_core.specs.Core.{Chain, View}
use Rattle.qs_core.specs.Steps.{CanLower, CanRaise, CanUnlock, HasReturned, IsFree, ancestor_at, lowered_chain, new_chain, newest, object_of, raised_chain, rest, view_after}
use Rattle.qs_table.specs.declared.answers.Try.TheVariants.{Got, Busy}
use Rattle.qs_table.specs.declared.view.SeatView.{SeatView}
use Rattle.qs_table.specs.Notes.{Grew, IsCellNote, IsOnCell, lock_of, locks_in}
use Rattle.qs_table.specs.Seats.{CanGive}
use Rattle.qs_table.specs.Tries.{Gave, IsCause, IsLegalBusy, Stepped, Tried, without_newest}
use Rattle.qs_table.specs.Views.{knows_after, noted}
use Rattle.qs_table.specs.inner.Tokens.{HasNewest}
use Rattle.qs_table.proofs.Acts.{IsCellStep}

-- notes that didn't grow, that grew by one, and that grew twice
abbrev pub grew_none : (notes : List Note) → Grew notes notes
grew_none notes = record { further = []; is = sym (append-nil notes); on_cells = All-nil IsCellNote }

abbrev pub grew_more : (old new : List Note) (note : Note) → IsOnCell note.kind → Grew old new → Grew old (new ++ note ∷ [])
grew_more old new note cell g = record {
  further = g.further ++ note ∷ [];
  is = ap (λ (ns : List Note). ns ++ note ∷ []) g.is ∙ append_assoc old g.further (note ∷ []);
  on_cells = All-append IsCellNote g.further (note ∷ []) g.on_cells (All-cons IsCellNote note [] cell (All-nil IsCellNote));
}

abbrev pub grew_twice : (a b c : List Note) → Grew a b → Grew b c → Grew a c
grew_twice a b c g h = record {
  further = g.further ++ h.further;
  is = h.is ∙ ap (λ (ns : List Note). ns ++ h.further) g.is ∙ append_assoc a g.further h.further;
  on_cells = All-append IsCellNote g.further h.further g.on_cells h.on_cells;
}

-- the locks with one note more
pub locks_push : (notes : List Note) (note : Note) → locks_in (notes ++ note ∷ []) ≡ locks_in notes ++ locks_in (note ∷ [])
locks_push notes note = filter_map-append (λ (n : Note). lock_of n.kind n.cell) notes (note ∷ [])

-- steps after steps
pub stepped_none : (v : SeatView) → Stepped v v v.holds
stepped_none v = record { place = refl; holds = refl; fetched = refl; hand = refl; notes = grew_none v.notes }

pub stepped_twice : (a b c : SeatView) (held last : View) → Stepped a b held → Stepped b c last → Stepped a c last
stepped_twice a b c held last s t = record {
  place = t.place ∙ s.place;
  holds = t.holds;
  fetched = t.fetched ∙ s.fetched;
  hand = t.hand ∙ s.hand;
  notes = grew_twice a.notes b.notes c.notes s.notes t.notes;
}

on_cell : (shape : Shape) (v : SeatView) (step : Step) (seen : ℕ) → IsCellStep step → IsOnCell (noted shape v step seen).kind
on_cell shape v (Lock cell) seen c = tt
on_cell shape v Raise seen c = tt
on_cell shape v Lower seen c = tt
on_cell shape v Unlock seen c = tt
on_cell shape v (_) seen c = absurd c

-- one step more
pub stepped_more : (shape : Shape) (first now after : SeatView) (step : Step) (seen : ℕ) (held : View) → IsCellStep step → Stepped first now held → after ≡ knows_after shape now step seen
    → Stepped first after (view_after shape now.holds step seen)
stepped_more shape first now after step seen held cell s made =
    subst (λ (v : SeatView). Stepped first v (view_after shape now.holds step seen)) (sym made)
    (record {
      place = s.place;
      holds = refl;
      fetched = s.fetched;
      hand = s.hand;
      notes = grew_more first.notes now.notes (noted shape now step seen) (on_cell shape now step seen cell) s.notes;
    })

abbrev pub with_chains : View → List Chain → View
with_chains view chains = record view { chains = chains }

-- the newest chain is of the cell and has so many raises, and all else that the seat holds is as at first
pub record Giving (first : SeatView) (cell left : ℕ) (now : SeatView) : Type 0 where
  pub chain : Chain
  pub of_cell : chain.cell ≡ cell
  pub raised : chain.raises ≡ left
  pub steps : Stepped first now (with_chains first.holds (chain ∷ rest first.holds.chains))
  pub no_lock : locks_in now.notes ≡ locks_in first.notes

pub giving_none : (v : SeatView) (cell left : ℕ) → HasNewest v.holds cell left → Giving v cell left v
giving_none v cell left h = record {
  chain = h.chain;
  of_cell = h.of_cell;
  raised = h.raised;
  steps = subst (Stepped v v) (ap (with_chains v.holds) (h.is ∙ ap (λ (cs : List Chain). h.chain ∷ cs) (sym (ap rest h.is)))) (stepped_none v);
  no_lock = refl;
}

module _ (first now : SeatView) (cell left : ℕ) (g : Giving first cell left now) where
  newest_is : newest now.holds ≡ g.chain
  newest_is = ap newest g.steps.holds

  some_chain : now.holds.chains ≢ []
  some_chain e = absurd (let q : length now.holds.chains ≡ suc (length (rest first.holds.chains)) = ap (λ (w : View). length w.chains) g.steps.holds in let z : length now.holds.chains ≡ 0 = ap length e in omega arith)

  pub may_lower : CanGive first.holds → 0 < left → CanLower now.holds
  may_lower can some = record {
    some = some_chain;
    raised = let n : (newest now.holds).raises ≡ left = ap (λ (c : Chain). c.raises) newest_is ∙ g.raised in omega arith;
    none_out = ap (λ (w : View). w.out) g.steps.holds ∙ can.none_out;
    returned = subst HasReturned (sym (ap (λ (w : View). w.running) g.steps.holds)) can.returned;
  }

  -- the ancestor that is lowered next
  pub lowers_at : (shape : Shape) → slice_index (ancestors shape cell) (left - 1) ≡ object_of shape now.holds Lower
  lowers_at shape =
      sym (ap (λ (c : Chain). ancestor_at shape c (c.raises - 1)) newest_is
      ∙ ap (λ (x : ℕ × ℕ). slice_index (ancestors shape x.0) (x.1 - 1)) (λ i. (g.of_cell i, g.raised i)))

  -- a lower more
  pub giving_more : (shape : Shape) (after : SeatView) (seen : ℕ) → after ≡ knows_after shape now Lower seen → Giving first cell (left - 1) after
  giving_more shape after seen made = record {
    chain = lowered_chain g.chain;
    of_cell = g.of_cell;
    raised = ap (λ (n : ℕ). n - 1) g.raised;
    steps = subst (Stepped first after) (ap (λ (w : View). with_chains w (lowered_chain (newest w) ∷ rest w.chains)) g.steps.holds) (stepped_more shape first now after Lower seen _ tt g.steps made);
    no_lock = ap (λ (v : SeatView). locks_in v.notes) made ∙ locks_push now.notes (noted shape now Lower seen) ∙ append-nil (locks_in now.notes) ∙ g.no_lock;
  }

module _ (first now : SeatView) (cell : ℕ) (g : Giving first cell 0 now) where
  pub may_unlock : CanGive first.holds → CanUnlock now.holds
  may_unlock can = record {
    some = some_chain first now cell 0 g;
    none_raised = ap (λ (c : Chain). c.raises) (newest_is first now cell 0 g) ∙ g.raised;
    none_out = ap (λ (w : View). w.out) g.steps.holds ∙ can.none_out;
    returned = subst HasReturned (sym (ap (λ (w : View). w.running) g.steps.holds)) can.returned;
  }

  pub unlocks_at : (shape : Shape) → cell ≡ object_of shape now.holds Unlock
  unlocks_at shape = sym (ap (λ (c : Chain). c.cell) (newest_is first now cell 0 g) ∙ g.of_cell)

  -- the unlock at the end
  pub gave : (shape : Shape) (after : SeatView) (seen : ℕ) → after ≡ knows_after shape now Unlock seen → Gave first after
  gave shape after seen made = record {
    steps = subst (Stepped first after) (ap (λ (w : View). with_chains w (rest w.chains)) g.steps.holds) (stepped_more shape first now after Unlock seen _ tt g.steps made);
    no_lock = ap (λ (v : SeatView). locks_in v.notes) made ∙ locks_push now.notes (noted shape now Unlock seen) ∙ append-nil (locks_in now.notes) ∙ g.no_lock;
  }

-- the chain of a cell that is being taken, with so many raises
abbrev pub rising : ℕ → ℕ → Chain
rising cell k = record { cell = cell; raises = k; stopped = false; giving = false }

-- the view with a chain more
abbrev pub with_chain : View → Chain → View
with_chain view chain = record view { chains = chain ∷ view.chains }

-- a cell is being taken: its chain stands before the others with so many raises
pub record Raising (first : SeatView) (cell k : ℕ) (now : SeatView) : Type 0 where
  pub steps : Stepped first now (with_chain first.holds (rising cell k))
  pub one_lock : locks_in now.notes ≡ locks_in first.notes ++ cell ∷ []

-- a note between notes that grew is a further one
between : (a b c : List Note) (note : Note) (shape : Shape) (cell at seen : ℕ) → IsOnCell note.kind → Grew a b → Grew (b ++ note ∷ []) c → IsCause shape cell at seen note → IsLegalBusy shape cell at seen a c
between a b c note shape cell at seen on g h cause = record {
  grew = grew_twice a (b ++ note ∷ []) c (grew_more a b note on g) h;
  note = note;
  stands = (Contains-append (g.further ++ note ∷ []) h.further note).1 (inl ((Contains-append g.further (note ∷ []) note).1 (inr (Contains-head note []))));
  cause = cause;
}

module _ (shape : Shape) (first : SeatView) (cell : ℕ) where
  module _ (after : SeatView) (found : ℕ) (made : after ≡ knows_after shape first (Lock cell) found) where
    -- one lock was tried
    pub one_lock : locks_in after.notes ≡ locks_in first.notes ++ cell ∷ []
    one_lock = ap (λ (v : SeatView). locks_in v.notes) made ∙ locks_push first.notes (noted shape first (Lock cell) found)

    locked : Stepped first after (view_after shape first.holds (Lock cell) found)
    locked = stepped_more shape first first after (Lock cell) found first.holds tt (stepped_none first) made

    -- the lock was made
    pub raising_none : found ≡ 0 → Raising first cell 0 after
    raising_none z = record { steps = subst (Stepped first after) (ap (λ (n : ℕ). view_after shape first.holds (Lock cell) n) z) locked; one_lock = one_lock }

    -- it was not
    pub busy_lock : found ≢ 0 → Tried shape cell first (Busy cell found) after
    busy_lock n = (
      subst (Stepped first after) (cond-false (found == 0) (with_chain first.holds (new_chain cell)) first.holds (ne_eqb found 0 n)) locked,
      subst (λ (v : SeatView). IsLegalBusy shape cell cell found first.notes v.notes) (sym made)
          (between first.notes first.notes _ (noted shape first (Lock cell) found) shape cell cell found tt (grew_none first.notes) (grew_none (first.notes ++ noted shape first (Lock cell) found ∷ []))
          (record { at_is = refl; seen_is = refl; why = inl (refl, refl, n) })),
    )

  module _ (now : SeatView) (k : ℕ) (r : Raising first cell k now) where
    newest_rises : newest now.holds ≡ rising cell k
    newest_rises = ap newest r.steps.holds

    pub may_raise : IsFree first.holds → k < length (ancestors shape cell) → CanRaise shape now.holds
    may_raise f l = record {
      some = λ e. absurd (let q : length now.holds.chains ≡ suc (length first.holds.chains) = ap (λ (w : View). length w.chains) r.steps.holds in let z : length now.holds.chains ≡ 0 = ap length e in omega arith);
      not_all = subst (λ (c : Chain). c.raises < length (ancestors shape c.cell)) (sym newest_rises) l;
      free = ap (λ (c : Chain). c.stopped) newest_rises;
      kept = ap (λ (c : Chain). c.giving) newest_rises;
      none_runs = ap (λ (w : View). w.running) r.steps.holds ∙ f.none_runs;
    }

    pub raises_at : slice_index (ancestors shape cell) k ≡ object_of shape now.holds Raise
    raises_at = sym (ap (λ (c : Chain). ancestor_at shape c c.raises) newest_rises)

    module _ (after : SeatView) (seen : ℕ) (made : after ≡ knows_after shape now Raise seen) where
      raised : Stepped first after (with_chain first.holds (raised_chain (rising cell k) seen))
      raised = subst (Stepped first after) (ap (λ (w : View). with_chains w (raised_chain (newest w) seen ∷ rest w.chains)) r.steps.holds) (stepped_more shape first now after Raise seen _ tt r.steps made)

      raised_locks : locks_in after.notes ≡ locks_in first.notes ++ cell ∷ []
      raised_locks = ap (λ (v : SeatView). locks_in v.notes) made ∙ locks_push now.notes (noted shape now Raise seen) ∙ append-nil (locks_in now.notes) ∙ r.one_lock

      -- a raise more
      pub raising_more : seen % 2 ≢ 1 → Raising first cell (k + 1) after
      raising_more n = record {
        steps = subst (Stepped first after) (ap (λ (x : ℕ × Bool). with_chain first.holds (record { cell = cell; raises = x.0; stopped = x.1; giving = false })) (λ i. (more i, ne_eqb (seen % 2) 1 n i))) raised;
        one_lock = raised_locks;
      }
        where
          more : suc k ≡ k + 1
          more = omega arith

      -- its ancestor was found locked: the chain can be given back
      pub stopped_newest : HasNewest after.holds cell (k + 1)
      stopped_newest = record {
        chain = raised_chain (rising cell k) seen;
        older = first.holds.chains;
        is = ap (λ (w : View). w.chains) raised.holds;
        of_cell = refl;
        raised = omega arith;
      }

      pub may_give : IsFree first.holds → CanGive after.holds
      may_give f = record {
        some = λ e. absurd (let q : length after.holds.chains ≡ suc (length first.holds.chains) = ap (λ (w : View). length w.chains) raised.holds in let z : length after.holds.chains ≡ 0 = ap length e in omega arith);
        none_out = ap (λ (w : View). w.out) raised.holds ∙ f.none_out;
        returned = subst HasReturned (sym (ap (λ (w : View). w.running) raised.holds ∙ f.none_runs)) tt;
      }

      -- and was
      module _ (end : SeatView) (g : Gave after end) where
        pub busy_locks : locks_in end.notes ≡ locks_in first.notes ++ cell ∷ []
        busy_locks = g.no_lock ∙ raised_locks

        pub busy_raise : (above : ℕ) → above ≡ slice_index (ancestors shape cell) k → k < length (ancestors shape cell) → seen % 2 ≡ 1 → Tried shape cell first (Busy above seen) end
        busy_raise above at l odd = (
          subst (Stepped first end) (ap without_newest raised.holds) (stepped_twice first after end _ _ raised g.steps),
          between first.notes now.notes end.notes (noted shape now Raise seen) shape cell above seen tt r.steps.notes (subst (λ (v : SeatView). Grew v.notes end.notes) made g.steps.notes)
              (record { at_is = sym (at ∙ raises_at); seen_is = refl; why = inr (refl, subst (Contains (ancestors shape cell)) (sym at) (Contains-from_slice_get (ancestors shape cell) k _ (slice_get-get_or (ancestors shape cell) k 0 l)), odd) }),
        )

    -- all its ancestors are raised
    pub got : k ≡ length (ancestors shape cell) → Tried shape cell first Got now
    got e = subst (Stepped first now) (ap (λ (n : ℕ). with_chain first.holds (rising cell n)) e) r.steps
