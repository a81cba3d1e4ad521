-- One task more leaves the ready list.
use Rattle.std.proofs.Common.{◌≡◌, ℕ, true, false, List, [], ◌∷◌, ◌++◌, reverse, refl, sym, ap, ◌∙◌, inl, inr, append_assoc, append-nil}
use Rattle.std.proofs.lemmas.List.{reverse-append}
use Rattle.std.proofs.lemmas.List.Concat.{flat_map-append}
use Rattle.qs_heap.specs.declared.entry.Entry.{Entry}
use Rattle.qs_queues.specs.declared.view.QueueView.{QueueView}
use Rattle.qs_queues.specs.Calls.{Noted}
use Rattle.qs_queues.specs.Views.{with_notes}
use Rattle.qs_worker.specs.Offers.{ArePushed, AreTaken, IsTakenByOne, Pushed, notes_of_pushes}
use Rattle.qs_worker.specs.inner.Pushing.{Offered}
use Rattle.qs_worker.proofs.Longer.{more_notes, no_notes}

module _ (room queues own : ℕ) (entry_of : ℕ → Entry) where
  -- the tasks that left so far
  pub record Leaving (before now : List ℕ) (v w : QueueView) : Type 0 where
    pub gone : List ℕ
    pub taken : List Pushed
    pub left : before ≡ now ++ reverse gone
    pub view : w ≡ with_notes v (notes_of_pushes taken)
    pub each : AreTaken room queues own entry_of gone taken

  pub none_left_yet : (before : List ℕ) (v : QueueView) → Leaving before before v v
  none_left_yet before v = record { gone = []; taken = []; left = sym (append-nil before); view = no_notes v; each = refl }

  taken_more : (gone : List ℕ) (task : ℕ) (taken pushes : List Pushed) → AreTaken room queues own entry_of gone taken → IsTakenByOne room queues own (entry_of task) pushes
      → AreTaken room queues own entry_of (gone ++ task ∷ []) (taken ++ pushes)
  taken_more [] task taken pushes none t = (pushes, [], ap (λ (ps : List Pushed). ps ++ pushes) none ∙ sym (append-nil pushes), t, refl)
  taken_more (g ∷ gs) task taken pushes each t = (
    each.0,
    each.1 ++ pushes,
    ap (λ (ps : List Pushed). ps ++ pushes) each.2 ∙ append_assoc each.0 each.1 pushes,
    each.3,
    taken_more gs task each.1 pushes each.4 t,
  )

  turned_round : (gone : List ℕ) (task : ℕ) → task ∷ reverse gone ≡ reverse (gone ++ task ∷ [])
  turned_round gone task = sym (reverse-append gone (task ∷ []))

  -- a queue took the last of the list
  pub one_left : (before now rest : List ℕ) (task : ℕ) (v w u : QueueView) → Leaving before now v w → now ≡ rest ++ task ∷ [] → Offered room queues own (entry_of task) true w u → Leaving before rest v u
  one_left before now rest task v w u l is o = record {
    gone = l.gone ++ task ∷ [];
    taken = l.taken ++ o.0;
    left = l.left ∙ ap (λ (xs : List ℕ). xs ++ reverse l.gone) is ∙ append_assoc rest (task ∷ []) (reverse l.gone) ∙ ap (λ (xs : List ℕ). rest ++ xs) (turned_round l.gone task);
    view = more_notes v w u (notes_of_pushes l.taken) (notes_of_pushes o.0) l.view o.1 ∙ ap (with_notes v) (sym (flat_map-append (λ (p : Pushed). p.notes) l.taken o.0));
    each = taken_more l.gone task l.taken o.0 l.each o.2;
  }

  -- the list is empty
  pub all_left : (before now : List ℕ) (v w : QueueView) → Leaving before now v w → now ≡ [] → Noted (ArePushed room queues own entry_of before now) v w
  all_left before now v w l none = record {
    further = notes_of_pushes l.taken;
    is = l.view;
    said = record { gone = l.gone; left_from_the_last = l.left; taken = l.taken; refused = []; notes_are = sym (append-nil (notes_of_pushes l.taken)); each_taken = l.each; at_scan = inl (none, refl) };
  }

  -- no queue took its last task, which stays
  pub one_stays : (before now rest : List ℕ) (task : ℕ) (v w u : QueueView) → Leaving before now v w → now ≡ rest ++ task ∷ [] → Offered room queues own (entry_of task) false w u
      → Noted (ArePushed room queues own entry_of before (rest ++ task ∷ [])) v u
  one_stays before now rest task v w u l is o = record {
    further = notes_of_pushes l.taken ++ notes_of_pushes o.0;
    is = more_notes v w u (notes_of_pushes l.taken) (notes_of_pushes o.0) l.view o.1;
    said = record {
      gone = l.gone;
      left_from_the_last = l.left ∙ ap (λ (xs : List ℕ). xs ++ reverse l.gone) is;
      taken = l.taken;
      refused = o.0;
      notes_are = refl;
      each_taken = l.each;
      at_scan = inr (record { front = rest; last = task; is = refl; by_all = o.2 });
    };
  }
