-- A fetch and a return of a leaf, and the looks at which its slot comes to hand and goes back, keep the rule.
use Rattle.std.proofs.Common.{◌≡◌, ◌≢◌, ℕ, ◌+◌, ◌<◌, ◌↔◌, ◌==◌, not, eqb, Bool, true, false, eq-eqb, true≢false, cond, List, [], ◌∷◌, map, length, set, slice_index, slice_set, Contains, count_by, Option, Some, None, refl, sym, ap, ◌∙◌, subst, inl, inr, length-set, arith}
use Rattle.std.specs.Prelude.{⊤}
use Rattle.std.proofs.lemmas.Bool.{cases_eq}
use Rattle.std.proofs.lemmas.List.Elements.{All-contains, filter_passes}
use Rattle.std.proofs.lemmas.List.Sums.{sum_by-cons}
use Rattle.std.proofs.lemmas.Option.{none-some, same_Some}
use mathlib.Core.Option as maybe
use mathlib.Core.Option.{none, some}
use lib.ListN.{get_elem?}
use Rattle.atomic_table.specs.Table.{State, Me, stepped, Allows}
use Rattle.atomic_table.specs.Table as table
use Rattle.atomic_table.proofs.Lists.{set_else, set_here}
use Rattle.lists.proofs.Counts.{one_if, one_if-other, one_if-same}
use Rattle.lists.proofs.Elements.{Contains-cons_cases, Contains-from_filter}
use Rattle.lists.proofs.Places.{Contains-from_slice_get, get_from_Contains, slice_get-map_cases}
use Rattle.qs_core.specs.declared.event.Step.{Step}
use Rattle.qs_core.specs.declared.event.Step.TheVariants.{Fetch, Return}
use Rattle.qs_core.specs.Shape.{Shape, IsShape}
use Rattle.qs_core.specs.Core.{Core, Running, View, leaf_place}
use Rattle.qs_core.specs.Steps.{CanFetch, CanReturn, MayFetch, without}
use Rattle.qs_core.specs.Sound.{IsView, outs_of}
use Rattle.qs_core.specs.Runs.{ReturnsWork}
use Rattle.qs_core.proofs.Events.{sound_is_in_order}
use Rattle.qs_core.proofs.Outs.{out_count}
use Rattle.qs_core.proofs.Without.{count_by-without}
use Rattle.qs_table.specs.declared.view.Bundle.{Bundle}
use Rattle.qs_table.specs.declared.view.Fetched.{Fetched}
use Rattle.qs_table.specs.declared.view.SeatView.{SeatView}
use Rattle.qs_table.specs.Leaves.{IsBrought, IsFetched, RunsTask}
use Rattle.qs_table.specs.Notes.{claims_task, frees_task}
use Rattle.qs_table.specs.Rule.{AreDoneOn, AreOut, IsHome, IsShown, Shows}
use Rattle.qs_table.specs.Views.{alone, fetched_with, fetched_without, knows_returned, knows_with, seats_in, with_hand}
use Rattle.qs_table.specs.inner.Plays.{Brought, TookBlock, LaidDown, TakenUp, Took}
use Rattle.qs_table.proofs.Acts.{done_is, event_at, fetched_is_out, one_has, outs_then, same_done, some_has, sound_then, view_is}
use Rattle.qs_table.proofs.Bundles.{Changes, changed_length, changes}
use Rattle.qs_table.proofs.Dealt.{same_claims, same_releases}
use Rattle.lists.proofs.Words.{same_word}
use Rattle.qs_table.proofs.Kept.{change_now, claims_stay, core_now, releases_stay, same_alone, seat_here, seats_now, shown_then, step_kept, view_now}

-- a list of which those with one key are left out
kept_or : {X Y : Type 0} (g : X → Y) (b : Bool) (x : X) (xs : List X) (ys : List Y) → map g xs ≡ ys → map g (cond b (x ∷ xs) xs) ≡ cond b (g x ∷ ys) ys
kept_or g true x xs ys e = ap (λ zs. g x ∷ zs) e
kept_or g false x xs ys e = e

-- a block may be brought with its slot at hand
pub brought_at_hand : {B : Type 0} (fits : ℕ → B → Type 0) (done : B → List ℕ) (v : SeatView) (leaf : ℕ) (block : B) (hand : Option ℕ) → IsBrought fits done v leaf block → IsBrought fits done (with_hand v hand) leaf block
brought_at_hand fits done v leaf block hand b = record { fitting = b.fitting; before = b.before; was = b.was; tasks = b.tasks }

-- what is left of the leaves that were fetched
without_leaf : (fetched : List Fetched) (leaf : ℕ) → map (λ (f : Fetched). f.leaf) (fetched_without fetched leaf) ≡ without leaf (map (λ (f : Fetched). f.leaf) fetched)
without_leaf [] leaf = refl
without_leaf (f ∷ fs) leaf = kept_or (λ (g : Fetched). g.leaf) (not (f.leaf == leaf)) f (fetched_without fs leaf) (without leaf (map (λ (g : Fetched). g.leaf) fs)) (without_leaf fs leaf)

left_apart : (fetched : List Fetched) (leaf : ℕ) (f : Fetched) → Contains (fetched_without fetched leaf) f → f.leaf ≡ leaf → ⊥
left_apart fetched leaf f c e =
    let p = λ (x : Fetched). not (eqb x.leaf leaf) in
    let passes : p f ≡ true = All-contains (λ (x : Fetched). p x ≡ true) (fetched_without fetched leaf) f (filter_passes p fetched) c in
    true≢false (sym passes ∙ ap not (eq-eqb f.leaf leaf e))

-- a leaf that is out is noted
out_is_fetched : (fetched : List Fetched) (out : List ℕ) (leaf : ℕ) → map (λ (f : Fetched). f.leaf) fetched ≡ out → Contains out leaf → (f : Fetched) × Contains fetched f × (f.leaf ≡ leaf)
out_is_fetched fetched out leaf is c =
    let at = get_from_Contains (map (λ (f : Fetched). f.leaf) fetched) leaf (subst (λ (xs : List ℕ). Contains xs leaf) (sym is) c) in
    let m = slice_get-map_cases (λ (f : Fetched). f.leaf) fetched at.0 leaf at.1 in
    (m.0, Contains-from_slice_get fetched at.0 m.0 m.1, sym m.2)

-- a running task is one
runs_some : (o : Option Running) (task : ℕ) → RunsTask o task → (running : Running) × (o ≡ Some running) × (running.task ≡ task)
runs_some None task r = absurd r
runs_some (Some running) task r = (running, refl, r)

-- which leaf a step returns
other_leaf : (leaf l : ℕ) → (l ≡ leaf → ⊥) → Return leaf ≡ Return l → ⊥
other_leaf leaf l n e = n (sym (ap leaf_of e))
  where
    leaf_of : Step → ℕ
    leaf_of (Return x) = x
    leaf_of _ = 0

abbrev IsFetch : Step → Type 0
IsFetch (Fetch leaf) = ⊤
IsFetch _ = ⊥

not_back : (leaf l : ℕ) → Fetch leaf ≡ Return l → ⊥
not_back leaf l e = absurd (subst IsFetch e tt)

module _ {B : Type 0} (shape : Shape) (fits : ℕ → B → Type 0) (done : B → List ℕ) (laws : IsShape shape) where
  abbrev Slots : Type 0
  Slots = List (maybe.Option (Option B))

  module _ (core : Core) (slots : Slots) (known : List SeatView) (shown : IsShown shape fits done core slots known) (v : SeatView) (here : Contains known v) (leaf : ℕ) where
    abbrev is_view : IsView core v.place v.holds
    is_view = shown.seats.each v here

    abbrev noted : AreOut shape core slots v
    noted = shown.outs v here

    -- a fetch takes the block of its leaf
    module _ (can : CanFetch shape v.holds leaf) (free : v.hand ≡ None) where
      counted : (l : ℕ) → out_count l (leaf ∷ v.holds.out) ≡ one_if leaf l + out_count l v.holds.out
      counted l = sum_by-cons (λ x. one_if x l) leaf v.holds.out

      none_out : outs_of leaf core.views ≡ 0
      none_out =
          let one = (sound_then shape laws core shown.sound v is_view (Fetch leaf) can).locks.leaves.one_out leaf in
          let a = outs_then shape laws core shown.sound v is_view (Fetch leaf) can leaf in
          let b = counted leaf in
          let c = one_if-same leaf leaf refl in
          omega arith

      abbrev home_now : IsHome shape fits done core slots leaf
      home_now = shown.homes.each leaf can.is_leaf none_out

      seen_none : slice_index core.words (leaf_place shape leaf) ≡ 0
      seen_none = shown.sound.locks.leaves.leaf_words leaf can.is_leaf ∙ none_out

      other_than : (l : ℕ) → 0 < outs_of l core.views → l ≢ leaf
      other_than l out e = absurd (let z : outs_of l core.views ≡ 0 = ap (λ (k : ℕ). outs_of k core.views) e ∙ none_out in omega arith)

      abbrev with_block : List Fetched
      with_block = fetched_with v.fetched leaf (done home_now.block)

      shown_fetched : (after : List SeatView) → Changes known after v (view_now shape fits done laws core slots known shown v here (Fetch leaf) can with_block (Some leaf))
          → IsShown shape fits done (core_now shape fits done laws core slots known shown v here (Fetch leaf) can with_block (Some leaf)) (set slots leaf none) after
      shown_fetched after change =
          shown_then shape fits done laws core slots known shown v here (Fetch leaf) can with_block (Some leaf) after change (set slots leaf none)
          (record {
            one_each = length-set slots leaf none ∙ shown.homes.one_each;
            each = λ other l home.
                let a = outs_then shape laws core shown.sound v is_view (Fetch leaf) can other in
                let b = counted other in
                let apart : other ≢ leaf = λ e. absurd (let c = one_if-same leaf other (sym e) in omega arith) in
                let c = one_if-other leaf other (λ q. apart (sym q)) in
                let was = shown.homes.each other l (omega arith) in
                record {
                  block = was.block;
                  at = set_else slots leaf other none apart ∙ was.at;
                  fitting = was.fitting;
                  tasks = same_done shape laws core shown.sound v is_view (Fetch leaf) can other (not_back leaf other) (done was.block) was.tasks;
                };
          })
          (λ l out mine. set_else slots leaf l none (other_than l out))
          (record {
            leaves = ap (λ (ls : List ℕ). leaf ∷ ls) noted.leaves;
            tasks = λ f c. elim (Contains-cons_cases _ v.fetched f c) [
              | inl e ↦
                  subst (λ (g : Fetched). AreDoneOn shape (core_now shape fits done laws core slots known shown v here (Fetch leaf) can with_block (Some leaf)) g.done g.leaf) e
                  (same_done shape laws core shown.sound v is_view (Fetch leaf) can leaf (not_back leaf leaf) (done home_now.block) home_now.tasks)
              | inr q ↦ same_done shape laws core shown.sound v is_view (Fetch leaf) can f.leaf (not_back leaf f.leaf) f.done (noted.tasks f q)
            ];
            empty = λ f c n. elim (Contains-cons_cases _ v.fetched f c) [
              | inl e ↦ absurd (n (ap (λ (g : Fetched). Some g.leaf) e))
              | inr q ↦
                  set_else slots leaf f.leaf none (λ e. can.home (subst (Contains v.holds.out) e (fetched_is_out v.fetched v.holds.out f noted.leaves q)))
                  ∙ noted.empty f q (λ e. none-some f.leaf (sym free ∙ e))
            ];
          })
          (claims_stay shape fits done laws core slots known shown v here (Fetch leaf) can with_block (Some leaf) after change (set slots leaf none) tt)
          (releases_stay shape fits done laws core slots known shown v here (Fetch leaf) can with_block (Some leaf) after change (set slots leaf none) tt)

      -- its block is ready for the task that runs
      is_fetched : IsFetched shape fits done v leaf home_now.block
      is_fetched = record {
        fitting = home_now.fitting;
        last = record { core = core; slots = slots; known = known; shown = shown; seat = here; at = home_now.at; tasks = home_now.tasks };
        ready = λ running r.
            let runs = shown.sound.tasks.runs v.place v.holds running is_view r in
            record {
              fitting = home_now.fitting;
              not_done = λ c. ((home_now.tasks running.task).0 c).none_left v.place v.holds running is_view (record { is = r; of_task = refl }) (subst (λ (o : Option Running). MayFetch o leaf) r can.left);
              before = λ earlier path touches. (home_now.tasks earlier).1 ((sound_is_in_order shape core earlier running.task leaf laws shown.sound path runs.claimed).1 touches);
            };
      }

    -- a return brings a block home
    module _ (can : CanReturn shape v.holds leaf) (block : B) (brought : IsBrought fits done v leaf block) (at_hand : v.hand ≡ Some leaf) where
      seen_one : slice_index core.words (leaf_place shape leaf) ≡ 1
      seen_one =
          let out = some_has core v leaf is_view can.out in
          let few = shown.sound.locks.leaves.one_out leaf in
          let word = shown.sound.locks.leaves.leaf_words leaf can.is_leaf in
          omega arith

      works : (task : ℕ) → ReturnsWork core (event_at shape laws core shown.sound v is_view (Return leaf) can) task leaf ↔ RunsTask v.holds.running task
      works task =
          let e = view_is shape laws core shown.sound v is_view (Return leaf) can in (
            λ r. subst (λ (o : Option Running). RunsTask o task) (sym (sym (ap (λ (w : View). w.running) e) ∙ r.runs.is)) r.runs.of_task,
            λ r.
                let q = runs_some v.holds.running task r in
                record {
                  step = refl;
                  running = q.0;
                  runs = record { is = ap (λ (w : View). w.running) e ∙ q.1; of_task = q.2 };
                  left = (shown.sound.locks.leaves.outs v.place v.holds leaf is_view can.out).left q.0 q.1;
                },
          )

      abbrev still_out : List Fetched
      still_out = fetched_without v.fetched leaf

      abbrev filled : Slots
      filled = set slots leaf (some (Some block))

      home_then : (l : ℕ) → l < shape.leaves → outs_of l (core_now shape fits done laws core slots known shown v here (Return leaf) can still_out None).views ≡ 0
          → IsHome shape fits done (core_now shape fits done laws core slots known shown v here (Return leaf) can still_out None) filled l
      home_then l b home = elim (cases_eq l leaf) [
        | inl e ↦
            subst (IsHome shape fits done (core_now shape fits done laws core slots known shown v here (Return leaf) can still_out None) filled) (sym e)
            (record {
              block = block;
              at = set_here slots leaf (some (Some block)) (let d = shown.homes.one_each in let c = can.is_leaf in omega arith);
              fitting = brought.fitting;
              tasks = λ task.
                  let then = done_is shape laws core shown.sound v is_view (Return leaf) can task leaf in
                  let was = noted.tasks (record { leaf = leaf; done = brought.before }) brought.was task in (
                    λ c. then.1 (elim ((brought.tasks task).0 c) [ inl q ↦ inl (was.0 q) | inr r ↦ inr ((works task).1 r) ]),
                    λ d. (brought.tasks task).1 (elim (then.0 d) [ inl q ↦ inl (was.1 q) | inr r ↦ inr ((works task).0 r) ]),
                  );
            })
        | inr n ↦
            let a = outs_then shape laws core shown.sound v is_view (Return leaf) can l in
            let c = count_by-without leaf l v.holds.out n in
            let was = shown.homes.each l b (omega arith) in
            record {
              block = was.block;
              at = set_else slots leaf l (some (Some block)) n ∙ was.at;
              fitting = was.fitting;
              tasks = same_done shape laws core shown.sound v is_view (Return leaf) can l (other_leaf leaf l n) (done was.block) was.tasks;
            }
      ]

      shown_returned : (after : List SeatView) → Changes known after v (view_now shape fits done laws core slots known shown v here (Return leaf) can still_out None)
          → IsShown shape fits done (core_now shape fits done laws core slots known shown v here (Return leaf) can still_out None) filled after
      shown_returned after change =
          shown_then shape fits done laws core slots known shown v here (Return leaf) can still_out None after change filled
          (record { one_each = length-set slots leaf (some (Some block)) ∙ shown.homes.one_each; each = home_then })
          (λ l out mine. set_else slots leaf l (some (Some block)) (λ e. mine (subst (Contains v.holds.out) (sym e) can.out)))
          (record {
            leaves = without_leaf v.fetched leaf ∙ ap (without leaf) noted.leaves;
            tasks = λ f c.
                same_done shape laws core shown.sound v is_view (Return leaf) can f.leaf (other_leaf leaf f.leaf (left_apart v.fetched leaf f c)) f.done
                (noted.tasks f (Contains-from_filter (λ (x : Fetched). not (x.leaf == leaf)) v.fetched f c));
            empty = λ f c n.
                set_else slots leaf f.leaf (some (Some block)) (left_apart v.fetched leaf f c)
                ∙ noted.empty f (Contains-from_filter (λ (x : Fetched). not (x.leaf == leaf)) v.fetched f c) (λ e. left_apart v.fetched leaf f c (same_Some f.leaf leaf (sym e ∙ at_hand)));
          })
          (claims_stay shape fits done laws core slots known shown v here (Return leaf) can still_out None after change filled tt)
          (releases_stay shape fits done laws core slots known shown v here (Return leaf) can still_out None after change filled tt)

    -- the slot of a leaf that is out comes to hand or goes back
    module _ (mine : Contains v.holds.out leaf) (hand : Option ℕ) (slots' : Slots) (long : length slots' ≡ length slots) (others : (l : ℕ) → l ≢ leaf → get_elem? slots' l ≡ get_elem? slots l)
        (own : AreOut shape core slots' (with_hand v hand)) (after : List SeatView) (change : Changes known after v (with_hand v hand)) where
      theirs : (u : SeatView) (f : Fetched) → Contains known u → (u.place ≡ v.place → ⊥) → Contains u.fetched f → f.leaf ≢ leaf
      theirs u f there apart c e =
          apart (one_has shape core u v leaf shown.sound (shown.seats.each u there) is_view (subst (Contains u.holds.out) e (fetched_is_out u.fetched u.holds.out f (shown.outs u there).leaves c)) mine)

      shown_hand : IsShown shape fits done core slots' after
      shown_hand = record {
        sound = shown.sound;
        seats = record {
          each = λ u c. elim (change.cases u c) [
            | inl e ↦ subst (λ (x : SeatView). IsView core x.place x.holds) e is_view
            | inr p ↦ shown.seats.each u p.0
          ];
          once = λ place l.
              let s = change.sums (λ (x : SeatView). cond (x.place == place) 1 0) in
              let was = shown.seats.once place l in
              omega arith;
          all = changed_length known after v (with_hand v hand) change ∙ shown.seats.all;
        };
        homes = record {
          one_each = long ∙ shown.homes.one_each;
          each = λ l b home.
              let was = shown.homes.each l b home in
              record {
                block = was.block;
                at = others l (λ e. absurd (let z : outs_of leaf core.views ≡ 0 = ap (λ (k : ℕ). outs_of k core.views) (sym e) ∙ home in let out = some_has core v leaf is_view mine in omega arith)) ∙ was.at;
                fitting = was.fitting;
                tasks = was.tasks;
              };
        };
        outs = λ u c. elim (change.cases u c) [
          | inl e ↦ subst (AreOut shape core slots') e own
          | inr p ↦
              let was = shown.outs u p.0 in
              record { leaves = was.leaves; tasks = was.tasks; empty = λ f d n. others f.leaf (theirs u f p.0 p.1 d) ∙ was.empty f d n }
        ];
        claims = same_claims shape core known after (λ task. let s = change.sums (λ (x : SeatView). count_by (claims_task task) x.notes) in omega arith) shown.claims;
        releases = same_releases shape core known after (λ task. let s = change.sums (λ (x : SeatView). count_by (frees_task task) x.notes) in omega arith) shown.releases;
      }

    -- the slot of a leaf at hand is laid down
    laid_own : v.hand ≡ Some leaf → leaf < length slots → AreOut shape core (set slots leaf (some None)) (with_hand v None)
    laid_own at_hand within = record {
      leaves = noted.leaves;
      tasks = noted.tasks;
      empty = λ f c n. elim (cases_eq f.leaf leaf) [
        | inl e ↦ ap (get_elem? (set slots leaf (some None))) e ∙ set_here slots leaf (some None) within
        | inr m ↦ set_else slots leaf f.leaf (some None) m ∙ noted.empty f c (λ q. m (same_Some f.leaf leaf (sym q ∙ at_hand)))
      ];
    }

    -- and taken up again
    taken_own : v.hand ≡ None → AreOut shape core (set slots leaf none) (with_hand v (Some leaf))
    taken_own free = record {
      leaves = noted.leaves;
      tasks = noted.tasks;
      empty = λ f c n. set_else slots leaf f.leaf none (λ e. n (ap Some (sym e))) ∙ noted.empty f c (λ q. none-some f.leaf (sym free ∙ q));
    }

    emptied : v.hand ≡ None → Contains v.holds.out leaf → get_elem? slots leaf ≡ some (some None)
    emptied free mine =
        let m = out_is_fetched v.fetched v.holds.out leaf noted.leaves mine in
        sym (ap (get_elem? slots) m.2) ∙ noted.empty m.0 m.1 (λ q. none-some m.0.leaf (sym free ∙ q))

module _ {B P : Type 0} (shapes : P → Shape) (fits_of : P → ℕ → B → Type 0) (done : B → List ℕ) (plan : P) (laws : IsShape (shapes plan)) (count : ℕ) where
  abbrev shape : Shape
  shape = shapes plan

  abbrev fits : ℕ → B → Type 0
  fits = fits_of plan

  abbrev Rule : State (Option B) (Bundle P) → Type 0
  Rule = Shows shape fits done count

  -- which leaf a place is of
  same_leaf : (p : P) (place leaf l : ℕ) → plan ≡ p → place ≡ leaf_place shape leaf → place ≡ leaf_place (shapes p) l → leaf ≡ l
  same_leaf p place leaf l same a b = let parents : length shape.parents ≡ length (shapes p).parents = ap (λ (x : P). length (shapes x).parents) same in omega arith

  module _ (slots seat place leaf : ℕ) (v : SeatView) (me : Me (Option B) (Bundle P)) (me_is : me.0 ≡ alone plan v) (place_is : place ≡ leaf_place shape leaf) where
    abbrev the_step : ℕ → table.Step (Option B)
    the_step first = table.step slots place first 0 none

    pub fetch_allowed : v.hand ≡ None → CanFetch shape v.holds leaf → Allows Rule slots seat me place (λ n. 1) (λ found me'. Took shapes (the_step 1) me found me' fits_of done)
    fetch_allowed free can s rule wide at small =
        let at' = at ∙ ap some me_is in
        let here = seat_here shape fits done laws count s rule seat plan v at' in
        let home = home_now shape fits done laws rule.core s.homes (seats_in s.views) rule.shown v here leaf can free in
        let fetched = fetched_with v.fetched leaf (done home.block) in
        let after : ℕ → Bundle P = λ found. alone plan (knows_with shape v (Fetch leaf) found fetched (Some leaf)) in
        let kept = step_kept shape fits done laws count s rule seat plan v at' (Fetch leaf) can fetched (Some leaf) (set s.homes leaf none)
        (shown_fetched shape fits done laws rule.core s.homes (seats_in s.views) rule.shown v here leaf can free (seats_now shape fits done laws count s rule seat plan v at' (Fetch leaf) can fetched (Some leaf))
        (change_now shape fits done laws count s rule seat plan v at' (Fetch leaf) can fetched (Some leaf))) in
        let seen : slice_index s.words (leaf_place shape leaf) ≡ 0 = ap (λ (ws : List ℕ). slice_index ws (leaf_place shape leaf)) (sym rule.words) ∙ seen_none shape fits done laws rule.core s.homes (seats_in s.views) rule.shown v here leaf can free in (
          after 0,
          table.takes leaf (Some home.block),
          home.at,
          subst (λ (x : ℕ × ℕ). Rule (stepped s x.0 1 seat me.1 (after x.1) (table.takes leaf (Some home.block)))) (λ i. (sym place_is i, seen i)) kept,
          λ p w l m e.
              let same = same_alone plan p v w (sym me_is ∙ m) in
              let leaves = same_leaf p place leaf l same.0 place_is e in
              subst (λ (x : P × SeatView × ℕ). TookBlock shapes fits_of done x.0 x.1 x.2 me.1 (after 0, (leaf, Some home.block) ∷ me.1)) (λ i. (same.0 i, same.1 i, leaves i))
              (record { block = home.block; is = refl; fetched = is_fetched shape fits done laws rule.core s.homes (seats_in s.views) rule.shown v here leaf can free }),
        )

    pub return_allowed : (block : B) (carried : List (ℕ × Option B)) → v.hand ≡ Some leaf → CanReturn shape v.holds leaf → IsBrought fits done v leaf block → me.1 ≡ (leaf, Some block) ∷ carried
        → Allows Rule slots seat me place (λ n. 0) (Brought shapes (the_step 0) me)
    return_allowed block carried at_hand can brought slot s rule wide at small =
        let at' = at ∙ ap some me_is in
        let here = seat_here shape fits done laws count s rule seat plan v at' in
        let fetched = fetched_without v.fetched leaf in
        let after : ℕ → Bundle P = λ found. alone plan (knows_with shape v (Return leaf) found fetched None) in
        let kept = step_kept shape fits done laws count s rule seat plan v at' (Return leaf) can fetched None (set s.homes leaf (some (Some block)))
        (shown_returned shape fits done laws rule.core s.homes (seats_in s.views) rule.shown v here leaf can block brought at_hand (seats_now shape fits done laws count s rule seat plan v at' (Return leaf) can fetched None)
        (change_now shape fits done laws count s rule seat plan v at' (Return leaf) can fetched None)) in
        let seen : slice_index s.words (leaf_place shape leaf) ≡ 1 = ap (λ (ws : List ℕ). slice_index ws (leaf_place shape leaf)) (sym rule.words) ∙ seen_one shape fits done laws rule.core s.homes (seats_in s.views) rule.shown v here leaf can block brought at_hand in (
          after 1,
          table.gives,
          tt,
          subst (λ (x : ℕ × ℕ × List (ℕ × Option B)). Rule (stepped s x.0 0 seat x.2 (after x.1) table.gives)) (λ i. (sym place_is i, seen i, sym slot i)) kept,
          λ p w l m e.
              let same = same_alone plan p v w (sym me_is ∙ m) in
              let leaves = same_leaf p place leaf l same.0 place_is e in
              λ i. (alone (same.0 i) (knows_returned (shapes (same.0 i)) (same.1 i) (leaves i)), table.rest me.1),
        )

    -- a look at which a slot changes hands
    looks : (s : State (Option B) (Bundle P)) (rule : Rule s) (at : get_elem? s.views seat ≡ some (alone plan v)) (hand : Option ℕ) (slots' : List (maybe.Option (Option B)))
        → IsShown shape fits done rule.core slots' (seats_in (set s.views seat (alone plan (with_hand v hand))))
        → Rule (record { words = slice_set s.words place (slice_index s.words place); homes = slots'; views = set s.views seat (alone plan (with_hand v hand)) })
    looks s rule at hand slots' shown = record {
      laws = laws;
      core = rule.core;
      words = rule.words ∙ sym (same_word s.words place);
      seats = rule.seats;
      shown = shown;
    }

    pub lay_down_allowed : (carried : List (ℕ × Option B)) → v.hand ≡ Some leaf → leaf < shape.leaves → Contains v.holds.out leaf → me.1 ≡ (leaf, None) ∷ carried
        → Allows Rule slots seat me place (λ n. n) (LaidDown shapes (the_step 0) me)
    lay_down_allowed carried at_hand within mine slot s rule wide at small =
        let at' = at ∙ ap some me_is in
        let here = seat_here shape fits done laws count s rule seat plan v at' in
        let few : leaf < length s.homes = let long = rule.shown.homes.one_each in omega arith in
        let kept = looks s rule at' None (set s.homes leaf (some None))
        (shown_hand shape fits done laws rule.core s.homes (seats_in s.views) rule.shown v here leaf mine None (set s.homes leaf (some None)) (length-set s.homes leaf (some None)) (λ l n. set_else s.homes leaf l (some None) n)
        (laid_own shape fits done laws rule.core s.homes (seats_in s.views) rule.shown v here leaf at_hand few) (seats_in (set s.views seat (alone plan (with_hand v None))))
        (changes rule.core s.views seat plan v (with_hand v None) rule.shown.seats at')) in (
          alone plan (with_hand v None),
          table.gives,
          tt,
          subst (λ (x : List (ℕ × Option B)). Rule (stepped s place (slice_index s.words place) seat x (alone plan (with_hand v None)) table.gives)) (sym slot) kept,
          λ p w m.
              let same = same_alone plan p v w (sym me_is ∙ m) in
              λ i. (alone (same.0 i) (with_hand (same.1 i) None), table.rest me.1),
        )

    pub take_up_allowed : v.hand ≡ None → Contains v.holds.out leaf → Allows Rule slots seat me place (λ n. n) (TakenUp shapes (the_step 0) me)
    take_up_allowed free mine s rule wide at small =
        let at' = at ∙ ap some me_is in
        let here = seat_here shape fits done laws count s rule seat plan v at' in
        let kept = looks s rule at' (Some leaf) (set s.homes leaf none)
        (shown_hand shape fits done laws rule.core s.homes (seats_in s.views) rule.shown v here leaf mine (Some leaf) (set s.homes leaf none) (length-set s.homes leaf none) (λ l n. set_else s.homes leaf l none n)
        (taken_own shape fits done laws rule.core s.homes (seats_in s.views) rule.shown v here leaf free) (seats_in (set s.views seat (alone plan (with_hand v (Some leaf)))))
        (changes rule.core s.views seat plan v (with_hand v (Some leaf)) rule.shown.seats at')) in (
          alone plan (with_hand v (Some leaf)),
          table.takes leaf None,
          emptied shape fits done laws rule.core s.homes (seats_in s.views) rule.shown v here leaf free mine,
          kept,
          λ p w l m e.
              let same = same_alone plan p v w (sym me_is ∙ m) in
              let leaves = same_leaf p place leaf l same.0 place_is e in
              λ i. (alone (same.0 i) (with_hand (same.1 i) (Some (leaves i))), (leaves i, None) ∷ me.1),
        )
