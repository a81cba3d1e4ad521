-- The tasks whose marks are set.
use Rattle.std.proofs.Common.{◌≡◌, ℕ, ◌==◌, ◌&&◌, Bool, true, false, cond, List, [], ◌∷◌, map, filter, ◌++◌, ◌+◌, ◌<◌, ◌≤◌, get_or, set, take, drop, length, inl, inr, refl, ap, sym, ◌∙◌, arith}
use Rattle.std.specs.Bool.{Decides, MatchBool}
use Rattle.std.specs.List.{Contains, list_any}
use Rattle.std.proofs.lemmas.Bool.{both_ways, cases_eq, eq-eqb, ne_eqb}
use Rattle.std.proofs.lemmas.Bool.Decides.{Decides-and, Decides-eqb}
use Rattle.std.proofs.lemmas.List.{append-nil, drop_all, get_or_default, take_all}
use Rattle.std.proofs.lemmas.List.Edits.{map_over_more}
use Rattle.lists.proofs.Elements.{Contains-filter, Contains-from_filter, Contains-head, Contains-later, Contains-map, Contains-nil, cases_Contains-cons, passes_from_filter}
use Rattle.cell_block.specs.declared.rows.Mark.{Mark}
use Rattle.cell_block.specs.Blocks.{AreDoneWith}
use Rattle.cell_block.specs.Reading.{with_done}
use Rattle.cell_block.proofs.Done.{Contains-from_list_any, list_any-from_Contains}

-- what a list of f's values has is the value at an element
pub Contains-from_map : {X Y : Type 0} (f : X → Y) (xs : List X) (y : Y) → Contains (map f xs) y → (x : X) × Contains xs x × (f x ≡ y)
Contains-from_map f [] y at = absurd (Contains-nil y at)
Contains-from_map f (x ∷ xs) y at =
    cases_Contains-cons ((z : _) × Contains (x ∷ xs) z × (f z ≡ y)) (f x) (map f xs) y
    (λ e. (x, Contains-head x xs, e))
    (λ later. let rest = Contains-from_map f xs y later in (rest.0, Contains-later x xs rest.0 rest.1, rest.2))
    at

-- the mark of a task that is done
pub record IsDoneMark (marks : List Mark) (task : ℕ) : Type 0 where
  pub mark : Mark
  pub stands : Contains marks mark
  pub done : mark.done ≡ true
  pub of_task : mark.task ≡ task

pub done_mark : (marks : List Mark) (task : ℕ) → Contains (map (λ (m : Mark). m.task) (filter (λ (m : Mark). m.done) marks)) task → IsDoneMark marks task
done_mark marks task at =
    let set = filter (λ (m : Mark). m.done) marks in
    let is = Contains-from_map (λ (m : Mark). m.task) set task at in
    record {
      mark = is.0;
      stands = Contains-from_filter (λ (m : Mark). m.done) marks is.0 is.1;
      done = passes_from_filter (λ (m : Mark). m.done) marks is.0 is.1;
      of_task = is.2;
    }

pub from_done_mark : (marks : List Mark) (task : ℕ) → IsDoneMark marks task → Contains (map (λ (m : Mark). m.task) (filter (λ (m : Mark). m.done) marks)) task
from_done_mark marks task is =
    let set = filter (λ (m : Mark). m.done) marks in
    let held = Contains-map (λ (m : Mark). m.task) set is.mark (Contains-filter (λ (m : Mark). m.done) marks is.mark is.done is.stands) in
    rw is.of_task at held

-- the test of the marks decides whether the task is done
pub done-decides : (marks : List Mark) (task : ℕ) → Decides (list_any (λ (m : Mark). m.done && m.task == task) marks) (Contains (map (λ (m : Mark). m.task) (filter (λ (m : Mark). m.done) marks)) task)
done-decides marks task =
    let test = λ (m : Mark). m.done && m.task == task in
    let tells = λ (m : Mark). Decides-and {P = m.done ≡ true} {Q = m.task ≡ task} m.done (m.task == task) (λ t. t, λ t. t) (Decides-eqb m.task task) in (
      λ t.
          let some = Contains-from_list_any test marks t in
          let both = (tells some.0).0 some.2 in
          from_done_mark marks task (record { mark = some.0; stands = some.1; done = both.0; of_task = both.1 }),
      λ at.
          let is = done_mark marks task at in
          list_any-from_Contains test marks is.mark is.stands ((tells is.mark).1 (is.done, is.of_task)),
    )

-- a mark that is set or left
pub set_here : (task : ℕ) (m : Mark) → m.task ≡ task → with_done task m ≡ record m { done = true }
set_here task m same = ap (λ b. cond b (record m { done = true }) m) (eq-eqb m.task task same)

pub left_here : (task : ℕ) (m : Mark) → (m.task ≡ task → ⊥) → with_done task m ≡ m
left_here task m other = ap (λ b. cond b (record m { done = true }) m) (ne_eqb m.task task other)

-- with the marks of a task set that is kept, the task is done besides
pub with_done-more : (marks : List Mark) (task : ℕ) → Contains (map (λ (m : Mark). m.task) marks) task
    → AreDoneWith (map (λ (m : Mark). m.task) (filter (λ (m : Mark). m.done) marks)) task (map (λ (m : Mark). m.task) (filter (λ (m : Mark). m.done) (map (with_done task) marks)))
with_done-more marks task kept t = (
  λ at.
      let new = done_mark (map (with_done task) marks) t at in
      let old = Contains-from_map (with_done task) marks new.mark new.stands in
      elim (cases_eq old.0.task task) [
        | inl e ↦ inr (sym new.of_task ∙ ap (λ (m : Mark). m.task) (sym old.2 ∙ set_here task old.0 e) ∙ e)
        | inr other ↦
            let same : new.mark ≡ old.0 = sym old.2 ∙ left_here task old.0 other in
            inl (from_done_mark marks t (record { mark = old.0; stands = old.1; done = ap (λ (m : Mark). m.done) (sym same) ∙ new.done; of_task = ap (λ (m : Mark). m.task) (sym same) ∙ new.of_task }))
      ],
  λ some. elim some [
    | inl was ↦
        let old = done_mark marks t was in
        from_done_mark (map (with_done task) marks) t (record {
          mark = with_done task old.mark;
          stands = Contains-map (with_done task) marks old.mark old.stands;
          done = elim (cases_eq old.mark.task task) [
            | inl e ↦ ap (λ (m : Mark). m.done) (set_here task old.mark e)
            | inr other ↦ ap (λ (m : Mark). m.done) (left_here task old.mark other) ∙ old.done
          ];
          of_task = elim (cases_eq old.mark.task task) [
            | inl e ↦ ap (λ (m : Mark). m.task) (set_here task old.mark e) ∙ old.of_task
            | inr other ↦ ap (λ (m : Mark). m.task) (left_here task old.mark other) ∙ old.of_task
          ];
        })
    | inr is ↦
        let held = Contains-from_map (λ (m : Mark). m.task) marks task kept in
        from_done_mark (map (with_done task) marks) t (record {
          mark = with_done task held.0;
          stands = Contains-map (with_done task) marks held.0 held.1;
          done = ap (λ (m : Mark). m.done) (set_here task held.0 held.2);
          of_task = ap (λ (m : Mark). m.task) (set_here task held.0 held.2) ∙ held.2 ∙ sym is;
        })
  ],
)

-- so the test tells whether the task is done
decided : (P : Type 0) (r : Bool) → Decides r P → MatchBool r P (P → ⊥)
decided P true tells = tells.0 refl
decided P false tells = λ is. both_ways false refl (tells.1 is)

pub is_done-tells : (marks seen : List Mark) (task : ℕ) (r : Bool) → seen ≡ marks → r ≡ list_any (λ (m : Mark). m.done && m.task == task) seen
    → MatchBool r (Contains (map (λ (m : Mark). m.task) (filter (λ (m : Mark). m.done) marks)) task) (Contains (map (λ (m : Mark). m.task) (filter (λ (m : Mark). m.done) marks)) task → ⊥)
is_done-tells marks seen task r same is =
    decided (Contains (map (λ (m : Mark). m.task) (filter (λ (m : Mark). m.done) marks)) task) r
    (rw (is, same) (done-decides marks task))

-- the marks as far as a loop has come
pub mark_step : (marks items : List Mark) (i task : ℕ) (d mark : Mark) → i < length marks → items ≡ map (with_done task) (take i marks) ++ drop i marks → length items ≡ length marks
    → mark ≡ with_done task (get_or items i d) → set items i mark ≡ map (with_done task) (take (i + 1) marks) ++ drop (i + 1) marks
mark_step marks items i task d mark inside are long is =
    let here : i < length items = omega arith in
    rw is (map_over_more (with_done task) marks items i (get_or items i d) inside are (get_or_default items i d (get_or items i d) here))

-- so all of them, once the loop is over
pub all_marked : (marks old items left : List Mark) (i task : ℕ) → left ≡ items → old ≡ marks → length old ≤ i → items ≡ map (with_done task) (take i old) ++ drop i old → left ≡ map (with_done task) marks
all_marked marks old items left i task stays same over are =
    stays
    ∙ are
    ∙ ap (λ ms. map (with_done task) ms ++ drop i old) (take_all i old over)
    ∙ ap (λ ms. map (with_done task) old ++ ms) (drop_all i old over)
    ∙ append-nil (map (with_done task) old)
    ∙ ap (map (with_done task)) same
