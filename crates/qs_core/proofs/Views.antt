-- The views and the words after a step of one seat.
use Rattle.std.proofs.Common.{◌≡◌, ◌≢◌, ℕ, ◌+◌, ◌<◌, ◌≤◌, ◌⊎◌, List, length, get_or, set, slice_get, slice_set, sum_by, Some, sym, ap, ◌∙◌, inl, inr}
use Rattle.std.specs.Prelude.{unwrap_or}
use Rattle.std.proofs.lemmas.Bool.{cases_eq}
use Rattle.std.proofs.lemmas.List.Sums.{sum_by-set}
use Rattle.std.proofs.lemmas.Option.{slice_get-get_or, same_Some, unwrap_or-slice_get}
use Rattle.lists.proofs.Sums.{share-le}
use Rattle.lists.proofs.Places.{Contains-from_slice_get, slice_get-set_same, slice_get-set_other}
use Rattle.qs_core.specs.Shape.{Shape, task_at, no_task}
use Rattle.qs_core.specs.Core.{Core, View, empty_view, view_at}
use Rattle.qs_core.specs.Sound.{IsView}

-- the state with a seat's view and the words changed
abbrev pub changed : Core → List ℕ → ℕ → View → Core
changed core words seat new = record { words = words; views = slice_set core.views seat new }

-- the view of a seat is an element
pub view_at-get_or : (views : List View) (seat : ℕ) → view_at views seat ≡ get_or views seat empty_view
view_at-get_or views seat = unwrap_or-slice_get views seat empty_view

-- a seat below the count has its view
pub IsView-view_at : (core : Core) (seat : ℕ) → seat < length core.views → IsView core seat (view_at core.views seat)
IsView-view_at core seat l = record { is = slice_get-get_or core.views seat empty_view l ∙ ap Some (sym (view_at-get_or core.views seat)) }

-- the view of a seat is the one that it has
pub view_at_is : (core : Core) (seat : ℕ) (view : View) → IsView core seat view → view_at core.views seat ≡ view
view_at_is core seat view v = ap (λ o. unwrap_or o empty_view) v.is

-- another seat keeps its view
pub IsView-changed_other : (core : Core) (words : List ℕ) (seat : ℕ) (new : View) (other : ℕ) (view : View) → other ≢ seat
    → IsView core other view → IsView (changed core words seat new) other view
IsView-changed_other core words seat new other view n v = record { is = slice_get-set_other core.views seat other new n ∙ v.is }

pub view_at-changed_same : (views : List View) (seat : ℕ) (new : View) → seat < length views → view_at (slice_set views seat new) seat ≡ new
view_at-changed_same views seat new l = ap (λ o. unwrap_or o empty_view) (slice_get-set_same views seat new l)

pub view_at-changed_other : (views : List View) (seat other : ℕ) (new : View) → other ≢ seat → view_at (slice_set views seat new) other ≡ view_at views other
view_at-changed_other views seat other new n = ap (λ o. unwrap_or o empty_view) (slice_get-set_other views seat other new n)

-- a view after a change: the new one of the seat
pub record IsNew (seat : ℕ) (new : View) (other : ℕ) (view : View) : Type 0 where
  pub of_seat : other ≡ seat
  pub is : new ≡ view

-- another seat's view, as it was
pub record IsOther (core : Core) (seat other : ℕ) (view : View) : Type 0 where
  pub apart : other ≢ seat
  pub was : IsView core other view

-- each view is one or the other
pub view_cases : (core : Core) (words : List ℕ) (seat : ℕ) (new : View) (other : ℕ) (view : View) → seat < length core.views
    → IsView (changed core words seat new) other view → IsNew seat new other view ⊎ IsOther core seat other view
view_cases core words seat new other view l v =
    elim (cases_eq other seat) [
      | inl e ↦ inl (record { of_seat = e; is = same_Some new view (sym (slice_get-set_same core.views seat new l) ∙ ap (slice_get (set core.views seat new)) (sym e) ∙ v.is) })
      | inr n ↦ inr (record { apart = n; was = record { is = sym (slice_get-set_other core.views seat other new n) ∙ v.is } })
    ]

-- a sum over the views after a change
pub sum_by-views : (f : View → ℕ) (views : List View) (seat : ℕ) (new : View) → seat < length views
    → sum_by f (slice_set views seat new) + f (view_at views seat) ≡ sum_by f views + f new
sum_by-views f views seat new l = rw (view_at-get_or views seat) (sum_by-set f views seat new empty_view l)

-- a view's part is at most the sum
pub part-le-sum_by : (f : View → ℕ) (core : Core) (seat : ℕ) (view : View) → IsView core seat view → f view ≤ sum_by f core.views
part-le-sum_by f core seat view v = share-le f core.views view (Contains-from_slice_get core.views seat view v.is)

-- the shape of a task is an element
pub task_at-get_or : (shape : Shape) (task : ℕ) → task_at shape task ≡ get_or shape.tasks task no_task
task_at-get_or shape task = unwrap_or-slice_get shape.tasks task no_task
