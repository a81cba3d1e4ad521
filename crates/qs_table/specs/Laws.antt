-- What holds in each state that the rule of a table shows, so at each moment, whoever steps.
use Rattle.std.specs.Prelude.{◌≢◌, ℕ, List, Contains, Option}
use Rattle.atomic_table.specs.Table.{State}
use Rattle.qs_core.specs.Shape.{Shape}
use Rattle.qs_core.specs.Sound.{IsExclusive}
use Rattle.qs_table.specs.declared.view.Bundle.{Bundle}
use Rattle.qs_table.specs.declared.view.SeatView.{SeatView}
use Rattle.qs_table.specs.Rule.{Shows}
use Rattle.qs_table.specs.Seats.{OwnApart}
use Rattle.qs_table.specs.Views.{seats_in}

-- no two of these seats own cells of which one contains the other
abbrev pub OwnAllApart : Shape → List SeatView → Type 0
OwnAllApart shape known = (v w : SeatView) → Contains known v → Contains known w → v.place ≢ w.place → OwnApart shape v.holds w.holds

-- the state of the machine is exclusive, and the seats of all bundles own cells that are apart
abbrev pub IsAlwaysApart : {B : Type 0} (P : Type 0) → Shape → (ℕ → B → Type 0) → (B → List ℕ) → ℕ → Type 0
IsAlwaysApart {B} P shape fits done count =
    (s : State (Option B) (Bundle P)) (rule : Shows shape fits done count s) → IsExclusive shape rule.core × OwnAllApart shape (seats_in s.views)
