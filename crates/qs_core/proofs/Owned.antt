-- Which cells a view owns, by its chains.
use Rattle.std.proofs.Common.{◌≡◌, ◌↔◌, ℕ, Contains, sym, subst}
use Rattle.qs_core.specs.Shape.{Shape}
use Rattle.qs_core.specs.Core.{Owns, View}

-- a view with the same chains owns the same cells
pub owns_by_chains : (shape : Shape) (view after : View) (cell : ℕ) → after.chains ≡ view.chains → Owns shape view cell → Owns shape after cell
owns_by_chains shape view after cell same o = record { chain = o.chain; stands = subst (λ cs. Contains cs o.chain) (sym same) o.stands; complete = o.complete; of_cell = o.of_cell }

-- two steps of such a kind
pub both_ways : {P Q R : Type 0} → P ↔ Q → Q ↔ R → P ↔ R
both_ways f g = (λ p. g.0 (f.0 p), λ r. f.1 (g.1 r))

pub other_way : {P Q : Type 0} → P ↔ Q → Q ↔ P
other_way f = (f.1, f.0)
