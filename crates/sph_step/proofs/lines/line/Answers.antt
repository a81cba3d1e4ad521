use Rattle.std.proofs.Common.{ℕ, length, sym, subst, ap, arith}
use Rattle.std.specs.Prelude.{Option}
use Rattle.task_graph.specs.Graph.{task_at}
use Rattle.sph_step.specs.inner.Told.{IsAmongSome}
use Rattle.sph_step.proofs.Prepared.{line_made}
use Rattle.sph_step.proofs.lines.line.Goals as goal

pub bounds-ranges-first : goal.bounds-ranges-first
bounds-ranges-first c = omega (arith, ap (λ (p : ℕ × Option ℕ). p.0) c.cells_of-first.ensures, c.requires.cells.first)

pub second_range-requires : goal.second_range-requires
second_range-requires c = subst (IsAmongSome (length c.args.ranges.now)) (sym (ap (λ (p : ℕ × Option ℕ). p.1) c.cells_of-first.ensures)) c.requires.cells.second

pub returns : goal.returns
returns c =
    line_made c.args.ranges.now (task_at c.args.graph.now.tasks c.args.task) c.kind.result c.cells_of-first.result c.second_range.result c.kind.ensures c.cells_of-first.ensures c.second_range.ensures
