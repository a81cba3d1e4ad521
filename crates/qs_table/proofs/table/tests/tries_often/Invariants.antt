use Rattle.qs_table.specs.inner.Tokens.{IsEmptySeat}
use Rattle.qs_table.proofs.table.tests.tries_often.Given as goal

abbrev pub invariant-loop-round : goal.invariant-loop-round
invariant-loop-round l = IsEmptySeat l.table l.seat
