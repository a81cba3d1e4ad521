use Rattle.std.proofs.Common.{rules, arith, length, ◌-◌, ◌≤◌, length-drop}
use Rattle.std.proofs.lemmas.Result.{err_from_is_err_and}
use Rattle.std.proofs.lemmas.List.{take_rest}
use Rattle.sph_edge.proofs.Pieces.{Appends-next, AppendsPrefix-next}
use Rattle.sph_edge.proofs.whole.write_whole.Goals as goal

pub returns-in_err-done-clause-some : goal.returns-in_err-done-clause-some
returns-in_err-done-clause-some g c =
    let p = err_from_is_err_and c.from_residual.result c.from_residual.ensures.1 in
    rw p.1 (AppendsPrefix-next _ _ _ c.args.bytes.now c.loop-done.done c.loop-done.invariant.within c.loop-done.invariant.given c.in_err-done.ensures.bytes)

pub loop-done-preserved : goal.loop-done-preserved
loop-done-preserved g c =
    let bytes = c.in_ok-done.ensures.bytes in
    let most : c.in_ok-done.field-0 ≤ length c.args.bytes.now - c.loop-done.done = simp (take_rest, length-drop) at bytes.0 in
    record {
      within = omega arith;
      given = Appends-next _ _ _ c.args.bytes.now c.loop-done.done c.in_ok-done.field-0 c.loop-done.invariant.given bytes.2;
      cause = search rules;
    }
