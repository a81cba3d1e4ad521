-- The pieces one after the other, and the end behind them.
use Rattle.std.proofs.Common.{◌≡◌, ◌+◌, ◌*◌, ◌^◌, refl, sym, ◌∙◌, arith, rules}
use Rattle.std.proofs.KnownBytes.{Appends-nil}
use Rattle.sph_run.specs.Stream.{IsSnapshotTick}
use Rattle.sph_run.specs.inner.Pieces.{pieces}
use Rattle.sph_run.proofs.Streams.{Appends-end, Appends-piece, AppendsPiecesIn-some, AppendsPrefix-end, AppendsPrefix-piece}
use Rattle.sph_run.proofs.Ticks.{IsSnapshotTick-multiple, IsStepTick-snapshot, before_step_after, step-le}
use Rattle.sph_run.proofs.runs.run_by.Goals as goal

pub loop-k-init : goal.loop-k-init
unfolding pieces
loop-k-init g c = record {
  due = search rules;
  soon = omega arith;
  before = c.in-Ok.ensures.before;
  written = Appends-nil (g.O.Sink.held c.args.out.now);
  cause = refl;
}

pub piece_bytes-requires-clause-tick : goal.piece_bytes-requires-clause-tick
piece_bytes-requires-clause-tick g c = IsSnapshotTick-multiple c.args.deck.now.params c.loop-k.k (omega arith)

pub returns-in_default-piece_bytes-clause-memory : goal.returns-in_default-piece_bytes-clause-memory
returns-in_default-piece_bytes-clause-memory g c = λ _. AppendsPiecesIn-some c.args.form c.args.deck.now _ _ c.loop-k.k (omega arith) c.loop-k.invariant.written

pub returns-in_default-write_whole-clause-write_fault_output : goal.returns-in_default-write_whole-clause-write_fault_output
returns-in_default-write_whole-clause-write_fault_output g c =
    λ _. AppendsPrefix-piece c.args.form c.args.deck.now _ _ _ c.loop-k.k c.deref.result.now (omega arith)
    (c.deref.ensures.value ∙ c.in-Ok-piece_bytes.ensures.bytes) c.loop-k.invariant.written c.in_default-write_whole.ensures.some

pub loop-k-preserved : goal.loop-k-preserved
loop-k-preserved g c =
    let deck = c.args.deck.now in
    let tick = c.loop-k.k * deck.params.every in
    let at : IsSnapshotTick deck.params tick = IsSnapshotTick-multiple deck.params c.loop-k.k (omega arith) in
    let step = IsStepTick-snapshot deck.params deck.particles tick deck.accepted at in
    let is : c.next_tick-next.result ≡ tick + 2 ^ deck.params.bin_min = c.next_tick-next.ensures.of_step_tick step.due in
    record {
      due = c.next_tick-next.ensures.value.due;
      soon = omega (arith, step-le deck.params deck.particles deck.accepted);
      before = c.in-Ok-piece_bytes.ensures.after ∙ sym (before_step_after deck tick c.next_tick-next.result step is);
      written = Appends-piece c.args.form deck _ _ _ c.loop-k.k c.deref.result.now
          (c.deref.ensures.value ∙ c.in-Ok-piece_bytes.ensures.bytes) c.loop-k.invariant.written c.in-Ok-write_whole.ensures.all;
      cause = search rules;
    }

pub returns-in-Ok-write_end-clause-done : goal.returns-in-Ok-write_end-clause-done
returns-in-Ok-write_end-clause-done g c =
    λ _. Appends-end c.args.form c.args.deck.now _ _ _ c.loop-k.k (omega arith) c.loop-k.invariant.written c.in-Ok-write_end.ensures.all

pub returns-clause-write_fault_output : goal.returns-clause-write_fault_output
returns-clause-write_fault_output g c =
    λ _. AppendsPrefix-end c.args.form c.args.deck.now _ _ _ c.loop-k.k (omega arith) c.loop-k.invariant.written c.in-Err.ensures.some
