use Rattle.std.proofs.Common.{◌≡◌, ◌+◌, ◌*◌, ◌≤◌, arith, inr, length, rules, sym, subst, vec_len, ◌∙◌, Ok}
use Rattle.std.proofs.lemmas.Bool.{false≢true}
use Rattle.sph_snap.specs.Reads.{IsMarkAt}
use Rattle.sph_snap.specs.Snapshot.{snapshot_mark}
use Rattle.sph_snap.proofs.StreamsRead.{IsReadTo, StandsAt, ended, err_answered, fault_answered, mark_cut, no_end, read_more, read_none, snapshot_failed, stands, stream_answered}
use Rattle.sph_snap.proofs.read.read_stream.Goals as goal

pub loop-snapshots-init : goal.loop-snapshots-init
loop-snapshots-init c = subst (λ l. IsReadTo c.args.bytes.now l 0 0) (sym c.new-snapshots.ensures.items) (read_none c.args.bytes.now)

pub overflow_add-least : goal.overflow_add-least
overflow_add-least c =
    let mark : IsMarkAt snapshot_mark c.args.bytes.now c.loop-snapshots.at = c.in_ok-begins_snapshot.ensures.1.0 c.if-branch.true in
    let here : StandsAt c.args.bytes.now c.loop-snapshots.least c.loop-snapshots.at c.in_ok-snapshot.snapshot =
    stands c.args.bytes.now c.loop-snapshots.least c.loop-snapshots.at c.in_ok-snapshot.snapshot (λ i. (c.type_inv.bytes i).fits) mark
    c.in_ok-snapshot.ensures.0 c.in_ok-snapshot.ensures.1 in
    omega (arith, here.ranges.tick)

pub loop-snapshots-preserved : goal.loop-snapshots-preserved
loop-snapshots-preserved c =
    let at = c.loop-snapshots.at in
    let s = c.in_ok-snapshot.snapshot in
    let mark : IsMarkAt snapshot_mark c.args.bytes.now at = c.in_ok-begins_snapshot.ensures.1.0 c.if-branch.true in
    let here = stands c.args.bytes.now c.loop-snapshots.least at s (λ i. (c.type_inv.bytes i).fits) mark c.in_ok-snapshot.ensures.0 c.in_ok-snapshot.ensures.1 in
    read_more c.args.bytes.now c.loop-snapshots.snapshots.items c.push.new.self.items at c.loop-snapshots.least (at + (16 + 84 * c.len.result)) (s.tick + 1) s
    c.loop-snapshots.invariant here c.in_ok-push.ensures.items (omega (arith, c.len.ensures)) (omega arith)

pub loop-snapshots-smaller : goal.loop-snapshots-smaller
loop-snapshots-smaller c =
    let at = c.loop-snapshots.at in
    let s = c.in_ok-snapshot.snapshot in
    let mark : IsMarkAt snapshot_mark c.args.bytes.now at = c.in_ok-begins_snapshot.ensures.1.0 c.if-branch.true in
    let here : StandsAt c.args.bytes.now c.loop-snapshots.least at s =
    stands c.args.bytes.now c.loop-snapshots.least at s (λ i. (c.type_inv.bytes i).fits) mark c.in_ok-snapshot.ensures.0 c.in_ok-snapshot.ensures.1 in
    let within : at + (16 + 84 * length s.rows) ≤ length c.args.bytes.now = here.within in
    omega (arith, c.len.ensures, within)

pub returns-in_err-begins_snapshot : goal.returns-in_err-begins_snapshot
returns-in_err-begins_snapshot c =
    let bytes = c.args.bytes.now in
    let fault = c.in_err-begins_snapshot.field-0.0 in
    let fails = mark_cut bytes c.loop-snapshots.snapshots.items c.loop-snapshots.at c.loop-snapshots.least fault c.loop-snapshots.invariant c.in_err-begins_snapshot.ensures in
    let answer = err_answered bytes c.from_residual.result fault c.from_residual.ensures.1 (inr fails) in
    record { answers = answer; stream = stream_answered bytes c.from_residual.result answer; fault = fault_answered bytes c.from_residual.result answer }

pub returns-in_err-snapshot : goal.returns-in_err-snapshot
returns-in_err-snapshot c =
    let bytes = c.args.bytes.now in
    let fault = c.in_err-snapshot.field-0.0 in
    let result = c.from_residual-in_err-snapshot.result in
    let mark : IsMarkAt snapshot_mark bytes c.loop-snapshots.at = c.in_ok-begins_snapshot.ensures.1.0 c.if-branch.true in
    let fails = snapshot_failed bytes c.loop-snapshots.snapshots.items c.loop-snapshots.at c.loop-snapshots.least fault c.loop-snapshots.invariant mark c.in_err-snapshot.ensures in
    let answer = err_answered bytes result fault c.from_residual-in_err-snapshot.ensures.1 fails in
    record { answers = answer; stream = stream_answered bytes result answer; fault = fault_answered bytes result answer }

pub returns-in_err-check_end : goal.returns-in_err-check_end
returns-in_err-check_end c =
    let bytes = c.args.bytes.now in
    let fault = c.in_err-check_end.field-0.0 in
    let result = c.from_residual-in_err-check_end.result in
    let read = c.loop-snapshots.snapshots in
    let size : vec_len read ≡ length read.items = search rules in
    let none = λ (mark : IsMarkAt snapshot_mark bytes c.loop-snapshots.at). false≢true (sym c.if-branch.false ∙ c.in_ok-begins_snapshot.ensures.1.1 mark) in
    let fails = no_end bytes read.items (vec_len read) c.loop-snapshots.at c.loop-snapshots.least c.is_empty.result fault c.loop-snapshots.invariant size c.is_empty.ensures
    c.in_ok-begins_snapshot.ensures.0 none c.in_err-check_end.ensures in
    let answer = err_answered bytes result fault c.from_residual-in_err-check_end.ensures.1 fails in
    record { answers = answer; stream = stream_answered bytes result answer; fault = fault_answered bytes result answer }

pub returns : goal.returns
returns c =
    let bytes = c.args.bytes.now in
    let read = c.loop-snapshots.snapshots in
    let size : vec_len read ≡ length read.items = search rules in
    let answer = ended bytes read.items (vec_len read) c.loop-snapshots.at c.loop-snapshots.least c.is_empty.result c.loop-snapshots.invariant size c.is_empty.ensures c.in_ok-check_end.ensures in
    record { answers = answer; stream = stream_answered bytes (Ok read) answer; fault = fault_answered bytes (Ok read) answer }
