use Rattle.std.proofs.Common.{◌≡◌, ◌+◌, ◌-◌, [], All, length, ap, sym, subst, ◌∙◌, arith}
use Rattle.std.proofs.lemmas.List.{length_push}
use Rattle.std.proofs.lemmas.List.Elements.{All-append, All-cons, All-nil}
use Rattle.qs_table.specs.Seats.{IsNewSeat}
use Rattle.qs_table.specs.inner.Plays.{first_alone, without_first}
use Rattle.qs_table.proofs.Gathered.{deals_all, deals_first, deals_last, deals_rest, dealt_is_new, fresh_at}
use Rattle.qs_table.proofs.table.ResTable.deal.Goals as goal

pub loop-dealt-init : goal.loop-dealt-init
loop-dealt-init g c = (
  c.requires.same,
  c.requires.fresh ∙ ap (λ b. (b, [])) (deals_all _ _),
  ap (λ xs. length xs + 1) c.requires.room.0,
  (let some = c.requires.some in omega arith),
  c.requires.room.1,
  subst (All (IsNewSeat c.args.self.now)) (sym c.requires.room.0) (All-nil (IsNewSeat c.args.self.now)),
)

pub split-others-requires : goal.split-others-requires
split-others-requires g c = c.loop-dealt.invariant.0

pub of-requires-clause-fresh : goal.of-requires-clause-fresh
of-requires-clause-fresh g c =
    let v = c.loop-dealt.invariant in
    let few = v.3 in
    let bundle = ap (λ m. m.0) c.split-others.ensures.first.1 ∙ ap (λ m. first_alone m.0) v.1 ∙ deals_first c.args.self.now.plan c.loop-dealt._dealt c.args.seats c.loop-dealt.auto._dealt few in (
      c.args.self.now.plan,
      fresh_at c.split-others.new.seat.me c.args.self.now.plan (c.loop-dealt._dealt - 1) bundle,
    )

pub of-requires-clause-slots : goal.of-requires-clause-slots
of-requires-clause-slots g c = ap (λ m. m.1) c.split-others.ensures.first.1 ∙ ap (λ m. m.1) c.loop-dealt.invariant.1

pub push_reserved-requires : goal.push_reserved-requires
push_reserved-requires g c =
    let len = c.loop-dealt.tokens.ok.0 in
    let v = c.loop-dealt.invariant in
    let many = v.2 in
    let room = v.4 in
    let more = c.loop-dealt-test.true in
    omega (arith, len, many, room, more)

pub loop-dealt-preserved : goal.loop-dealt-preserved
loop-dealt-preserved g c =
    let v = c.loop-dealt.invariant in
    let bundle = ap (λ m. m.0) c.split-others.ensures.first.1 ∙ ap (λ m. first_alone m.0) v.1 ∙ deals_first c.args.self.now.plan c.loop-dealt._dealt c.args.seats c.loop-dealt.auto._dealt v.3 in
    let new = subst (IsNewSeat c.args.self.now) (sym c.of.ensures) (dealt_is_new c.args.self.now c.split-others.new.seat (c.loop-dealt._dealt - 1) c.split-others.ensures.first.0 bundle) in (
      c.split-others.ensures.others.0,
      c.split-others.ensures.others.1 ∙ ap (λ m. (without_first m.0, [])) v.1 ∙ ap (λ b. (b, [])) (deals_rest c.args.self.now.plan c.loop-dealt._dealt c.args.seats c.loop-dealt.auto._dealt v.3),
      (let e = ap length c.push_reserved.ensures.items ∙ length_push _ _ in let many = v.2 in omega (arith, e, many)),
      (let more = c.loop-dealt-test.true in omega arith),
      (let same = c.push_reserved.ensures.capacity in let room = v.4 in omega (arith, same, room)),
      subst (All (IsNewSeat c.args.self.now)) (sym c.push_reserved.ensures.items) (All-append (IsNewSeat c.args.self.now) _ _ v.5 (All-cons (IsNewSeat c.args.self.now) _ [] new (All-nil (IsNewSeat c.args.self.now)))),
    )

pub of-requires-2-clause-fresh : goal.of-requires-2-clause-fresh
of-requires-2-clause-fresh g c =
    let v = c.loop-dealt.invariant in
    let all : c.loop-dealt._dealt ≡ c.args.seats = (let few = v.3 in let last = c.loop-dealt-test.false in omega arith) in (
      c.args.self.now.plan,
      fresh_at c.loop-dealt.first.me c.args.self.now.plan (c.loop-dealt._dealt - 1) (ap (λ m. m.0) v.1 ∙ deals_last c.args.self.now.plan c.loop-dealt._dealt c.args.seats c.loop-dealt.auto._dealt all),
    )

pub of-requires-2-clause-slots : goal.of-requires-2-clause-slots
of-requires-2-clause-slots g c = ap (λ m. m.1) c.loop-dealt.invariant.1

pub push_reserved-requires-2 : goal.push_reserved-requires-2
push_reserved-requires-2 g c =
    let len = c.loop-dealt.tokens.ok.0 in
    let v = c.loop-dealt.invariant in
    let many = v.2 in
    let few = v.3 in
    let room = v.4 in
    omega (arith, len, many, few, room)

pub returns-clause-count : goal.returns-clause-count
returns-clause-count g c =
    let e = ap length c.push_reserved-2.ensures.items ∙ length_push _ _ in
    let v = c.loop-dealt.invariant in
    let many = v.2 in
    let few = v.3 in
    let last = c.loop-dealt-test.false in
    omega (arith, e, many, few, last)

pub returns-clause-each : goal.returns-clause-each
returns-clause-each g c =
    let v = c.loop-dealt.invariant in
    let all : c.loop-dealt._dealt ≡ c.args.seats = (let few = v.3 in let last = c.loop-dealt-test.false in omega arith) in
    let bundle = ap (λ m. m.0) v.1 ∙ deals_last c.args.self.now.plan c.loop-dealt._dealt c.args.seats c.loop-dealt.auto._dealt all in
    let new = subst (IsNewSeat c.args.self.now) (sym c.of-2.ensures) (dealt_is_new c.args.self.now c.loop-dealt.first (c.loop-dealt._dealt - 1) v.0 bundle) in
    subst (All (IsNewSeat c.args.self.now)) (sym c.push_reserved-2.ensures.items) (All-append (IsNewSeat c.args.self.now) _ _ v.5 (All-cons (IsNewSeat c.args.self.now) _ [] new (All-nil (IsNewSeat c.args.self.now))))
