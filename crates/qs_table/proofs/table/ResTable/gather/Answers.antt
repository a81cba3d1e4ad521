use Rattle.std.proofs.Common.{◌++◌, [], All, ap, sym, ◌∙◌, subst}
use Rattle.std.proofs.lemmas.List.Elements.{All-append, All-cons, All-nil}
use Rattle.qs_table.specs.Seats.{IsIdleSeat}
use Rattle.qs_table.specs.inner.Tokens.{HoldsNone}
use Rattle.qs_table.proofs.Gathered.{all_before, all_last, first_gathered, more_gathered, popped}
use Rattle.qs_table.proofs.table.ResTable.gather.Goals as goal

pub into_seat-whole-requires : goal.into_seat-whole-requires
into_seat-whole-requires g c = record { idle = (all_last (IsIdleSeat c.args.self.now) _ _ (subst (All (IsIdleSeat c.args.self.now)) (popped _ _ _ _ c.pop.ensures.items c.unwrap.ensures) c.requires.each)).idle }

pub loop-seat-init : goal.loop-seat-init
loop-seat-init g c =
    let is = popped _ _ _ _ c.pop.ensures.items c.unwrap.ensures in
    let all = subst (All (IsIdleSeat c.args.self.now)) is c.requires.each in
    let last = all_last (IsIdleSeat c.args.self.now) _ _ all in
    let seat = c.into_seat-whole.ensures in
    let one = ap (λ m. m.0.seats) seat.alone.2 in (
      seat.table ∙ last.of_table.same,
      (λ f. first_gathered f _ _ _ _ is one),
      subst (All HoldsNone) (sym one) (All-cons HoldsNone _ [] seat.empty (All-nil HoldsNone)),
      all_before (IsIdleSeat c.args.self.now) _ _ all,
    )

pub into_seat-requires : goal.into_seat-requires
into_seat-requires g c = record { idle = (all_last (IsIdleSeat c.args.self.now) _ _ (subst (All (IsIdleSeat c.args.self.now)) (popped _ _ _ _ c.pop-in-loop-seat.ensures.items c.in-Some.is) c.loop-seat.invariant.3)).idle }

pub join-requires-clause-same : goal.join-requires-clause-same
join-requires-clause-same g c =
    let last = all_last (IsIdleSeat c.args.self.now) _ _ (subst (All (IsIdleSeat c.args.self.now)) (popped _ _ _ _ c.pop-in-loop-seat.ensures.items c.in-Some.is) c.loop-seat.invariant.3) in
    (c.loop-seat.invariant.0, c.into_seat.ensures.table ∙ last.of_table.same)

pub join-requires-clause-slots : goal.join-requires-clause-slots
join-requires-clause-slots g c = ap (λ m. m.1) c.into_seat.ensures.alone.2

pub loop-seat-preserved : goal.loop-seat-preserved
loop-seat-preserved g c =
    let v = c.loop-seat.invariant in
    let is = popped _ _ _ _ c.pop-in-loop-seat.ensures.items c.in-Some.is in
    let one = ap (λ m. m.0.seats) c.into_seat.ensures.alone.2 in
    let both = ap (λ m. m.0.seats) c.join.ensures.1 ∙ ap (λ vs. c.loop-seat.whole.me.0.seats ++ vs) one in (
      c.join.ensures.0,
      (λ f. more_gathered f _ _ _ _ _ _ is both (v.1 f)),
      subst (All HoldsNone) (sym both) (All-append HoldsNone _ _ v.2 (All-cons HoldsNone _ [] c.into_seat.ensures.empty (All-nil HoldsNone))),
      all_before (IsIdleSeat c.args.self.now) _ _ (subst (All (IsIdleSeat c.args.self.now)) is v.3),
    )
