use Rattle.std.proofs.Common.{ap}
use Rattle.qs_family.specs.declared.family.Family.{Family}
use Rattle.qs_family.specs.Family.{family}
use Rattle.qs_table.proofs.Worked.{brings, first_ready, may_fetch, may_release, over_two, two_can_give, two_gave}
use Rattle.qs_table.proofs.table.tests.works.Goals as goal

pub fetch-requires-clause-can : goal.fetch-requires-clause-can
fetch-requires-clause-can c = may_fetch _ (ap (λ (f : Family). family f.has_tasks f.has_third) c.requires.plan) c.args.task c.requires.task c.args.seat.now.view c.requires.runs

pub apply-requires-clause-first : goal.apply-requires-clause-first
apply-requires-clause-first c = first_ready _ (ap (λ (f : Family). family f.has_tasks f.has_third) c.requires.plan) c.args.task c.requires.task _ c.requires.runs _ _ (λ leaf b. tt) _ c.fetch.ensures.fetched

pub put_back-requires-clause-brought : goal.put_back-requires-clause-brought
put_back-requires-clause-brought c =
    brings _ (ap (λ (f : Family). family f.has_tasks f.has_third) c.requires.plan) c.args.task c.requires.task _ c.requires.runs _ _ (λ leaf b. tt) _ c.fetch.ensures.fetched _ c.fetch.ensures.view c.apply.new.first _ c.apply.ensures.first

pub release-requires-clause-can : goal.release-requires-clause-can
release-requires-clause-can c =
    may_release _ (ap (λ (f : Family). family f.has_tasks f.has_third) c.requires.plan) c.args.task c.requires.task _ c.requires.runs _ _ (λ leaf b. tt) _ c.fetch.ensures.fetched _ c.fetch.ensures.view _ c.put_back.ensures.view

pub give_cell-requires-clause-can : goal.give_cell-requires-clause-can
give_cell-requires-clause-can c =
    two_can_give c.release.new.seat.view
    (over_two _ (ap (λ (f : Family). family f.has_tasks f.has_third) c.requires.plan) c.args.task c.requires.task _ c.requires.runs _ _ (λ leaf b. tt) _ c.fetch.ensures.fetched _ c.fetch.ensures.view _ c.put_back.ensures.view _ _ _
    c.release.ensures.over)

pub returns-clause-seat : goal.returns-clause-seat
returns-clause-seat c = record {
  of_table = c.give_cell.ensures.seat;
  empty = two_gave c.release.new.seat.view c.give_cell.new.seat.view
      (over_two _ (ap (λ (f : Family). family f.has_tasks f.has_third) c.requires.plan) c.args.task c.requires.task _ c.requires.runs _ _ (λ leaf b. tt) _ c.fetch.ensures.fetched _ c.fetch.ensures.view _ c.put_back.ensures.view _ _ _
      c.release.ensures.over)
      c.give_cell.ensures.gave;
}
