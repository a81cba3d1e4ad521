use Rattle.std.proofs.Common.{sym, ap, ◌∙◌}
use Rattle.qs_core.specs.Steps.{view_after}
use Rattle.qs_play.proofs.seat.Seat.make.Goals as goal

pub returns-in-Lock-clause-made : goal.returns-in-Lock-clause-made
returns-in-Lock-clause-made c = c.lock.ensures c.args.layout.now ∙ ap (λ s. view_after c.args.layout.now c.args.self.now s c.args.seen) (sym c.in-Lock.is)

pub returns-in-Lower-clause-made : goal.returns-in-Lower-clause-made
returns-in-Lower-clause-made c = c.lower.ensures c.args.layout.now c.args.seen ∙ ap (λ s. view_after c.args.layout.now c.args.self.now s c.args.seen) (sym c.in-Lower.is)

pub returns-in-Unlock-clause-made : goal.returns-in-Unlock-clause-made
returns-in-Unlock-clause-made c = c.unlock.ensures c.args.layout.now c.args.seen ∙ ap (λ s. view_after c.args.layout.now c.args.self.now s c.args.seen) (sym c.in-Unlock.is)

pub returns-in_ok-fetch-in-Fetch-clause-made : goal.returns-in_ok-fetch-in-Fetch-clause-made
returns-in_ok-fetch-in-Fetch-clause-made c =
    c.in_ok-fetch-in-Fetch.ensures.fetched c.args.layout.now c.args.seen ∙ ap (λ s. view_after c.args.layout.now c.args.self.now s c.args.seen) (sym c.in-Fetch.is)

pub returns-in-Return-clause-made : goal.returns-in-Return-clause-made
returns-in-Return-clause-made c =
    c.bring_home.ensures c.args.layout.now c.args.seen ∙ ap (λ s. view_after c.args.layout.now c.args.self.now s c.args.seen) (sym c.in-Return.is)

pub returns-in-Release-clause-made : goal.returns-in-Release-clause-made
returns-in-Release-clause-made c = c.release.ensures c.args.layout.now c.args.seen ∙ ap (λ s. view_after c.args.layout.now c.args.self.now s c.args.seen) (sym c.in-Release.is)
