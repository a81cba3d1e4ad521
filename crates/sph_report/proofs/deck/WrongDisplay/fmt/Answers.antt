-- A format's pieces are joined from the right, and the words of a fault from the left.
use Rattle.std.proofs.Common.{◌≡◌, append_assoc}
use Rattle.sph_deck.specs.declared.fault.DeckFault.TheVariants.{BadEvery, BadTicks, BadBins}
use Rattle.sph_report.proofs.deck.WrongDisplay.fmt.Goals as goal

pub returns-in-BadEvery-clause-writes : goal.returns-in-BadEvery-clause-writes
returns-in-BadEvery-clause-writes g c plain ok =
    let is : c.args.self.now.0 ≡ BadEvery c.in-BadEvery.every c.in-BadEvery.unit = c.in-BadEvery.is in
    rw is (simp append_assoc (c.write-in-BadEvery.ensures.writes plain ok))

pub returns-in-BadTicks-clause-writes : goal.returns-in-BadTicks-clause-writes
returns-in-BadTicks-clause-writes g c plain ok =
    let is : c.args.self.now.0 ≡ BadTicks c.in-BadTicks.ticks c.in-BadTicks.every = c.in-BadTicks.is in
    rw is (simp append_assoc (c.write-in-BadTicks.ensures.writes plain ok))

pub returns-in-BadBins-clause-writes : goal.returns-in-BadBins-clause-writes
returns-in-BadBins-clause-writes g c plain ok =
    let is : c.args.self.now.0 ≡ BadBins c.in-BadBins.min c.in-BadBins.max = c.in-BadBins.is in
    rw is (simp append_assoc (c.write-in-BadBins.ensures.writes plain ok))
