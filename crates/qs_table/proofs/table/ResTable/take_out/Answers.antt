use Rattle.std.proofs.Common.{◌≡◌, ◌∷◌, ◌∙◌, Some, None, refl, sym, ap, subst, arith}
use Rattle.std.specs.Option.{IsSome}
use Rattle.std.proofs.lemmas.Option.{same_Some}
use Rattle.atomic_table.specs.Table.{rest}
use Rattle.qs_core.specs.Core.{leaf_place}
use Rattle.qs_core.specs.Steps.{CanFetch}
use Rattle.qs_table.specs.Leaves.{IsFetched}
use Rattle.qs_table.specs.Seats.{TableView}
use Rattle.qs_table.specs.Views.{alone, knows_fetched}
use Rattle.qs_table.specs.inner.Plays.{TookBlock, seat_in}
use Rattle.qs_table.proofs.LeafSteps.{fetch_allowed}
use Rattle.qs_table.proofs.Sitting.{front_and_rest, knows_is, same_front, sits_after}
use Rattle.qs_table.proofs.table.ResTable.take_out.Given.{Over}
use Rattle.qs_table.proofs.table.ResTable.take_out.Goals.{After-swap, After-unwrap}
use Rattle.qs_table.proofs.table.ResTable.take_out.Goals as goal

pub swap-requires : goal.swap-requires
swap-requires g c =
    let W = g.W.Work in
    let laid = c.self.invariant.0 in
    let id = ap (λ (t : TableView _). t.id) c.self.view_is in
    let plan = ap (λ (t : TableView _). t.plan) c.self.view_is in
    let word = c.leaf_word-word.ensures ∙ ap (λ p. leaf_place (W.shape p) c.args.leaf) (sym plan) in
    let can = subst (λ p. CanFetch (W.shape p) (seat_in c.args.seat.now.me.0).holds c.args.leaf) (sym plan) c.requires.can in (
      c.requires.sits.same ∙ sym id,
      (let many = laid.words_are in let leaf = can.is_leaf in omega (arith, many, leaf, word)),
      fetch_allowed W.shape W.fits W.done _ laid.laws _ _ _ _ c.args.leaf (seat_in c.args.seat.now.me.0) _ (c.requires.sits.alone_is ∙ ap (λ p. alone p (seat_in c.args.seat.now.me.0)) (sym plan)) word c.requires.hand can,
    )

told : (g : Over) (c : After-swap g) → TookBlock g.W.Work.shape g.W.Work.fits g.W.Work.done c.args.self.now.plan (seat_in c.args.seat.now.me.0) c.args.leaf c.args.seat.now.me.1 c.swap.new.seat.me
told g c = c.swap.ensures.2 c.args.self.now.plan (seat_in c.args.seat.now.me.0) c.args.leaf c.requires.sits.alone_is c.leaf_word-word.ensures

pub exchange-requires : goal.exchange-requires
exchange-requires g c =
    let h = told g (goal.at.exchange-requires g c).After-swap in
    (c.swap.ensures.0 ∙ c.requires.sits.same ∙ sym (ap (λ (t : TableView _). t.id) c.self.view_is), (Some h.block, front_and_rest _ _ _ _ (ap (λ m. m.1) h.is)))

pub unwrap-requires : goal.unwrap-requires
unwrap-requires g c =
    let h = told g (goal.at.unwrap-requires g c).After-swap in
    subst IsSome (same_front _ _ _ _ _ _ (ap (λ m. m.1) h.is) c.exchange.ensures.2) refl

-- the block is the one that was told
same_block : (g : Over) (c : After-unwrap g) → (told g (goal.at.returns-clause-sits g c).After-swap).block ≡ c.unwrap.result
same_block g c = same_Some _ _ (same_front _ _ _ _ _ _ (ap (λ m. m.1) (told g (goal.at.returns-clause-sits g c).After-swap).is) c.exchange.ensures.2 ∙ c.unwrap.ensures)

made : (g : Over) (c : After-unwrap g) → c.exchange.new.seat.me ≡ (alone c.args.self.now.plan (knows_fetched (g.W.Work.shape c.args.self.now.plan) (seat_in c.args.seat.now.me.0) c.args.leaf (g.W.Work.done c.unwrap.result) (Some c.args.leaf)), (c.args.leaf, None) ∷ c.args.seat.now.me.1)
made g c =
    c.exchange.ensures.3
    ∙ ap (λ m. (m.0, (c.args.leaf, None) ∷ rest m.1)) (told g (goal.at.returns-clause-sits g c).After-swap).is
    ∙ ap (λ b. (alone c.args.self.now.plan (knows_fetched (g.W.Work.shape c.args.self.now.plan) (seat_in c.args.seat.now.me.0) c.args.leaf (g.W.Work.done b) (Some c.args.leaf)), (c.args.leaf, None) ∷ c.args.seat.now.me.1)) (same_block g c)

pub returns-clause-sits : goal.returns-clause-sits
returns-clause-sits g c = sits_after _ _ _ _ _ c.requires.sits (c.exchange.ensures.0 ∙ c.swap.ensures.0) (made g c)

pub returns-clause-fetched : goal.returns-clause-fetched
returns-clause-fetched g c =
    subst (IsFetched (g.W.Work.shape c.args.self.now.plan) (g.W.Work.fits c.args.self.now.plan) g.W.Work.done (seat_in c.args.seat.now.me.0) c.args.leaf) (same_block g c) (told g (goal.at.returns-clause-fetched g c).After-swap).fetched

pub returns-clause-knows : goal.returns-clause-knows
returns-clause-knows g c = knows_is _ _ _ _ (made g c)

pub returns-clause-slots : goal.returns-clause-slots
returns-clause-slots g c = ap (λ m. m.1) (made g c)
