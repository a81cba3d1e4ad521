use Rattle.std.proofs.Common.{◌<◌, length, sym, ap, ◌∙◌, subst, vec_capacity, Some, arith}
use Rattle.std.proofs.lemmas.List.{length-map}
use Rattle.qs_table.specs.inner.Slots.{AreFreshSlots, blocks_in}
use Rattle.qs_table.proofs.Drained.{blocks_in_all, fresh_slots}
use Rattle.qs_table.proofs.Opened.{laid_out, opens}
use Rattle.qs_table.proofs.table.ResTable.fill.Goals as goal

pub returns-in-Err-clause-no_room : goal.returns-in-Err-clause-no_room
returns-in-Err-clause-no_room g c = c.drain_slots-blocks.ensures ∙ ap blocks_in c.fill_slots.ensures.moved ∙ blocks_in_all _

pub new-requires-2 : goal.new-requires-2
new-requires-2 g c =
    let W = g.W.Work in
    let plan = W.plan c.args.work.now in
    rw c.of.ensures (opens c.args.seats (W.shape plan) (W.fits plan) W.done c.cells-cells.ensures.laws _ _ plan (c.as_slice.ensures.value ∙ c.requires.words)
    (subst (AreFreshSlots (W.shape plan) (W.fits plan) W.done) (sym c.fill_slots.ensures.moved) (fresh_slots (W.shape plan) (W.fits plan) W.done _ c.requires.fresh)))

pub invariant_of-made : goal.invariant_of-made
invariant_of-made g c =
    let W = g.W.Work in
    let ok = c.in-Ok-new.ensures.ok in
    let slots = ok.1 ∙ ap length c.fill_slots.ensures.moved ∙ length-map c.args.blocks.items Some in (
      laid_out (W.shape (W.plan c.args.work.now)) _ _ _ _ (ap (λ a. W.shape (W.plan a.work.value)) ok.5 ∙ ap (λ w. W.shape (W.plan w)) c.of.ensures) c.cells-cells.ensures.laws c.requires.lines c.requires.words
          (ok.0 ∙ ap length c.as_slice.ensures.value) (slots ∙ c.requires.fresh.fitting.one_each),
      ap (λ v. v.items) c.in-Ok.ensures.ok ∙ c.fill_slots.ensures.emptied,
      (let same = ap vec_capacity c.in-Ok.ensures.ok ∙ c.fill_slots.ensures.kept in let room = c.args.blocks.ok in omega (arith, slots, same, room.0, room.1)),
      subst (λ n. 0 < n) (sym (ap (λ a. a.seats) ok.5)) c.requires.seats,
    )

pub returns-in-Err-new-clause-no_room : goal.returns-in-Err-new-clause-no_room
returns-in-Err-new-clause-no_room g c = c.drain_slots-blocks-in-Err-new.ensures ∙ ap blocks_in c.in-Err-new.ensures.err ∙ ap blocks_in c.fill_slots.ensures.moved ∙ blocks_in_all _
