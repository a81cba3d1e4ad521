use Rattle.std.proofs.Common.{◌<◌, ◌↔◌, ℕ, length, count_by, sym, ap, ◌∙◌, subst}
use Rattle.std.specs.Mem.Slots.{slots_counts}
use Rattle.qs_core.specs.Core.{word_count}
use Rattle.qs_table.specs.Blocks.{AreReturned, IsTaken}
use Rattle.qs_table.specs.declared.view.SeatView.{SeatView}
use Rattle.qs_table.specs.Notes.{claims_of, claims_task}
use Rattle.qs_table.specs.Seats.{TableView}
use Rattle.qs_table.proofs.Ended.{closes_returned}
use Rattle.qs_table.proofs.Gathered.{many_views}
use Rattle.qs_table.proofs.Opened.{first_task_at}
use Rattle.qs_table.proofs.table.ResTable.close.Given.{Over}
use Rattle.qs_table.proofs.table.ResTable.close.Goals.{After-drop-lines-inside-2}
use Rattle.qs_table.proofs.table.ResTable.close.Goals as goal

pub invariant_of-result : goal.invariant_of-result
invariant_of-result g c =
    let laid = c.self.invariant.0 in
    let same = ap (λ (t : TableView _). g.W.Work.shape t.plan) (c.self.view_is ∙ sym c.of-about.ensures) in (
      first_task_at _ _ _ _ _ _ _ same laid c.cells.ensures c.slot_count.ensures,
      ap length c.copy_words.ensures ∙ sym (slots_counts c.close_with-closed.result.words).0 ∙ c.close_with-closed.ensures.counts.0 ∙ laid.words_are ∙ ap word_count same,
    )

-- the blocks are returned, and the tasks claimed that a seat claimed
ended : (g : Over) (c : After-drop-lines-inside-2 g) → AreReturned (g.W.Work.shape c.args.self.plan) (g.W.Work.fits c.args.self.plan) g.W.Work.done c.copy_words.new.words.items c.take_blocks.new.blocks.items
    × ((task : ℕ) → task < length (g.W.Work.shape c.args.self.plan).tasks → (IsTaken (g.W.Work.shape c.args.self.plan) c.copy_words.new.words.items task ↔ (0 < claims_of task c.gather-whole.result.me.0.seats)))
ended g c =
    let W = g.W.Work in
    let plan = W.plan c.self.inside.table.shared.key.work.value in
    let words = c.copy_words.new.words.items in
    let blocks = c.take_blocks.new.blocks.items in
    let known = c.gather-whole.result.me.0.seats in
    let all = many_views c.args.seats.items known c.gather-whole.ensures.all ∙ c.requires.all ∙ sym (ap (λ (t : TableView _). t.seats) c.self.view_is) in
    let inside = closes_returned (W.shape plan) (W.fits plan) W.done c.self.inside.table.shared.key.seats _ words _ blocks _ c.gather-whole.result.me.0 c.self.invariant.0.laws all c.gather-whole.ensures.empty c.close_with-closed.ensures.values.2 c.copy_words.ensures c.take_blocks.ensures.blocks in
    subst (λ p. AreReturned (W.shape p) (W.fits p) W.done words blocks × ((task : ℕ) → task < length (W.shape p).tasks → (IsTaken (W.shape p) words task ↔ (0 < claims_of task known)))) (ap (λ (t : TableView _). t.plan) c.self.view_is) inside

pub returns-clause-returned : goal.returns-clause-returned
returns-clause-returned g c = (ended g c).0

pub returns-clause-claimed : goal.returns-clause-claimed
returns-clause-claimed g c task l =
    let same = c.gather-whole.ensures.all (λ (v : SeatView). count_by (claims_task task) v.notes) in
    let was = (ended g c).1 task l in (
      λ t. subst (λ (n : ℕ). 0 < n) same (was.0 t),
      λ some. was.1 (subst (λ (n : ℕ). 0 < n) (sym same) some),
    )
