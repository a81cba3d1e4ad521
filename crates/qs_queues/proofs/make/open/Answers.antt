use Rattle.std.proofs.Common.{◌∙◌, ◌∷◌, List, ℕ, Option, replicate, sym, subst}
use Rattle.atomic_table.specs.Table.{opening}
use Rattle.qs_heap.specs.Heap.{Heap}
use Rattle.qs_queues.specs.Views.{fresh_view}
use Rattle.qs_queues.specs.Rule.{ShowsQueues}
use Rattle.qs_queues.proofs.Opened.{opens}
use Rattle.qs_queues.proofs.make.open.Goals as goal

pub new-requires : goal.new-requires
new-requires c =
    let words = c.deref.ensures.value ∙ c.in_ok-words.ensures in
    let slots = c.in_ok-slots.ensures in
    subst (λ (ws : List ℕ). ShowsQueues c.args.queues c.args.room c.args.tasks (opening ws c.in_ok-slots.slots.items (fresh_view c.args.room c.args.tasks))) (sym words)
    (subst (λ (xs : List (Option Heap)). ShowsQueues c.args.queues c.args.room c.args.tasks (opening (c.args.tasks ∷ replicate c.args.queues 0) xs (fresh_view c.args.room c.args.tasks))) (sym slots)
    (opens c.args.queues c.args.room c.args.tasks))
