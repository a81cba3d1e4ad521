use Rattle.std.proofs.Common.{◌++◌, ◌∷◌, [], take, ap, sym, ◌∙◌, arith}
use Rattle.std.proofs.lemmas.List.{length-set, take_more, take_more_set}
use Rattle.std.specs.Mem.Slots.{slots_counts, slots_items}
use Rattle.lists.proofs.Words.{elem_or, elem_within}
use Rattle.qs_table.proofs.slots.copy_words.Goals as goal

pub loop-place-preserved : goal.loop-place-preserved
loop-place-preserved g c =
    let v = c.loop-place.invariant in
    let at = c.word.ensures in
    let words = slots_items c.args.closed.now.words in
    let place = c.loop-place.place in
    let found = c.word.result in
    let within = elem_within words place found at in
    let many = (slots_counts c.args.closed.now.words).0 in (
      length-set _ _ _ ∙ v.0,
      take_more_set _ place found (let e = v.0 in omega arith) ∙ ap (λ ws. ws ++ found ∷ []) v.1 ∙ ap (λ x. take place words ++ x ∷ []) (sym (elem_or words place found at)) ∙ sym (take_more words place found within),
    )
