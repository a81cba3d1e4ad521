use Rattle.std.proofs.Common.{◌≡◌, ◌<◌, ◌++◌, ◌∷◌, [], length, append-nil, ap, sym, subst, ◌∙◌}
use Rattle.std.specs.Option.{IfSome}
use Rattle.std.proofs.lemmas.List.{get_or_read, length-map}
use Rattle.qs_table.specs.inner.Lines.{cut, line_of}
use Rattle.qs_table.proofs.Upward.{line_from, line_pushed}
use Rattle.qs_table.proofs.lines.Lines.push.Goals.{in-Some+in_ok-push+in_ok-extend_from_within, in_default}
use Rattle.qs_table.proofs.lines.Lines.push.Goals as goal

-- the list of all ancestors grows by the line
longer : (c : goal.In_ok-push-2) → c.match-parent.self-inside.above.items ≡ c.self.inside.above.items ++ line_of c.args.self.now c.args.parent
longer c = elim c.match-parent.branch [
  | in-Some+in_ok-push+in_ok-extend_from_within w ↦
      let parent = w.in-Some.parent in
      let all = c.self.invariant in
      let within : parent < length c.self.inside.lines.items = subst (λ n. parent < n) (ap length (sym c.self.view_is) ∙ length-map c.self.inside.lines.items (cut c.self.inside.above.items)) (subst (λ o. IfSome o (λ p. p < length c.args.self.now)) w.in-Some.is c.requires) in
      ap (λ l. l.above.items) w.self-inside-is
      ∙ w.in_ok-extend_from_within.ensures.items
      ∙ ap (λ xs. xs ++ cut xs w.index.result.now) w.in_ok-push.ensures.items
      ∙ line_from c.self.inside.above.items c.self.inside.lines.items parent _ all within (get_or_read _ parent _ within w.index.ensures (0, 0))
      ∙ λ i. c.self.inside.above.items ++ line_of (c.self.view_is i) (sym w.in-Some.is i)
  | in_default w ↦ ap (λ l. l.above.items) w.self-inside-is ∙ sym (append-nil c.self.inside.above.items) ∙ ap (λ p. c.self.inside.above.items ++ line_of c.args.self.now p) (sym w.in_default.is)
]

same_lines : (c : goal.In_ok-push-2) → c.match-parent.self-inside.lines.items ≡ c.self.inside.lines.items
same_lines c = elim c.match-parent.branch [
  | in-Some+in_ok-push+in_ok-extend_from_within w ↦ ap (λ l. l.lines.items) w.self-inside-is
  | in_default w ↦ ap (λ l. l.lines.items) w.self-inside-is
]

pub returns : goal.returns
returns c =
    line_pushed c.self.inside.above.items _ _ _ (line_of c.args.self.now c.args.parent) _ _ c.self.invariant (longer c) (c.len-from.ensures ∙ c.self.inside.above.ok.0) (c.len.ensures ∙ c.match-parent.self-inside.above.ok.0)
    (c.in_ok-push-2.ensures.items ∙ ap (λ ls. ls ++ (c.len-from.result, c.len.result) ∷ []) (same_lines c))
    ∙ ap (λ ls. ls ++ line_of c.args.self.now c.args.parent ∷ []) c.self.view_is
