use Rattle.std.proofs.Common.{◌≡◌, ◌++◌, ◌∙◌, ap, length}
use Rattle.std.specs.Prelude.{string_bytes}
use Rattle.sph_report.specs.TreeLines.{line_of_tree, line_of_graph}
use Rattle.sph_report.proofs.DeckTrees.{lines_of_parts}
use Rattle.sph_report.proofs.tree.tree_text.Goals as goal

pub returns : goal.returns
returns c =
    let tree = c.in_ok-tree.tree in
    let graph = c.in_ok-graph.graph in
    let first : string_bytes c.in_ok-text.text ≡ line_of_tree (length tree.points) tree = c.in_ok-text.ensures in
    let second : string_bytes c.in_ok-line_of_graph.field-0 ≡ line_of_graph graph = c.in_ok-line_of_graph.ensures in
    let added : c.into_bytes.result.items ≡ string_bytes c.in_ok-text.text ++ string_bytes c.in_ok-line_of_graph.field-0 = cc (c.into_bytes.ensures.value, c.in_ok-push_str.ensures.bytes, c.as_str.ensures.value) in
    lines_of_parts c.args.deck.now tree graph c.into_bytes.result.items c.in_ok-tree.ensures c.in_ok-graph.ensures
    (added ∙ ap (λ l. l ++ string_bytes c.in_ok-line_of_graph.field-0) first ∙ ap (λ l. line_of_tree (length tree.points) tree ++ l) second)
