-- The tasks on the cells of a tree, told by the leaves below these cells.
use Rattle.std.proofs.Common.{◌≡◌, ℕ, ◌<◌, Bool, false, ◌||◌, List, [], ◌∷◌, ◌++◌, length, map, filter, get_or, Option, Some, None, refl, sym, ap, ◌∙◌, subst}
use Rattle.std.specs.Prelude.{option_map, slice_index}
use Rattle.std.specs.List.{All, Contains, list_any, range_with_len}
use Rattle.std.proofs.lemmas.List.{map-append}
use Rattle.std.proofs.lemmas.List.Elements.{All-map, All-weaker}
use Rattle.lists.proofs.Elements.{Contains-filter, Contains-head, Contains-later, passes_from_filter, Contains-from_filter}
use Rattle.lists.proofs.Ranges.{Contains-numbers, below_from_numbers}
use Rattle.lists.proofs.Rising.{Rises-filter_numbers, filter_is}
use Rattle.sph_num.specs.declared.kind.Kind.{Kind}
use Rattle.sph_num.specs.declared.kind.Kind.TheVariants.{Density, Force, Ghost, Kick}
use Rattle.cell_block.specs.declared.scene.Scene.{Scene}
use Rattle.cell_block.specs.declared.scene.TaskLine.{TaskLine}
use Rattle.cell_block.specs.Scene.{IsOtherRange, IsRange, IsRangeSpan, RangeSpan, due_leaves, is_due_at, leaf_line, members_of, span_line}
use Rattle.cell_block.proofs.FirstRows.{map-map}
use Rattle.cell_tree.specs.declared.tree.Span.{Span}
use Rattle.cell_tree.specs.Due.{has_due}
use Rattle.cell_tree.specs.Laws.{CanBeMade}
use Rattle.cell_tree.specs.Spans.{IsOtherCell, IsSpan, leaf_cells}
use Rattle.cell_tree.specs.Tree.{Made, cell_at, cells_of, leaf_count}
use Rattle.cell_tree.proofs.Below.{own_range}
use Rattle.cell_tree.proofs.LeafCells.{IsLeafCell-at, ranges_apart}
use Rattle.cell_tree.proofs.SharedMembers.{is_held}
use Rattle.task_weight.proofs.GreatestPaths.{map_agree}
use Rattle.task_graph.specs.inner.Parts.{AreLeavesOf}
use Rattle.task_graph.specs.Tasks.{cell_task, due_cells, span_task}
use Rattle.task_graph.proofs.LeafNumbers.{AreLeavesOf-passing}
use Rattle.qs_core.specs.Shape.{range_of}
use Rattle.sph_step.specs.declared.stage.StagePlan.{StagePlan}
use Rattle.sph_step.specs.Made.{TellsCells, leaves_in}
use Rattle.sph_step.specs.Stage.{line_of, shape_of}
use Rattle.sph_step.proofs.LeafLists.{leaf_cell, leaf_members_are, length-leaves_in}

-- the leaves below a cell, and those below the cells of a span
abbrev pub leaves_of : StagePlan → ℕ → ℕ × ℕ
leaves_of plan cell = range_of (shape_of plan) cell

abbrev pub range_span : StagePlan → Span → RangeSpan
range_span plan span = record { first = leaves_of plan span.first; second = option_map (leaves_of plan) span.second }

-- a task on the leaves of one range
abbrev line_on : Kind → ℕ × ℕ → TaskLine
line_on kind range = record { kind = kind; first = range; second = None }

-- tests that agree on the elements of a list
any_agree : (p q : ℕ → Bool) (xs : List ℕ) → ((x : ℕ) → Contains xs x → p x ≡ q x) → list_any p xs ≡ list_any q xs
any_agree p q [] same = refl
any_agree p q (x ∷ xs) same =
    ap (λ b. b || list_any p xs) (same x (Contains-head x xs)) ∙ ap (λ b. q x || b) (any_agree p q xs (λ y c. same y (Contains-later x xs y c)))

-- a function on two lists one after another
map_joined : {X Y : Type 0} (f : X → Y) (xs ys : List X) (us vs : List Y) → map f xs ≡ us → map f ys ≡ vs → map f (xs ++ ys) ≡ us ++ vs
map_joined f xs ys us vs e e' = map-append f xs ys ∙ ap (λ zs. zs ++ map f ys) e ∙ ap (λ zs. us ++ zs) e'

module _ (made : Made) (plan : StagePlan) (cells : TellsCells made plan) where
  -- the leaves below a cell are a range, and those below the other cell of a span one apart
  is_range : (cell : ℕ) → cell < length (cells_of made) → IsRange (leaf_count made) (leaves_of plan cell)
  is_range cell l = let below = cells.ranges cell l in record { some = below.some; within = below.within }

  is_other : (first : ℕ) (second : Option ℕ) → first < length (cells_of made) → IsOtherCell made first second → IsOtherRange (leaf_count made) (leaves_of plan first) (option_map (leaves_of plan) second)
  is_other first None l other = tt
  is_other first (Some second) l other =
      (is_range second other.0, ranges_apart made first second _ _ _ _ (cells.ranges first l) (cells.ranges second other.0) other.1 other.2)

  -- the leaves below a span are one range, or two without a leaf in common
  is_range_span : (span : Span) → IsSpan made span → IsRangeSpan (leaf_count made) (range_span plan span)
  is_range_span span is = record { first = is_range span.first is.first; second = is_other span.first span.second is.first is.second }

  pub are_ranges : (spans : List Span) → All (IsSpan made) spans → All (IsRangeSpan (length (leaves_in made))) (map (range_span plan) spans)
  are_ranges spans are =
      subst (λ n. All (IsRangeSpan n) (map (range_span plan) spans)) (sym (length-leaves_in made))
      (All-map (IsRangeSpan (leaf_count made)) (range_span plan) spans (All-weaker (IsSpan made) (λ span. IsRangeSpan (leaf_count made) (range_span plan span)) is_range_span spans are))

  -- below the cell of a leaf there is the leaf alone
  own_line : (kind : Kind) (leaf : ℕ) → leaf < leaf_count made → line_of plan (cell_task kind (leaf_cell made leaf)) ≡ leaf_line kind leaf
  own_line kind leaf l =
      let cell = leaf_cell made leaf in
      let is = IsLeafCell-at made leaf 0 l in
      let range = leaves_of plan cell in
      let own = own_range made leaf cell range.0 range.1 is (cells.ranges cell is.within) in
      ap (λ from. line_on kind (from, range.1)) own.0 ∙ ap (λ to. line_on kind (leaf, to)) own.1

  -- so the tasks on leaves, by their cells, are those on the leaves' numbers
  due_lines : (kind : Kind) (cells numbers : List ℕ) → AreLeavesOf made cells numbers → map (line_of plan) (map (cell_task kind) cells) ≡ map (leaf_line kind) numbers
  due_lines kind cells numbers are =
      let line = λ (cell : ℕ). line_of plan (cell_task kind cell) in
      map-map (line_of plan) (cell_task kind) line (λ cell. refl) cells
      ∙ ap (map line) (sym are.cells_are)
      ∙ map-map line (leaf_cell made) (λ leaf. line (leaf_cell made leaf)) (λ leaf. refl) numbers
      ∙ map_agree (λ leaf. line (leaf_cell made leaf)) (leaf_line kind) numbers (λ leaf c. own_line kind leaf (are.below leaf c))

  -- the tasks on spans are those on the ranges below them
  span_lines : (kind : Kind) (spans : List Span) → map (line_of plan) (map (span_task kind) spans) ≡ map (span_line kind) (map (range_span plan) spans)
  span_lines kind spans =
      let line = λ (span : Span). span_line kind (range_span plan span) in
      map-map (line_of plan) (span_task kind) line (λ span. refl) spans ∙ sym (map-map (span_line kind) (range_span plan) line (λ span. refl) spans)

  -- all tasks where none drifts
  pub all_lines : (spans : List Span) (dues numbers : List ℕ) → AreLeavesOf made dues numbers
      → map (line_of plan) (map (span_task Density) spans ++ map (cell_task Ghost) dues ++ map (span_task Force) spans ++ map (cell_task Kick) dues)
      ≡ map (span_line Density) (map (range_span plan) spans) ++ map (leaf_line Ghost) numbers ++ map (span_line Force) (map (range_span plan) spans) ++ map (leaf_line Kick) numbers
  all_lines spans dues numbers are =
      let f = line_of plan in
      map_joined f _ _ _ _ (map_joined f _ _ _ _ (map_joined f _ _ _ _ (span_lines Density spans) (due_lines Ghost dues numbers are)) (span_lines Force spans)) (due_lines Kick dues numbers are)

-- the leaves with a due member are those of the due cells
module _ (made : Made) (can : CanBeMade made) (due : List Bool) (scene : Scene) (leaves : scene.leaves ≡ leaves_in made) (agree : (i : ℕ) → i < length made.points → get_or due i false ≡ is_due_at scene i) where
  is_due_leaf : (leaf : ℕ) → leaf < leaf_count made → has_due made due (leaf_cell made leaf) ≡ list_any (is_due_at scene) (members_of scene leaf)
  is_due_leaf leaf l =
      let cell = leaf_cell made leaf in
      any_agree (λ i. get_or due i false) (is_due_at scene) (cell_at made cell).members (λ i c. agree i (is_held made can cell i (IsLeafCell-at made leaf 0 l).within c).0)
      ∙ ap (list_any (is_due_at scene)) (sym (ap (λ lists. get_or lists leaf []) leaves ∙ leaf_members_are made leaf l))

  pub due_leaves_are : AreLeavesOf made (due_cells made due) (due_leaves scene)
  due_leaves_are =
      let n = leaf_count made in
      let p = λ (leaf : ℕ). has_due made due (slice_index (leaf_cells made) leaf) in
      let q = λ (leaf : ℕ). list_any (is_due_at scene) (members_of scene leaf) in
      AreLeavesOf-passing made (has_due made due) (due_leaves scene)
      (ap (λ count. filter q (range_with_len 0 count)) (ap length leaves ∙ length-leaves_in made)
      ∙ sym (filter_is p n (filter q (range_with_len 0 n)) (Rises-filter_numbers q n)
      (λ leaf c. let l = below_from_numbers n leaf (Contains-from_filter q (range_with_len 0 n) leaf c) in (l, is_due_leaf leaf l ∙ passes_from_filter q (range_with_len 0 n) leaf c))
      (λ leaf l t. Contains-filter q (range_with_len 0 n) leaf (sym (is_due_leaf leaf l) ∙ t) (Contains-numbers n leaf l))))
