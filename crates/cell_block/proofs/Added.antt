-- From what a task wrote into the lists of its block to the task added.
use Rattle.std.proofs.Common.{◌≡◌, ℕ, ◌<◌, Bool, true, false, if◌then◌else◌, List, map, filter, length, Contains, ◌==◌, subst, refl, sym, ap, ◌∙◌}
use Rattle.std.specs.List.{range_with_len}
use Rattle.lists.proofs.Elements.{Contains-filter}
use Rattle.lists.proofs.Ranges.{Contains-numbers}
use Rattle.sph_num.specs.declared.particle.Particle.{Particle}
use Rattle.cell_block.specs.declared.rows.BlockRows.{BlockRows}
use Rattle.cell_block.specs.declared.rows.Mark.{Mark}
use Rattle.cell_block.specs.declared.scene.Scene.{Scene}
use Rattle.cell_block.specs.Blocks.{Agrees, AreDoneWith, IsAdded, done_of}
use Rattle.cell_block.specs.Extents.{AreWithin}
use Rattle.cell_block.specs.Reading.{tasks_of, with_done}
use Rattle.cell_block.specs.Scene.{line_at, touches}
use Rattle.cell_block.specs.Tasks.{IsMarked}
use Rattle.cell_block.proofs.FirstRows.{map-map}
use Rattle.cell_block.proofs.Parts.{AreDone, HoldsParts, rows_held}

-- a block that agrees keeps each task that touches its leaf
pub keeps_task : (scene : Scene) (task leaf : ℕ) (block : BlockRows) → task < length scene.tasks → touches (line_at scene task) leaf ≡ true → Agrees scene leaf block → Contains (tasks_of block) task
keeps_task scene task leaf block low touched agrees =
    subst (λ (ts : List ℕ). Contains ts task) (sym agrees.tasks)
    (Contains-filter (λ t. touches (line_at scene t) leaf) (range_with_len 0 (length scene.tasks)) task touched (Contains-numbers (length scene.tasks) task low))

-- the tasks of marks, and those that are done, where one mark is set
same_task : (task : ℕ) (b : Bool) (m : Mark) → (if b then record m { done = true } else m).task ≡ m.task
same_task task true m = refl
same_task task false m = refl

same_tasks : (task : ℕ) (marks : List Mark) → map (λ (m : Mark). m.task) (map (with_done task) marks) ≡ map (λ (m : Mark). m.task) marks
same_tasks task marks = map-map (λ (m : Mark). m.task) (with_done task) (λ (m : Mark). m.task) (λ m. same_task task (m.task == task) m) marks

abbrev pub done_in : List Mark → List ℕ
done_in ms = map (λ (m : Mark). m.task) (filter (λ (m : Mark). m.done) ms)

-- what a block in the middle of a task keeps: all but the list that is written, and a box in which its members stand
pub record IsSame (before mid : BlockRows) : Type 0 where
  pub leaf : mid.leaf ≡ before.leaf
  pub members : mid.members.items ≡ before.members.items
  pub marks : mid.marks.items ≡ before.marks.items
  pub due : mid.due.items ≡ before.due.items
  pub extent : AreWithin mid.extent mid.spots.items

parts_after : (scene : Scene) (leaf : ℕ) (a b c : Bool) (d f : ℕ → List Particle) (task : ℕ) (mid after : BlockRows) → IsMarked task mid after → HoldsParts scene leaf a b c d f mid → HoldsParts scene leaf a b c d f after
parts_after scene leaf a b c d f task mid after marked parts =
    let moved = subst (HoldsParts scene leaf a b c d f) (sym marked.unchanged) parts in
    record { spots = moved.spots; pulls = moved.pulls; rhos = moved.rhos; forces = moved.forces; moving = moved.moving }

-- the block agrees again, where its lists hold what is done with the task
pub added : (scene : Scene) (task leaf : ℕ) (a b c : Bool) (d f : ℕ → List Particle) (before mid after : BlockRows) → Agrees scene leaf before → IsSame before mid → HoldsParts scene leaf a b c d f mid → IsMarked task mid after
    → (AreDoneWith (done_of before) task (done_of after) → AreDone scene leaf (done_of after) a b c d f) → IsAdded scene task leaf before after
added scene task leaf a b c d f before mid after agrees same parts marked are =
    let more : AreDoneWith (done_of before) task (done_of after) = subst (λ (ms : List Mark). AreDoneWith (done_in ms) task (done_of after)) same.marks marked.done in
    record {
      agrees = record {
        number = ap (λ (x : BlockRows). x.leaf) marked.unchanged ∙ same.leaf ∙ agrees.number;
        members = ap (λ (x : BlockRows). x.members.items) marked.unchanged ∙ same.members ∙ agrees.members;
        due = ap (λ (x : BlockRows). x.due.items) marked.unchanged ∙ same.due ∙ agrees.due;
        tasks = ap (map (λ (m : Mark). m.task)) marked.marks ∙ same_tasks task mid.marks.items ∙ ap (map (λ (m : Mark). m.task)) same.marks ∙ agrees.tasks;
        rows = rows_held scene leaf a b c d f (done_of after) after (are more) (parts_after scene leaf a b c d f task mid after marked parts);
        extent = subst (λ (x : BlockRows). AreWithin x.extent x.spots.items) (sym marked.unchanged) same.extent;
      };
      tasks = more;
    }
