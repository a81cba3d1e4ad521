-- From blocks whose tasks are all done, put into the list one after another, to the list after the step.
use Rattle.std.proofs.Common.{◌≡◌, ◌≢◌, ℕ, ◌+◌, ◌<◌, List, [], length, get_or, set, Contains, inl, inr, refl, subst, ap, sym, ◌∙◌, arith, length-set, get_or-set_same, get_or-set_other}
use Rattle.std.specs.List.Sorted.{IsStrictlyIncreasing}
use Rattle.std.proofs.lemmas.Bool.{cases_lt}
use Rattle.std.proofs.lemmas.List.{get_or_default, length-map, same_lists}
use Rattle.std.proofs.lemmas.Option.{get_or_from_slice_get, slice_get_within}
use Rattle.std.proofs.lemmas.List.Kept.{AllPairs-from_increasing}
use Rattle.sph_num.specs.declared.particle.Particle.{Particle}
use Rattle.sph_bins.proofs.Steps.{length-next_list}
use Rattle.cell_block.specs.declared.rows.BlockRows.{BlockRows}
use Rattle.cell_block.specs.declared.scene.Scene.{Scene}
use Rattle.cell_block.specs.declared.scene.TaskLine.{TaskLine}
use Rattle.cell_block.specs.Blocks.{Agrees, done_of}
use Rattle.cell_block.specs.Reading.{member_of}
use Rattle.cell_block.specs.Scene.{AreLeaves, IsGoodScene, members_of, no_particle}
use Rattle.cell_block.proofs.LeafMembers.{same_leaf}
use Rattle.qs_run.specs.Blocks.{AreAllDone}
use Rattle.sph_step.specs.declared.stage.StagePlan.{StagePlan}
use Rattle.sph_step.specs.Stage.{IsStage, fits_in, line_of, shape_of}
use Rattle.sph_step.specs.inner.Put.{ArePut}
use Rattle.sph_step.proofs.DoneRows.{EachDone, member_is_next, next_of}
use Rattle.sph_step.proofs.Touched.{Touches-from_line, length-shape_tasks}

-- no member is put yet, and one more
pub none_put : (block : BlockRows) (list : List Particle) → ArePut block 0 list list
none_put block list = record {
  same_length = refl;
  members = λ k low. absurd (omega arith);
  others = λ i not_member. refl;
}

pub one_more : (block : BlockRows) (k : ℕ) (old list : List Particle) → IsStrictlyIncreasing block.members.items → k < length block.members.items → get_or block.members.items k 0 < length list → ArePut block k old list
    → ArePut block (k + 1) old (set list (get_or block.members.items k 0) (member_of block k))
one_more block k old list rising inside within put =
    let ms = block.members.items in
    let at = get_or ms k 0 in
    let is = member_of block k in
    record {
      same_length = length-set list at is ∙ put.same_length;
      members = λ j low. elim (cases_lt j k) [
        | inl before ↦
            let below = AllPairs-from_increasing ms rising j k 0 before inside in
            let ne : get_or ms j 0 ≢ at = (λ e. omega (arith, below, e)) in
            get_or-set_other list at (get_or ms j 0) is no_particle ne ∙ put.members j before
        | inr here ↦
            let e : k ≡ j = omega arith in
            subst (λ n. get_or (set list at is) (get_or ms n 0) no_particle ≡ member_of block n) e (get_or-set_same list at is no_particle within)
      ];
      others = λ i not_member.
          let ne : i ≢ at = (λ e. not_member (k, inside, get_or_default ms k i 0 inside ∙ sym e)) in
          get_or-set_other list at i is no_particle ne ∙ put.others i not_member;
    }

-- the members of the first leaves stand as the step makes them
pub record AreNext (scene : Scene) (leaves : ℕ) (list : List Particle) : Type 0 where
  pub same_length : length list ≡ length scene.start
  pub members : (leaf i : ℕ) → leaf < leaves → Contains (members_of scene leaf) i → get_or list i no_particle ≡ get_or (next_of scene) i no_particle

pub none_next : (scene : Scene) (list : List Particle) → list ≡ scene.start → AreNext scene 0 list
none_next scene list is = record { same_length = ap length is; members = λ leaf i low at. absurd (omega arith) }

-- a leaf's block with every task done that touches the leaf
pub record IsDoneBlock (scene : Scene) (leaf : ℕ) (block : BlockRows) : Type 0 where
  pub inside : leaf < length scene.leaves
  pub agrees : Agrees scene leaf block
  pub done : EachDone scene leaf (done_of block)

-- it is put, as the next of the leaves
pub next_leaf : (scene : Scene) (leaf : ℕ) (block : BlockRows) (old new : List Particle) → IsGoodScene scene → IsDoneBlock scene leaf block → ArePut block (length block.members.items) old new → AreNext scene leaf old → AreNext scene (leaf + 1) new
next_leaf scene leaf block old new good is put before =
    let ms = block.members.items in
    record {
      same_length = put.same_length ∙ before.same_length;
      members = λ other i low at. elim (cases_lt other leaf) [
        | inl earlier ↦
            let apart : Contains ms i → ⊥ = (λ here. let e = same_leaf scene other leaf i good.leaves at (subst (λ is. Contains is i) is.agrees.members here) in omega (arith, e)) in
            put.others i apart ∙ before.members other i earlier at
        | inr here ↦
            let e : other ≡ leaf = omega arith in
            let stands : Contains ms i = subst (λ is. Contains is i) (ap (members_of scene) e ∙ sym is.agrees.members) at in
            let k = stands.0 in
            let same : get_or ms k 0 ≡ i = get_or_default ms k 0 i stands.1 ∙ stands.2 in
            subst (λ n. get_or new n no_particle ≡ get_or (next_of scene) n no_particle) same (put.members k stands.1 ∙ member_is_next scene leaf block good is.agrees is.done k stands.1)
      ];
    }

-- each particle stands in some leaf, so this is the list after the step
pub all_next : (scene : Scene) (list : List Particle) → AreLeaves scene → AreNext scene (length scene.leaves) list → list ≡ next_of scene
all_next scene list leaves are =
    same_lists list (next_of scene) (are.same_length ∙ sym (length-next_list scene.params scene.start scene.tick)) (
    λ k d inside.
    let low : k < length scene.start = rw (← are.same_length) inside in
    let one = leaves.one_leaf k low in
    let there : k < length (next_of scene) = rw (length-next_list scene.params scene.start scene.tick) low in
    let at : Contains (members_of scene one.index) k = subst (λ is. Contains is k) (sym (get_or_from_slice_get scene.leaves one.index one.element [] one.stands)) one.it_does in
    get_or_default list k d no_particle inside
    ∙ are.members one.index k (slice_get_within scene.leaves one.index one.element one.stands) at
    ∙ get_or_default (next_of scene) k no_particle d there
    )

-- what stands at a leaf once all tasks of a stage are done
pub done_block : (plan : StagePlan) (blocks : List BlockRows) (leaf : ℕ) (block : BlockRows) → IsStage plan → AreAllDone (shape_of plan) (fits_in plan) done_of blocks → leaf < length plan.scene.leaves → block ≡ get_or blocks leaf block
    → IsDoneBlock plan.scene leaf block
done_block plan blocks leaf block stage are inside stands = record {
  inside = inside;
  agrees = subst (Agrees plan.scene leaf) (sym stands) (are.fitting.each leaf block inside);
  done = λ task low touched.
      let long = ap (λ (ls : List TaskLine). length ls) stage.lines ∙ length-map plan.graph.tasks (line_of plan) in
      let within : task < length plan.graph.tasks = omega (arith, low, long) in
      let told : task < length (shape_of plan).tasks = omega (arith, within, length-shape_tasks plan) in
      subst (λ (b : BlockRows). Contains (done_of b) task) (sym stands) ((are.tasks leaf block inside task).1 (told, Touches-from_line plan stage.lines task leaf within touched));
}
