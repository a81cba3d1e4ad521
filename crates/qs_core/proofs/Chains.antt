-- The chains of a seat, and what a change of the newest one leaves of their laws.
use Rattle.std.proofs.Common.{◌≡◌, ◌≢◌, ℕ, suc, ◌+◌, ◌<◌, ◌≤◌, eqb, List, [], ◌∷◌, length, get_or, take, set, slice_get, Contains, sum_by, count_by, refl, sym, ap, ap₂, subst, ◌∙◌, arith, get_or-take, length-take-le}
use Rattle.std.specs.Prelude.{unwrap_or}
use Rattle.std.proofs.lemmas.Option.{none-some, slice_get_within}
use Rattle.std.proofs.lemmas.List.Sums.{sum_by-cons, get_or-le-sum_by}
use Rattle.std.specs.List.{range_with_len}
use Rattle.lists.proofs.Counts.{count_by-take_suc, counted, one_if, one_if-same}
use Rattle.lists.proofs.Places.{Contains-from_slice_get, get_from_Contains}
use Rattle.lists.proofs.Elements.{Contains-head, Contains-later, Contains-nil, each_cons}
use Rattle.lists.proofs.Sums.{few_for_places, sum_by-turned, sum_by-le_each, share-le}
use Rattle.lists.proofs.Ranges.{part-le-range}
use Rattle.qs_core.specs.Shape.{Shape, IsShape, ancestors}
use Rattle.qs_core.specs.Core.{Chain, Core, IsComplete, View, view_at}
use Rattle.qs_core.specs.Steps.{ancestor_at, newest, no_chain, rest}
use Rattle.qs_core.specs.Sound.{AreCellsSound, AreChains, IsMarked, IsView, locks_of, raises_of}
use Rattle.qs_core.proofs.Ancestors.{raised_once}
use Rattle.qs_core.proofs.Views.{IsView-view_at, part-le-sum_by, sum_by-views}

-- how often some chains lock and raise a cell
abbrev pub lock_count : ℕ → List Chain → ℕ
lock_count cell chains = count_by (λ (c : Chain). eqb c.cell cell) chains

abbrev pub raise_count : Shape → ℕ → List Chain → ℕ
raise_count shape cell chains = sum_by (λ (c : Chain). count_by (λ a. eqb a cell) (take c.raises (ancestors shape c.cell))) chains

-- one more before them locks its cell, and raises nothing where it has no raises
pub locks_more : (c : ℕ) (chain : Chain) (chains : List Chain) → lock_count c (chain ∷ chains) ≡ one_if chain.cell c + lock_count c chains
locks_more c chain chains = sum_by-cons (λ (x : Chain). one_if x.cell c) chain chains

pub raises_same : (shape : Shape) (c : ℕ) (chain : Chain) (chains : List Chain) → chain.raises ≡ 0 → raise_count shape c (chain ∷ chains) ≡ raise_count shape c chains
raises_same shape c chain chains none =
    let a = sum_by-cons (λ (x : Chain). count_by (λ a. eqb a c) (take x.raises (ancestors shape x.cell))) chain chains in
    let b : count_by (λ a. eqb a c) (take chain.raises (ancestors shape chain.cell)) ≡ 0 = ap (λ r. count_by (λ a. eqb a c) (take r (ancestors shape chain.cell))) none in
    omega arith

-- no chains keep their laws
pub no_chains : (shape : Shape) (views : List View) → AreChains shape views []
no_chains shape views = record {
  few = omega arith;
  cells = λ chain c. absurd (Contains-nil chain c);
  older = λ chain e. absurd (none-some chain e);
  unmarked = λ chain c. absurd (Contains-nil chain c);
}

-- what these chains have raised and nothing locked still isn't locked
abbrev pub StaysFree : Shape → List View → List View → List Chain → Type 0
StaysFree shape views after chains =
    (chain : Chain) (k : ℕ) → Contains chains chain → k < chain.raises → locks_of (ancestor_at shape chain k) views ≡ 0 → locks_of (ancestor_at shape chain k) after ≡ 0

pub AreChains-still : (shape : Shape) (views after : List View) (chains : List Chain) → StaysFree shape views after chains → AreChains shape views chains → AreChains shape after chains
AreChains-still shape views after chains free a =
    record { few = a.few; cells = a.cells; older = a.older; unmarked = λ chain h k l n. free chain k h l (a.unmarked chain h k l n) }

-- a new chain before complete ones
pub AreChains-lock : (shape : Shape) (views : List View) (new : Chain) (chains : List Chain) → new.raises ≡ 0 → new.cell < length shape.parents → length chains < 2
    → ((chain : Chain) → Contains chains chain → IsComplete shape chain) → AreChains shape views chains → AreChains shape views (new ∷ chains)
AreChains-lock shape views new chains none cell few complete a = record {
  few = omega arith;
  cells = each_cons (λ (c : Chain). (c.cell < length shape.parents) × (c.raises ≤ length (ancestors shape c.cell))) new chains (cell, omega arith) a.cells;
  older = λ chain e. complete chain (Contains-from_slice_get chains 0 chain e);
  unmarked = each_cons (λ (c : Chain). (k : ℕ) → k < c.raises → (IsMarked c k → ⊥) → locks_of (ancestor_at shape c k) views ≡ 0) new chains
      (λ k l n. absurd (omega arith)) a.unmarked;
}

-- another chain of the same cell in the place of the newest
pub AreChains-change : (shape : Shape) (views : List View) (old new : Chain) (older : List Chain) → new.cell ≡ old.cell → new.raises ≤ length (ancestors shape new.cell)
    → ((k : ℕ) → k < new.raises → (IsMarked new k → ⊥) → locks_of (ancestor_at shape new k) views ≡ 0) → AreChains shape views (old ∷ older) → AreChains shape views (new ∷ older)
AreChains-change shape views old new older same within unmarked a = record {
  few = a.few;
  cells = each_cons (λ (c : Chain). (c.cell < length shape.parents) × (c.raises ≤ length (ancestors shape c.cell))) new older
      (subst (λ c. c < length shape.parents) (sym same) (a.cells old (0, omega arith, refl)).0, within) (λ c h. a.cells c (Contains-later old older c h));
  older = a.older;
  unmarked = each_cons (λ (c : Chain). (k : ℕ) → k < c.raises → (IsMarked c k → ⊥) → locks_of (ancestor_at shape c k) views ≡ 0) new older
      unmarked (λ c h. a.unmarked c (Contains-later old older c h));
}

-- without the newest
pub AreChains-rest : (shape : Shape) (views : List View) (old : Chain) (older : List Chain) → AreChains shape views (old ∷ older) → AreChains shape views older
AreChains-rest shape views old older a = record {
  few = let f = a.few in omega arith;
  cells = λ c h. a.cells c (Contains-later old older c h);
  older = λ c e. let f = a.few in let l = slice_get_within older 1 c e in absurd (omega arith);
  unmarked = λ c h. a.unmarked c (Contains-later old older c h);
}

-- the newest chain and the others
first_and_rest : (d : Chain) (xs : List Chain) → (xs ≡ [] → ⊥) → xs ≡ unwrap_or (slice_get xs 0) d ∷ rest xs
first_and_rest d [] n = absurd (n refl)
first_and_rest d (x ∷ xs) n = refl

pub newest_and_rest : (view : View) → view.chains ≢ [] → view.chains ≡ newest view ∷ rest view.chains
newest_and_rest view n = first_and_rest no_chain view.chains n

-- so its laws and those of the others are those of a seat's view
pub newest_chains : (shape : Shape) (core : Core) (seat : ℕ) → seat < length core.views → AreCellsSound shape core → (view_at core.views seat).chains ≢ []
    → AreChains shape core.views (newest (view_at core.views seat) ∷ rest (view_at core.views seat).chains)
newest_chains shape core seat l s some =
    let view = view_at core.views seat in subst (AreChains shape core.views) (newest_and_rest view some) (s.chains seat view (IsView-view_at core seat l))

-- the newest is of a cell, with no more raises than there are ancestors
pub newest_is : (shape : Shape) (core : Core) (seat : ℕ) → seat < length core.views → AreCellsSound shape core → (view_at core.views seat).chains ≢ []
    → ((newest (view_at core.views seat)).cell < length shape.parents) × ((newest (view_at core.views seat)).raises ≤ length (ancestors shape (newest (view_at core.views seat)).cell))
newest_is shape core seat l s some =
    let view = view_at core.views seat in (newest_chains shape core seat l s some).cells (newest view) (Contains-head (newest view) (rest view.chains))

-- another chain of the same cell in the place of the newest locks as it did
pub locks_changed : (c : ℕ) (old new : Chain) (older : List Chain) → new.cell ≡ old.cell → lock_count c (new ∷ older) ≡ lock_count c (old ∷ older)
locks_changed c old new older same =
    locks_more c new older ∙ ap (λ x. one_if x c + lock_count c older) same ∙ sym (locks_more c old older)

-- and raises one ancestor more, where it has raised one more
pub raises_changed : (shape : Shape) (c : ℕ) (old new : Chain) (older : List Chain) → new.cell ≡ old.cell → new.raises ≡ suc old.raises
    → old.raises < length (ancestors shape old.cell) → raise_count shape c (new ∷ older) ≡ raise_count shape c (old ∷ older) + one_if (ancestor_at shape old old.raises) c
raises_changed shape c old new older same more l =
    let a = sum_by-cons (λ (x : Chain). count_by (λ a. eqb a c) (take x.raises (ancestors shape x.cell))) new older in
    let b = sum_by-cons (λ (x : Chain). count_by (λ a. eqb a c) (take x.raises (ancestors shape x.cell))) old older in
    let d = ap₂ (λ r x. count_by (λ a. eqb a c) (take r (ancestors shape x))) more same in
    let e = count_by-take_suc c old.raises (ancestors shape old.cell) l in
    omega arith

-- a change of one view, counted
pub locks_change : (cell : ℕ) (views : List View) (seat : ℕ) (view : View) → seat < length views
    → locks_of cell (set views seat view) + lock_count cell (view_at views seat).chains ≡ locks_of cell views + lock_count cell view.chains
locks_change cell views seat view l = sum_by-views (λ (v : View). lock_count cell v.chains) views seat view l

pub raises_change : (shape : Shape) (cell : ℕ) (views : List View) (seat : ℕ) (view : View) → seat < length views
    → raises_of shape cell (set views seat view) + raise_count shape cell (view_at views seat).chains ≡ raises_of shape cell views + raise_count shape cell view.chains
raises_change shape cell views seat view l = sum_by-views (λ (v : View). raise_count shape cell v.chains) views seat view l

-- a chain locks its cell
pub locks_its_cell : (core : Core) (seat : ℕ) (view : View) (chain : Chain) (cell : ℕ) → IsView core seat view → Contains view.chains chain → chain.cell ≡ cell
    → 0 < locks_of cell core.views
locks_its_cell core seat view chain cell v h e =
    let a = counted (λ (c : Chain). c.cell) cell view.chains chain h e in
    let b = part-le-sum_by (λ (v : View). lock_count cell v.chains) core seat view v in
    omega arith

-- a front of some ancestors has the one at each of its places
in_front : (xs : List ℕ) (k r : ℕ) → k < r → r ≤ length xs → 0 < count_by (λ a. eqb a (get_or xs k 0)) (take r xs)
in_front xs k r l m =
    let len = length-take-le r xs m in
    let a = get_or-le-sum_by (λ a. one_if a (get_or xs k 0)) (take r xs) k 0 (omega arith) in
    let b = one_if-same (get_or (take r xs) k 0) (get_or xs k 0) (get_or-take r xs k 0 l) in
    omega arith

-- a chain raises its ancestors
pub raises_its_ancestors : (shape : Shape) (core : Core) (seat : ℕ) (view : View) (chain : Chain) (k : ℕ) → IsView core seat view → Contains view.chains chain
    → k < chain.raises → chain.raises ≤ length (ancestors shape chain.cell) → 0 < raises_of shape (ancestor_at shape chain k) core.views
raises_its_ancestors shape core seat view chain k v h l m =
    let a = in_front (ancestors shape chain.cell) k chain.raises l m in
    let b = share-le (λ (c : Chain). count_by (λ a. eqb a (ancestor_at shape chain k)) (take c.raises (ancestors shape c.cell))) view.chains chain h in
    let c = part-le-sum_by (λ (v : View). raise_count shape (ancestor_at shape chain k) v.chains) core seat view v in
    omega arith

-- chains raise a cell no more often than they lock the cells, each raising it once at most
raise_count-le : (shape : Shape) → IsShape shape → (cell : ℕ) (chains : List Chain) → ((c : Chain) → Contains chains c → c.cell < length shape.parents)
    → raise_count shape cell chains ≤ sum_by (λ k. lock_count k chains) (range_with_len 0 (length shape.parents))
raise_count-le shape is cell chains within =
    let cells = range_with_len 0 (length shape.parents) in
    let a = sum_by-le_each (λ (c : Chain). count_by (λ a. eqb a cell) (take c.raises (ancestors shape c.cell))) (λ (c : Chain). sum_by (one_if c.cell) cells) chains
    (λ c h.
    let once = raised_once shape is c.cell cell c.raises in
    let here = part-le-range (one_if c.cell) c.cell (length shape.parents) (within c h) in
    let one = one_if-same c.cell c.cell refl in
    omega arith) in
    let b = sum_by-turned (λ (c : Chain) (k : ℕ). one_if c.cell k) chains cells in
    omega arith

-- a cell is raised no more often than there are cells, since one chain at most locks each
pub raises_few : (shape : Shape) (core : Core) → IsShape shape → AreCellsSound shape core → (cell : ℕ) → raises_of shape cell core.views ≤ length shape.parents
raises_few shape core is s cell =
    few_for_places (λ (v : View). raise_count shape cell v.chains) (λ (v : View) (k : ℕ). lock_count k v.chains) core.views (length shape.parents)
    (λ v h. let w = get_from_Contains core.views v h in raise_count-le shape is cell v.chains (λ c g. ((s.chains w.0 v (record { is = w.1 })).cells c g).0))
    s.one_lock
