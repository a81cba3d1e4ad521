-- The tasks of a heap stay below a limit.
use Rattle.std.proofs.Common.{◌≡◌, ℕ, ◌<◌, Option, Some, None, List, ◌∷◌, sym, subst}
use Rattle.std.specs.Prelude.{IfSome, IfNone}
use Rattle.std.proofs.lemmas.List.Elements.{All-tail}
use Rattle.std.proofs.lemmas.List.Sorted.{All-permutation}
use Rattle.qs_heap.specs.declared.entry.Entry.{Entry}
use Rattle.qs_heap.specs.Entries.{RemovesEntry, entry_at}
use Rattle.qs_heap.specs.Heap.{Heap}
use Rattle.qs_heap.specs.Scans.{AreBelow, AllRefused, TakesFirst}

-- fewer entries, by a scan
pub below_taken : (limit : ℕ) (taken : Entry) (old new : List Entry) → RemovesEntry taken old new → AreBelow limit old → AreBelow limit new
below_taken limit taken old new only below =
    let P : Entry → Type 0 = λ entry. entry.task < limit in
    All-tail P taken new (All-permutation P old (taken ∷ new) only below)

-- whatever a scan answers
pub below_scanned : (limit : ℕ) (refused : ℕ → Type 0) (old new : Heap) (answer : Option ℕ) → IfSome answer (λ task. TakesFirst refused task old.entries new.entries) → IfNone answer (AllRefused refused old.entries × (new ≡ old)) → AreBelow limit old.entries → AreBelow limit new.entries
below_scanned limit refused old new (Some task) some none below = below_taken limit (entry_at old.entries some.place) old.entries new.entries some.rest below
below_scanned limit refused old new None some none below =
    let P : Heap → Type 0 = λ heap. AreBelow limit heap.entries in
    subst P (sym none.1) below
