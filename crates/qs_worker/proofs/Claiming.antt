-- A task that is claimed counts.
use Rattle.std.proofs.Common.{◌≡◌, ◌==◌, ◌&&◌, ℕ, ◌+◌, ◌<◌, cond, List, [], ◌∷◌, count_by, refl, sym, ap, ◌∙◌, subst}
use Rattle.std.specs.List.{cons_option}
use Rattle.std.proofs.lemmas.List.Sums.{sum_by-cons}
use Rattle.lists.proofs.Counts.{count-pos}
use Rattle.lists.proofs.Elements.{Contains-head}
use Rattle.qs_core.specs.declared.event.Note.{Note}
use Rattle.qs_core.specs.declared.event.StepKind.{StepKind}
use Rattle.qs_core.specs.declared.event.StepKind.TheVariants.{Lock, Raise, Lower, Unlock, Fetch, Return, Claim, Release}
use Rattle.qs_table.specs.Notes.{claims, claims_task}
use Rattle.qs_worker.specs.Claims.{claimed_of, claimed_in}
use Rattle.qs_worker.proofs.Freed.{one_released, plus_none}

-- what is claimed, counted by the notes that claim it
one_claimed : (task cell seen : ℕ) (kind : StepKind) (rest : List ℕ) → count_by (λ t. t == task) (cons_option (claimed_of kind cell seen) rest) ≡ cond (claims kind && ((cell == task) && (seen == 0))) 1 0 + count_by (λ t. t == task) rest
one_claimed task cell seen Lock rest = plus_none (count_by (λ t. t == task) rest)
one_claimed task cell seen Raise rest = plus_none (count_by (λ t. t == task) rest)
one_claimed task cell seen Lower rest = plus_none (count_by (λ t. t == task) rest)
one_claimed task cell seen Unlock rest = plus_none (count_by (λ t. t == task) rest)
one_claimed task cell seen Fetch rest = plus_none (count_by (λ t. t == task) rest)
one_claimed task cell seen Return rest = plus_none (count_by (λ t. t == task) rest)
one_claimed task cell seen Claim rest = one_released task cell (seen == 0) rest
one_claimed task cell seen Release rest = plus_none (count_by (λ t. t == task) rest)

claims_count : (task : ℕ) (notes : List Note) → count_by (λ t. t == task) (claimed_in notes) ≡ count_by (claims_task task) notes
claims_count task [] = refl
claims_count task (n ∷ ns) =
    let a = one_claimed task n.cell n.seen n.kind (claimed_in ns) in
    let b = claims_count task ns in
    let c = sum_by-cons (λ (x : Note). cond {A = ℕ} (claims_task task x) 1 0) n ns in
    a ∙ ap (λ (m : ℕ). cond {A = ℕ} (claims_task task n) 1 0 + m) b ∙ sym c

pub is_claimed : (task : ℕ) (notes : List Note) → claimed_in notes ≡ task ∷ [] → 0 < count_by (claims_task task) notes
is_claimed task notes e =
    let counts = ap (λ (ts : List ℕ). count_by (λ t. t == task) ts) e in
    subst (λ (n : ℕ). 0 < n) (sym counts ∙ claims_count task notes) (count-pos (task ∷ []) task (Contains-head task []))
