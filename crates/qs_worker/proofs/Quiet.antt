-- Notes that free no task, and claim none or one.
use Rattle.std.proofs.Common.{◌≡◌, ℕ, ◌<◌, Bool, cond, List, [], ◌∷◌, ◌++◌, All, Option, Some, None, refl, sym, ap, ap₂, ◌∙◌, append_assoc, append-nil, ne_eqb, arith}
use Rattle.std.specs.List.{cons_option}
use Rattle.std.proofs.lemmas.List.Elements.{All-head, All-tail, filter_map-append}
use Rattle.qs_core.specs.declared.event.Note.{Note}
use Rattle.qs_core.specs.declared.event.StepKind.{StepKind}
use Rattle.qs_core.specs.declared.event.StepKind.TheVariants.{Lock, Raise, Lower, Unlock, Fetch, Return, Claim, Release}
use Rattle.qs_table.specs.declared.view.SeatView.{SeatView}
use Rattle.qs_table.specs.Claims.{freed_in, freed_of}
use Rattle.qs_table.specs.Notes.{AreOnCells, Grew, IsCellNote, IsOnCell}
use Rattle.qs_worker.specs.Claims.{claimed_of, claimed_in}
use Rattle.qs_worker.specs.inner.Leaves.{GrewClaiming, GrewQuietly, KeptCells}

pub quiet_none : (ns : List Note) → GrewQuietly ns ns
quiet_none ns = record { further = []; is = sym (append-nil ns); frees_none = refl; claims = refl }

-- what two lists of notes claim, one behind the other
pub claims-append : (xs ys : List Note) {tasks tasks' : List ℕ} → claimed_in xs ≡ tasks → claimed_in ys ≡ tasks' → claimed_in (xs ++ ys) ≡ tasks ++ tasks'
claims-append xs ys e f = filter_map-append (λ (note : Note). claimed_of note.kind note.cell note.seen) xs ys ∙ ap₂ (λ (ts us : List ℕ). ts ++ us) e f

-- quiet notes, and then others
abbrev pub quiet_twice : {tasks : List ℕ} (a b c : List Note) → GrewQuietly a b → GrewClaiming tasks b c → GrewClaiming tasks a c
quiet_twice a b c g h = record {
  further = g.further ++ h.further;
  is = h.is ∙ ap (λ (ns : List Note). ns ++ h.further) g.is ∙ append_assoc a g.further h.further;
  frees_none = filter_map-append (λ (note : Note). freed_of note.kind note.cell note.seen) g.further h.further ∙ ap₂ (λ (xs ys : List ℕ). xs ++ ys) g.frees_none h.frees_none;
  claims = claims-append g.further h.further g.claims h.claims;
}

-- quiet notes behind others
pub quiet_then : {tasks : List ℕ} (a b c : List Note) → GrewClaiming tasks a b → GrewQuietly b c → GrewClaiming tasks a c
quiet_then {tasks} a b c g h = record {
  further = g.further ++ h.further;
  is = h.is ∙ ap (λ (ns : List Note). ns ++ h.further) g.is ∙ append_assoc a g.further h.further;
  frees_none = filter_map-append (λ (note : Note). freed_of note.kind note.cell note.seen) g.further h.further ∙ ap₂ (λ (xs ys : List ℕ). xs ++ ys) g.frees_none h.frees_none;
  claims = claims-append g.further h.further g.claims h.claims ∙ append-nil tasks;
}

-- one note of a step that frees and claims none
pub quiet_one : (ns : List Note) (note : Note) → freed_in (note ∷ []) ≡ [] → claimed_in (note ∷ []) ≡ [] → GrewQuietly ns (ns ++ note ∷ [])
quiet_one ns note none none' = record { further = note ∷ []; is = refl; frees_none = none; claims = none' }

-- a claim that saw another word than 0 claims none
pub none_got : (task seen : ℕ) → 0 < seen → cons_option (claimed_of Claim task seen) [] ≡ []
none_got task seen some = ap (λ (b : Bool). cons_option (cond {A = Option ℕ} b (Some task) None) []) (ne_eqb seen 0 (λ e. omega arith))

-- steps on cells free and claim none
on_cell : (kind : StepKind) (cell seen : ℕ) → IsOnCell kind → freed_of kind cell seen ≡ None
on_cell Lock cell seen c = refl
on_cell Raise cell seen c = refl
on_cell Lower cell seen c = refl
on_cell Unlock cell seen c = refl
on_cell Fetch cell seen c = refl
on_cell Return cell seen c = refl
on_cell Claim cell seen c = refl
on_cell Release cell seen c = absurd c

pub none_freed : (ns : List Note) → AreOnCells ns → freed_in ns ≡ []
none_freed [] a = refl
none_freed (n ∷ ns) a = ap₂ (λ o xs. cons_option o xs) (on_cell n.kind n.cell n.seen (All-head IsCellNote n ns a)) (none_freed ns (All-tail IsCellNote n ns a))

not_claim : (kind : StepKind) (cell seen : ℕ) → IsOnCell kind → claimed_of kind cell seen ≡ None
not_claim Lock cell seen c = refl
not_claim Raise cell seen c = refl
not_claim Lower cell seen c = refl
not_claim Unlock cell seen c = refl
not_claim Fetch cell seen c = refl
not_claim Return cell seen c = refl
not_claim Claim cell seen c = absurd c
not_claim Release cell seen c = refl

pub none_claimed : (ns : List Note) → AreOnCells ns → claimed_in ns ≡ []
none_claimed [] a = refl
none_claimed (n ∷ ns) a = ap₂ (λ o xs. cons_option o xs) (not_claim n.kind n.cell n.seen (All-head IsCellNote n ns a)) (none_claimed ns (All-tail IsCellNote n ns a))

abbrev pub quiet_cells : (a b : List Note) → Grew a b → GrewQuietly a b
quiet_cells a b g = record { further = g.further; is = g.is; frees_none = none_freed g.further g.on_cells; claims = none_claimed g.further g.on_cells }

-- releases claim none
pub none_claimed_after : (ns : List Note) → All (λ (note : Note). note.kind ≡ Release) ns → claimed_in ns ≡ []
none_claimed_after [] a = refl
none_claimed_after (n ∷ ns) a =
    ap₂ (λ o xs. cons_option o xs) (ap (λ (kind : StepKind). claimed_of kind n.cell n.seen) (All-head (λ (note : Note). note.kind ≡ Release) n ns a)) (none_claimed_after ns (All-tail (λ (note : Note). note.kind ≡ Release) n ns a))

pub kept_twice : (a b c : SeatView) → KeptCells a b → KeptCells b c → KeptCells a c
kept_twice a b c k l = record { place = l.place ∙ k.place; chains = l.chains ∙ k.chains; notes = quiet_twice a.notes b.notes c.notes k.notes l.notes }
