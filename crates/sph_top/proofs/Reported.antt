-- What follows for the top call from what its answer rests on and from what came of its line.
use Rattle.std.proofs.Common.{◌≡◌, List, refl, sym, ◌∙◌, subst, inl, inr, ◌⊎◌}
use Rattle.std.specs.Prelude.{String}
use Rattle.std.specs.declared.alloc.Global.{Global}
use Rattle.std.specs.Io.KnownBytes.{Appends}
use Rattle.sph_edge.specs.Causes.{Stayed}
use Rattle.sph_top.specs.declared.status.Status.{Status}
use Rattle.sph_top.specs.declared.status.Status.TheVariants.{Done, WriteFault, NoMemory}
use Rattle.sph_top.specs.Answers.{Change, AppendsSome, IsWithoutFault, IsWithoutOutput, Rests, TellsWriteFault, Yields}
use Rattle.sph_top.specs.Lines.{error_line}
use Rattle.sph_top.specs.inner.Steps.{HasMadeLine, IsTold, Reports}
use Rattle.sph_top.proofs.Rest.{AppendsSome-rests, NoMemory-made, made_without_fault, stayed_not_rose}

-- the answer whose line was written: the one before it, or NoMemory where that line takes memory
record WasSaid (status said result : Status) (err : Change) : Type 0 where
  pub which : (said ≡ status) ⊎ (HasMadeLine status × (said ≡ NoMemory))
  pub told : IsTold said result err

WasSaid-reports : (status result : Status) (err : Change) → Reports status result err → (said : Status) × WasSaid status said result err
WasSaid-reports status result err (inl told) = (status, record { which = inl refl; told = told })
WasSaid-reports status result err (inr failed) = (NoMemory, record { which = inr (failed.0, refl); told = failed.1 })

module _ (status result : Status) (err : Change) (reports : Reports status result err) where
  -- the answer is the wanted one, where it was before its line was written
  pub yields : (wanted : Status) → (status ≡ wanted) ⊎ (status ≡ NoMemory) → Yields wanted result err
  yields wanted was =
      let s = WasSaid-reports status result err reports in
      let said : (s.0 ≡ wanted) ⊎ (s.0 ≡ NoMemory) = elim s.1.which [
        | inl e ↦ elim was [ inl w ↦ inl (e ∙ w) | inr w ↦ inr (e ∙ w) ]
        | inr e ↦ inr e.1
      ] in
      elim s.1.told [
        | inl t ↦ elim said [ inl e ↦ inl (t.0 ∙ e) | inr e ↦ inr (inl (t.0 ∙ e)) ]
        | inr t ↦ inr (inr (t.1, t.2))
      ]

  -- where no fault is told, none was before the line was written, and no call of `err` failed
  pub without_fault : IsWithoutFault result → IsWithoutFault status × (err.after.faults ≡ err.before.faults)
  without_fault none = elim reports [
    | inl (inl t) ↦ (subst IsWithoutFault t.0 none, t.2)
    | inl (inr t) ↦ absurd (subst IsWithoutFault t.1 none)
    | inr (made, inl t) ↦ (made_without_fault status made, t.2)
    | inr (made, inr t) ↦ absurd (subst IsWithoutFault t.1 none)
  ]

  -- where `err` didn't fail, a run to the end stays one
  pub whole_run : Stayed err.before.faults err.after.faults → (status ≡ Done) ⊎ (status ≡ NoMemory) → (result ≡ Done) ⊎ (result ≡ NoMemory)
  whole_run stayed was = elim (yields Done was) [
    | inl e ↦ inl e
    | inr (inl e) ↦ inr e
    | inr (inr e) ↦ absurd (stayed_not_rose err.before.faults err.after.faults stayed e.1)
  ]

-- What follows from the answer whose line was written.
module _ (said result : Status) (err : Change) (told : IsTold said result err) where
  module _ (words : List (String Global)) (source out : Change) (rests : Rests said words source out) where
    rests_said : (wanted : Status) → (wanted ≡ WriteFault → ⊥) → result ≡ wanted → Rests wanted words source out
    rests_said wanted other e = elim told [
      | inl t ↦ subst (λ s. Rests s words source out) (sym t.0 ∙ e) rests
      | inr t ↦ absurd (other (sym e ∙ t.1))
    ]

    output_said : (IsWithoutOutput said → out.after ≡ out.before) → result ≡ WriteFault → AppendsSome words source out
    output_said same e = elim told [
      | inl t ↦ let was = t.0 in AppendsSome-rests said words source out (λ d. cc) same rests
      | inr t ↦ AppendsSome-rests said words source out t.0 same rests
    ]

    line_said : result ≡ WriteFault → TellsWriteFault words source out err
    line_said e = elim told [
      | inl t ↦ let was = sym t.0 ∙ e in
          inl ((subst (λ s. Rests s words source out) was rests).2, subst (λ s. Appends err.before.bytes err.after.bytes (error_line s)) was t.1)
      | inr t ↦ inr (t.2, said, t.0, rests, t.3)
    ]

module _ (status result : Status) (err : Change) (reports : Reports status result err) (words : List (String Global)) (source out : Change)
    (rests : Rests status words source out) (same : IsWithoutOutput status → out.after ≡ out.before) where
  -- what rests on the answer before its line rests on the one whose line was written
  Rests-said : (said : Status) → WasSaid status said result err → Rests said words source out × (IsWithoutOutput said → out.after ≡ out.before)
  Rests-said said was = elim was.which [
    | inl e ↦ subst (λ s. Rests s words source out × (IsWithoutOutput s → out.after ≡ out.before)) (sym e) (rests, same)
    | inr e ↦
        subst (λ s. Rests s words source out × (IsWithoutOutput s → out.after ≡ out.before)) (sym e.1)
        (NoMemory-made status words source out e.0 same, λ w. absurd w)
  ]

  -- what any answer but a write fault rests on
  pub answered : (wanted : Status) → (wanted ≡ WriteFault → ⊥) → result ≡ wanted → Rests wanted words source out
  answered wanted other e =
      let s = WasSaid-reports status result err reports in
      rests_said s.0 result err s.1.told words source out (Rests-said s.0 s.1).0 wanted other e

  -- what stands on the output under a write fault
  pub output_of_write_fault : result ≡ WriteFault → AppendsSome words source out
  output_of_write_fault e =
      let s = WasSaid-reports status result err reports in
      let r = Rests-said s.0 s.1 in
      output_said s.0 result err s.1.told words source out r.0 r.1 e

  -- what stands on `err` under a write fault
  pub line_of_write_fault : result ≡ WriteFault → TellsWriteFault words source out err
  line_of_write_fault e =
      let s = WasSaid-reports status result err reports in
      line_said s.0 result err s.1.told words source out (Rests-said s.0 s.1).0 e
