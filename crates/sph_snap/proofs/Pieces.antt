-- Pieces of bytes: where they stand.
use Rattle.std.proofs.Common.{◌≡◌, ℕ, ◌+◌, ◌-◌, ◌<◌, ◌≤◌, List, [], ◌∷◌, ◌++◌, length, drop, refl, sym, ap, ◌∙◌, arith, length-append}
use Rattle.std.specs.List.{flat_map}
use Rattle.std.proofs.lemmas.List.{append_assoc, drop-drop, drop_at, length-drop}

-- the piece stands at the offset of the bytes
pub record IsAt (piece bytes : List ℕ) (at : ℕ) : Type 0 where
  pub after : List ℕ
  pub is : drop at bytes ≡ piece ++ after

pub IsAt-first : (p q bytes : List ℕ) (at : ℕ) → IsAt (p ++ q) bytes at → IsAt p bytes at
IsAt-first p q bytes at h = record { after = q ++ h.after; is = h.is ∙ append_assoc p q h.after }

pub IsAt-second : (p q bytes : List ℕ) (at next : ℕ) → next ≡ at + length p → IsAt (p ++ q) bytes at → IsAt q bytes next
IsAt-second p q bytes at next e h = record {
  after = h.after;
  is = ap (λ k. drop k bytes) e ∙ sym (drop-drop (length p) at bytes) ∙ ap (drop (length p)) (h.is ∙ append_assoc p q h.after) ∙ drop_at p (q ++ h.after) (length p) refl;
}

-- a piece that isn't empty ends within the bytes
pub IsAt-fits : (p bytes : List ℕ) (at : ℕ) → 0 < length p → IsAt p bytes at → at + length p ≤ length bytes
IsAt-fits p bytes at some h =
    let whole : length bytes - at ≡ length p + length h.after = sym (length-drop at bytes) ∙ ap length h.is ∙ length-append p h.after in
    omega arith

-- pieces one behind the other
pub IsAt-append : {p q bytes : List ℕ} {at next : ℕ} → IsAt p bytes at → IsAt q bytes next → next ≡ at + length p → IsAt (p ++ q) bytes at
IsAt-append {p = p} {q = q} {bytes = bytes} {at = at} {next = next} first second e =
    record { after = second.after; is = first.is ∙ ap (λ l. p ++ l) rest ∙ sym (append_assoc p q second.after) }
  where
    rest : first.after ≡ q ++ second.after
    rest =
        sym (drop_at p first.after (length p) refl) ∙ ap (drop (length p)) (sym first.is) ∙ drop-drop (length p) at bytes
        ∙ ap (λ k. drop k bytes) (sym e) ∙ second.is

pub IsAt-nil : (bytes : List ℕ) (at : ℕ) → IsAt [] bytes at
IsAt-nil bytes at = record { after = drop at bytes; is = refl }

-- three codes of one length
pub IsAt-three : {X : Type 0} (code : X → List ℕ) (n : ℕ) (x y z : X) (bytes : List ℕ) (at second third : ℕ) → length (code x) ≡ n → length (code y) ≡ n
    → second ≡ at + n → third ≡ second + n → IsAt (code x) bytes at → IsAt (code y) bytes second → IsAt (code z) bytes third → IsAt (flat_map code (x ∷ y ∷ z ∷ [])) bytes at
IsAt-three code n x y z bytes at second third lx ly e f first next last =
    IsAt-append first
    (IsAt-append next (IsAt-append last (IsAt-nil bytes (third + length (code z))) refl) (f ∙ ap (λ k. second + k) (sym ly)))
    (e ∙ ap (λ k. at + k) (sym lx))
