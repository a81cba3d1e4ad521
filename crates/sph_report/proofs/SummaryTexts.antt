-- The line of a summary: a format's pieces are joined from the right, and the words of the line from the left.
use Rattle.std.proofs.Common.{◌≡◌, ℕ, List, [], ◌∷◌, ◌++◌, append_assoc, ◌∙◌}
use Rattle.std.specs.Prelude.{ℤ, codes, decimal}
use Rattle.std.specs.Fmt.{signed_decimal}
use Rattle.sph_num.specs.declared.particle.Particle.{Particle}
use Rattle.sph_report.specs.SummaryLine.{summary_line, total_density, total_momentum}

-- the pieces of the format
abbrev pub summary_pieces : ℕ → ℕ → ℤ → ℤ → ℤ → List ℕ
summary_pieces t rho qx qy qz =
    codes "tick "
    ++ (decimal t
    ++ (codes " rho " ++ (decimal rho ++ (codes " qx " ++ (signed_decimal qx ++ (codes " qy " ++ (signed_decimal qy ++ (codes " qz " ++ (signed_decimal qz ++ 10 ∷ [])))))))))

five_entries : (a b c d e p q r s u end : List ℕ)
    → a ++ (p ++ (b ++ (q ++ (c ++ (r ++ (d ++ (s ++ (e ++ (u ++ end))))))))) ≡ a ++ p ++ b ++ q ++ c ++ r ++ d ++ s ++ e ++ u ++ end
five_entries a b c d e p q r s u end = simp append_assoc

-- are the line, where the numbers are the sums
pub summary_joined : (t rho : ℕ) (qx qy qz : ℤ) (list : List Particle) → rho ≡ total_density list → qx ≡ total_momentum 0 list → qy ≡ total_momentum 1 list → qz ≡ total_momentum 2 list
    → summary_pieces t rho qx qy qz ≡ summary_line t list
unfolding summary_line
summary_joined t rho qx qy qz list rho_is qx_is qy_is qz_is =
    rw (rho_is, qx_is, qy_is, qz_is) (five_entries (codes "tick ") (codes " rho ") (codes " qx ") (codes " qy ") (codes " qz ") _ _ _ _ _ (10 ∷ []))
