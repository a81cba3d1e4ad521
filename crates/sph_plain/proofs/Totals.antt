-- Sums over the bodies, one body at a time, and that they are those over the particles.
use Rattle.std.proofs.Common.{◌≡◌, ℕ, zero, suc, ◌+◌, ◌*◌, ◌^◌, ◌<◌, ◌≤◌, max, List, [], ◌∷◌, length, map, take, get_or, refl, sym, ap, ◌∙◌, arith}
use Rattle.std.specs.Prelude.{ℤ, pos, negsuc, ◌+ℤ◌, ◌-ℤ◌, ◌*ℤ◌, unsigned_abs, sum_by}
use Rattle.std.specs.Int.{int_rem_euclid}
use Rattle.std.specs.List.{All}
use Rattle.std.proofs.lemmas.Int.{ints, unsigned_abs-mul}
use Rattle.std.proofs.lemmas.List.{length-take}
use Rattle.std.proofs.lemmas.List.Elements.{All-take, All-weaker}
use Rattle.std.proofs.lemmas.Bool.Decides.{nat_tests}
use Rattle.std.proofs.lemmas.List.Folds.{fold-map}
use Rattle.std.proofs.lemmas.List.Sums.{sum_by_more}
use Rattle.std.proofs.lemmas.Nat.{mul-le}
use Rattle.lists.proofs.Elements.{three-eq}
use Rattle.sph_num.specs.declared.particle.Params.{Params}
use Rattle.sph_num.specs.declared.particle.Particle.{Particle}
use Rattle.sph_num.specs.Density.{density_part, density_within}
use Rattle.sph_num.specs.Pull.{pair_factor}
use Rattle.sph_num.specs.Ranges.{most_particles}
use Rattle.sph_num.specs.Space.{box_side, minimal, dist2}
use Rattle.sph_num.specs.Totals.{total_by, component, vector_of}
use Rattle.sph_num.proofs.Forces.{force_factor_out_of_reach, total_by-le}
use Rattle.sph_num.proofs.Slopes.{factor_within-lt}
use Rattle.sph_bins.specs.Kick.{density_at, force_at}
use Rattle.sph_plain.specs.declared.body.Body.{Body}
use Rattle.sph_plain.specs.inner.Bodies.{IsInRange, body_at, ghost_body, density_from, pull_on, pulled, force_on}

-- a sum of signed numbers takes one element more
total_next : {A : Type 0} (f : A → ℤ) (xs : List A) (k : ℕ) (d : A) → k < length xs → total_by f (take (suc k) xs) ≡ total_by f (take k xs) +ℤ f (get_or xs k d)
total_next f [] k d low = absurd (omega arith)
total_next f (x ∷ xs) zero d low = omega (arith, ints)
total_next f (x ∷ xs) (suc k) d low = omega (arith, ints, total_next f xs k d (omega arith))

total_by_more : {A : Type 0} (f : A → ℤ) (xs : List A) (k : ℕ) (d : A) → k < length xs → total_by f (take k xs) +ℤ f (get_or xs k d) ≡ total_by f (take (k + 1) xs)
total_by_more f xs k d low =
    let next : suc k ≡ k + 1 = omega arith in
    sym (total_next f xs k d low) ∙ ap (λ n. total_by f (take n xs)) next

total_by_kept : {A : Type 0} (f : A → ℤ) (xs : List A) (k : ℕ) (d : A) → k < length xs → f (get_or xs k d) ≡ pos 0 → total_by f (take k xs) ≡ total_by f (take (k + 1) xs)
total_by_kept f xs k d low none = omega (arith, ints, none, total_by_more f xs k d low)

pub total_by-map : {A B : Type 0} (f : B → ℤ) (g : A → B) (xs : List A) → total_by f (map g xs) ≡ total_by (λ x. f (g x)) xs
total_by-map f g [] = refl
total_by-map f g (x ∷ xs) = ap (λ z. f (g x) +ℤ z) (total_by-map f g xs)

-- what a mass adds to the density within the length, and from it on
density_within_inner : (mass r2 h : ℕ) → r2 < h * h → density_within mass r2 h ≡ density_part mass r2 h
density_within_inner mass r2 h reach = grind (arith, nat_tests)

density_within_outer : (mass r2 h : ℕ) → h * h ≤ r2 → density_within mass r2 h ≡ 0
density_within_outer mass r2 h beyond = grind (arith, nat_tests)

-- the density from one body more, in reach or out of it
pub density_more : (i : Body) (bodies : List Body) (k : ℕ) (d : Body) (total part r2 : ℕ) → k < length bodies → total ≡ sum_by (density_from i) (take k bodies) → r2 ≡ dist2 i.place (get_or bodies k d).place → r2 < i.pull.h * i.pull.h
    → part ≡ density_part (get_or bodies k d).pull.mass r2 i.pull.h → total + part ≡ sum_by (density_from i) (take (k + 1) bodies)
density_more i bodies k d total part r2 low so_far distance reach is =
    let j = get_or bodies k d in
    let one : part ≡ density_from i j = is ∙ sym (density_within_inner j.pull.mass r2 i.pull.h reach) ∙ ap (λ n. density_within j.pull.mass n i.pull.h) distance in
    omega (arith, so_far, one, sum_by_more (density_from i) bodies k d low)

pub density_kept : (i : Body) (bodies : List Body) (k : ℕ) (d : Body) (total r2 : ℕ) → k < length bodies → total ≡ sum_by (density_from i) (take k bodies) → r2 ≡ dist2 i.place (get_or bodies k d).place → i.pull.h * i.pull.h ≤ r2
    → total ≡ sum_by (density_from i) (take (k + 1) bodies)
density_kept i bodies k d total r2 low so_far distance beyond =
    let j = get_or bodies k d in
    let none : density_from i j ≡ 0 = ap (λ n. density_within j.pull.mass n i.pull.h) (sym distance) ∙ density_within_outer j.pull.mass r2 i.pull.h beyond in
    omega (arith, so_far, none, sum_by_more (density_from i) bodies k d low)

-- the force from one body more, and from one that gives none
pub force_on_more : (i : Body) (bodies : List Body) (k : ℕ) (d : Body) (total : List ℤ) → k < length bodies → total ≡ force_on i (take k bodies) → pulled total i (get_or bodies k d) ≡ force_on i (take (k + 1) bodies)
unfolding force_on pulled
force_on_more i bodies k d total low so_far =
    ap (λ v. vector_of (λ axis. component v axis +ℤ pull_on i axis (get_or bodies k d))) so_far
    ∙ three-eq _ _ _ _ _ _ (total_by_more (pull_on i 0) bodies k d low) (total_by_more (pull_on i 1) bodies k d low) (total_by_more (pull_on i 2) bodies k d low)

pull_on_none : (i j : Body) (axis : ℕ) → max i.pull.h j.pull.h * max i.pull.h j.pull.h ≤ dist2 i.place j.place → pull_on i axis j ≡ pos 0
pull_on_none i j axis far =
    let none = force_factor_out_of_reach i.pull.mass j.pull.mass i.pull.h j.pull.h i.pull.g j.pull.g (dist2 i.place j.place) far in
    let offset = minimal (get_or i.place axis 0) (get_or j.place axis 0) in
    let zero_times : pos 0 *ℤ offset ≡ pos 0 = omega (arith, ints) in
    ap (λ n. pos n *ℤ offset) none ∙ zero_times

pub force_on_kept : (i : Body) (bodies : List Body) (k : ℕ) (d : Body) (total : List ℤ) → k < length bodies → total ≡ force_on i (take k bodies) → max i.pull.h (get_or bodies k d).pull.h * max i.pull.h (get_or bodies k d).pull.h ≤ dist2 i.place (get_or bodies k d).place → total ≡ force_on i (take (k + 1) bodies)
unfolding force_on
force_on_kept i bodies k d total low so_far far =
    let none = λ (axis : ℕ). pull_on_none i (get_or bodies k d) axis far in
    so_far ∙ three-eq _ _ _ _ _ _ (total_by_kept (pull_on i 0) bodies k d low (none 0)) (total_by_kept (pull_on i 1) bodies k d low (none 1)) (total_by_kept (pull_on i 2) bodies k d low (none 2))

pub force_on_none : (i : Body) (bodies : List Body) → pos 0 ∷ pos 0 ∷ pos 0 ∷ [] ≡ force_on i (take 0 bodies)
unfolding force_on
force_on_none i bodies = refl

-- a minimal image is at most half the box
rem_half : (z : ℤ) → unsigned_abs (int_rem_euclid z (pos box_side) -ℤ pos (2 ^ 19)) ≤ 2 ^ 19
rem_half (pos n) = omega (arith, ints)
rem_half (negsuc n) = omega (arith, ints)

pub minimal-le : (a b : ℕ) → unsigned_abs (minimal a b) ≤ 2 ^ 19
minimal-le a b = rem_half ((pos a -ℤ pos b) +ℤ pos (2 ^ 19))

-- a factor times an image
pub factor_image-le : (factor : ℕ) (z : ℤ) → factor < 2 ^ 76 → unsigned_abs z ≤ 2 ^ 19 → unsigned_abs (pos factor *ℤ z) ≤ 2 ^ 95
factor_image-le factor z weak near = omega (arith, unsigned_abs-mul (pos factor) z, mul-le factor (unsigned_abs z) (2 ^ 76) (2 ^ 19) (omega arith) near)

pair_factor-lt : (i j : Body) (r2 : ℕ) → IsInRange i → IsInRange j → pair_factor i.pull j.pull r2 < 2 ^ 76
pair_factor-lt i j r2 first second =
    let both : i.pull.mass * j.pull.mass ≤ 2 ^ 32 = mul-le i.pull.mass j.pull.mass (2 ^ 16) (2 ^ 16) first.mass.high second.mass.high in
    omega (arith, factor_within-lt (i.pull.mass * j.pull.mass) i.pull.g r2 i.pull.h both first.low_ghost first.h, factor_within-lt (i.pull.mass * j.pull.mass) j.pull.g r2 j.pull.h both second.low_ghost second.h)

pull_on-le : (i j : Body) (axis : ℕ) → IsInRange i → IsInRange j → unsigned_abs (pull_on i axis j) ≤ 2 ^ 95
pull_on-le i j axis first second =
    factor_image-le (pair_factor i.pull j.pull (dist2 i.place j.place)) (minimal (get_or i.place axis 0) (get_or j.place axis 0))
    (pair_factor-lt i j (dist2 i.place j.place) first second) (minimal-le (get_or i.place axis 0) (get_or j.place axis 0))

-- so a force on an axis stays narrow
total_narrow : (n : ℕ) (z : ℤ) → n ≤ most_particles → unsigned_abs z ≤ n * 2 ^ 95 → unsigned_abs z < 2 ^ 120
total_narrow n z few low = omega arith

total_pull-lt : (i : Body) (bodies : List Body) (k axis : ℕ) → IsInRange i → All IsInRange bodies → length bodies ≤ most_particles → unsigned_abs (total_by (pull_on i axis) (take k bodies)) < 2 ^ 120
total_pull-lt i bodies k axis first all few =
    let each = All-weaker IsInRange (λ j. unsigned_abs (pull_on i axis j) ≤ 2 ^ 95) (λ j second. pull_on-le i j axis first second) (take k bodies) (All-take IsInRange k bodies all) in
    total_narrow (length (take k bodies)) (total_by (pull_on i axis) (take k bodies)) (omega (arith, length-take k bodies)) (total_by-le (pull_on i axis) (2 ^ 95) (take k bodies) each)

pub force_on-lt : (i : Body) (bodies : List Body) (k : ℕ) → IsInRange i → All IsInRange bodies → length bodies ≤ most_particles → (axis : ℕ) → unsigned_abs (component (force_on i (take k bodies)) axis) < 2 ^ 120
unfolding force_on
force_on-lt i bodies k first all few zero = total_pull-lt i bodies k 0 first all few
force_on-lt i bodies k first all few (suc zero) = total_pull-lt i bodies k 1 first all few
force_on-lt i bodies k first all few (suc (suc zero)) = total_pull-lt i bodies k 2 first all few
force_on-lt i bodies k first all few (suc (suc (suc axis))) = omega arith

-- the sums over the bodies are those over the particles
pub density_of_bodies : (params : Params) (t : ℕ) (list : List Particle) (i : Particle) → sum_by (density_from (body_at params t i)) (map (body_at params t) list) ≡ density_at params t list i
density_of_bodies params t list i = fold-map (λ a j. a + density_from (body_at params t i) j) (body_at params t) 0 list

pub force_of_bodies : (params : Params) (t : ℕ) (list : List Particle) (i : Particle) → force_on (ghost_body params t list i) (map (ghost_body params t list) list) ≡ force_at params t list i
unfolding force_on ghost_body
force_of_bodies params t list i =
    let body = ghost_body params t list in
    three-eq _ _ _ _ _ _ (total_by-map (pull_on (body i) 0) body list) (total_by-map (pull_on (body i) 1) body list) (total_by-map (pull_on (body i) 2) body list)
