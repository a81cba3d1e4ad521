-- The rows of a snapshot, put one behind the other.
use Rattle.std.proofs.Common.{◌≡◌, ℕ, suc, ◌+◌, ◌<◌, ◌≤◌, List, [], ◌∷◌, ◌++◌, length, get_or, take, refl, sym, ap, ◌∙◌, arith, append_assoc, append-nil, add-zero}
use Rattle.std.specs.Prelude.{flat_map, codes}
use Rattle.std.proofs.lemmas.Grind.{flat_map-append}
use Rattle.std.proofs.lemmas.List.{take_more, take_all, length-take-le}
use Rattle.byteorder.specs.Endian.{little_bytes}
use Rattle.sph_num.specs.declared.particle.Particle.{Particle}
use Rattle.sph_num.proofs.PastEnd.{no_particle}
use Rattle.sph_snap.specs.declared.snapshot.SnapRow.{SnapRow}
use Rattle.sph_snap.specs.Snapshot.{signed_bytes, row_bytes, row_of, rows_from, snapshot_of, spell}

-- seven pieces, one behind the other
pieces : (base p q r s t u v a b c d e f g : List ℕ) → a ≡ base ++ p → b ≡ a ++ q → c ≡ b ++ r → d ≡ c ++ s → e ≡ d ++ t → f ≡ e ++ u → g ≡ f ++ v
    → g ≡ base ++ (p ++ q ++ r ++ s ++ t ++ u ++ v)
pieces base p q r s t u v a b c d e f g at_a at_b at_c at_d at_e at_f at_g =
    rw (at_g, at_f, at_e, at_d, at_c, at_b, at_a) (simp append_assoc)

-- the seven pieces of a row
pub row_put : (base : List ℕ) (row : SnapRow) (a b c d e f g : List ℕ) → a ≡ base ++ little_bytes 4 row.number → b ≡ a ++ little_bytes 4 row.mass
    → c ≡ b ++ little_bytes 4 row.h → d ≡ c ++ flat_map (little_bytes 4) row.x → e ≡ d ++ flat_map signed_bytes row.q → f ≡ e ++ little_bytes 8 row.rho
    → g ≡ f ++ little_bytes 4 row.bin → g ≡ base ++ row_bytes row
unfolding row_bytes
row_put base row a b c d e f g at_a at_b at_c at_d at_e at_f at_g =
    pieces base (little_bytes 4 row.number) (little_bytes 4 row.mass) (little_bytes 4 row.h) (flat_map (little_bytes 4) row.x) (flat_map signed_bytes row.q)
    (little_bytes 8 row.rho) (little_bytes 4 row.bin) a b c d e f g at_a at_b at_c at_d at_e at_f at_g

-- one more row at the end
rows_from_push : (number : ℕ) (ps : List Particle) (p : Particle) → rows_from number (ps ++ p ∷ []) ≡ rows_from number ps ++ row_of (number + length ps) p ∷ []
rows_from_push number [] p = ap (λ n. row_of n p ∷ []) (sym (add-zero number))
rows_from_push number (x ∷ ps) p =
    let place : suc number + length ps ≡ number + suc (length ps) = omega arith in
    ap (λ l. row_of number x ∷ l) (rows_from_push (suc number) ps p ∙ ap (λ n. rows_from (suc number) ps ++ row_of n p ∷ []) place)

-- the rows are as many as the particles
pub length-rows_from : (number : ℕ) (ps : List Particle) → length (rows_from number ps) ≡ length ps
length-rows_from number [] = refl
length-rows_from number (p ∷ ps) = ap suc (length-rows_from (suc number) ps)

-- one more row behind those of the particles before it
pub rows_next : (list : List Particle) (base out next : List ℕ) (i : ℕ) → i < length list
    → out ≡ base ++ flat_map row_bytes (rows_from 1 (take i list)) → next ≡ out ++ row_bytes (row_of (i + 1) (get_or list i no_particle))
    → next ≡ base ++ flat_map row_bytes (rows_from 1 (take (i + 1) list))
rows_next list base out next i within so_far put =
    let p = get_or list i no_particle in
    let before = rows_from 1 (take i list) in
    let place : 1 + length (take i list) ≡ i + 1 = omega (arith, length-take-le i list (omega arith)) in
    let rows : rows_from 1 (take (i + 1) list) ≡ before ++ row_of (i + 1) p ∷ [] =
    ap (rows_from 1) (take_more list i no_particle within) ∙ rows_from_push 1 (take i list) p ∙ ap (λ n. before ++ row_of n p ∷ []) place in
    let bytes : flat_map row_bytes (before ++ row_of (i + 1) p ∷ []) ≡ flat_map row_bytes before ++ row_bytes (row_of (i + 1) p) =
    flat_map-append row_bytes before (row_of (i + 1) p ∷ []) ∙ ap (λ l. flat_map row_bytes before ++ l) (append-nil (row_bytes (row_of (i + 1) p))) in
    put ∙ ap (λ l. l ++ row_bytes (row_of (i + 1) p)) so_far
    ∙ append_assoc base (flat_map row_bytes before) (row_bytes (row_of (i + 1) p))
    ∙ ap (λ l. base ++ l) (sym (ap (flat_map row_bytes) rows ∙ bytes))

-- the head and all rows are the snapshot
pub whole_snapshot : (t : ℕ) (list : List Particle) (mark tick count out : List ℕ) (i : ℕ) → length list ≤ i → mark ≡ codes "SPHSNAP1" → tick ≡ mark ++ little_bytes 4 t
    → count ≡ tick ++ little_bytes 4 (length list) → out ≡ count ++ flat_map row_bytes (rows_from 1 (take i list)) → out ≡ spell (snapshot_of t list)
unfolding spell
whole_snapshot t list mark tick count out i all at_mark at_tick at_count at_out =
    at_out ∙ ap (λ l. count ++ flat_map row_bytes (rows_from 1 l)) (take_all i list all)
    ∙ ap (λ l. l ++ flat_map row_bytes (rows_from 1 list)) (
    at_count ∙ ap (λ l. l ++ little_bytes 4 (length list)) (at_tick ∙ ap (λ l. l ++ little_bytes 4 t) at_mark)
    ∙ ap (λ n. (codes "SPHSNAP1" ++ little_bytes 4 t) ++ little_bytes 4 n) (sym (length-rows_from 1 list))
    )
