-- The three passes of a step over the list: what each knows of the next particle, and what it leaves of it.
use Rattle.std.proofs.Common.{◌≡◌, ℕ, ◌+◌, ◌<◌, Bool, true, false, List, [], length, map, get_or, set, inl, inr, refl, sym, ap, ◌∙◌, arith}
use Rattle.std.specs.Prelude.{ℤ, sum_by}
use Rattle.std.proofs.lemmas.Bool.{cases_Bool}
use Rattle.std.proofs.lemmas.List.{length-map, get_or-map}
use Rattle.sph_num.specs.declared.particle.Params.{Params}
use Rattle.sph_num.specs.declared.particle.Particle.{Particle}
use Rattle.sph_num.specs.Force.{ghost_value}
use Rattle.sph_num.specs.Motion.{position_of}
use Rattle.sph_num.specs.Pull.{puller}
use Rattle.sph_num.proofs.PastEnd.{no_particle}
use Rattle.sph_bins.specs.Bins.{is_due}
use Rattle.sph_bins.specs.Kick.{place_at, density_at, ghost_at, force_at, kicked_with, kicked, next_list}
use Rattle.sph_plain.specs.declared.body.Body.{Body}
use Rattle.sph_plain.specs.inner.Bodies.{body_of, body_at, ghost_body, density_from, force_on, with_rho, with_density, with_ghost, next_particle}
use Rattle.sph_plain.proofs.Mapped.{written, read_next, written_more, written_kept}
use Rattle.sph_plain.proofs.Totals.{density_of_bodies, force_of_bodies}

-- what a read past the end of a list would give
abbrev pub no_body : Body
no_body = record { place = []; pull = puller 0 0 0 }

-- an index of a list that was mapped
pub inside_map : {X Y : Type 0} (f : X → Y) (xs : List X) (ys : List Y) (i : ℕ) → ys ≡ map f xs → i < length ys → i < length xs
inside_map f xs ys i is low = omega (arith, ap length is, length-map xs f)

pub read_map : {X Y : Type 0} (f : X → Y) (xs : List X) (ys : List Y) (i : ℕ) (d : X) (e : Y) → ys ≡ map f xs → i < length xs → get_or ys i e ≡ f (get_or xs i d)
read_map f xs ys i d e is low = ap (λ zs. get_or zs i e) is ∙ get_or-map f xs i d e low

-- a particle with its density: as it was but for that
pub with_density_due : (params : Params) (t : ℕ) (list : List Particle) (i : Particle) → is_due t i.bin ≡ true → with_density params t list i ≡ with_rho i (density_at params t list i)
unfolding with_density
with_density_due params t list i due = rw due refl

pub with_density_waits : (params : Params) (t : ℕ) (list : List Particle) (i : Particle) → is_due t i.bin ≡ false → with_density params t list i ≡ i
unfolding with_density
with_density_waits params t list i waits = rw waits refl

pub with_density_bin : (params : Params) (t : ℕ) (list : List Particle) (i : Particle) → (with_density params t list i).bin ≡ i.bin
with_density_bin params t list i =
    elim (cases_Bool (is_due t i.bin)) [
      | inl due ↦ ap (λ p. p.bin) (with_density_due params t list i due)
      | inr waits ↦ ap (λ p. p.bin) (with_density_waits params t list i waits)
    ]

-- its ghost
ghost_body_due : (params : Params) (t : ℕ) (list : List Particle) (i : Particle) → is_due t i.bin ≡ true → ghost_body params t list i ≡ body_of params t i (ghost_value params.sound (density_at params t list i))
unfolding ghost_body
ghost_body_due params t list i due = rw due refl

ghost_body_waits : (params : Params) (t : ℕ) (list : List Particle) (i : Particle) → is_due t i.bin ≡ false → ghost_body params t list i ≡ body_at params t i
unfolding ghost_body
ghost_body_waits params t list i waits = rw waits refl

-- its kick
next_particle_due : (params : Params) (t : ℕ) (list : List Particle) (i : Particle) → is_due t i.bin ≡ true → next_particle params t list i ≡ kicked params t list i
unfolding next_particle
next_particle_due params t list i due = rw due refl

next_particle_waits : (params : Params) (t : ℕ) (list : List Particle) (i : Particle) → is_due t i.bin ≡ false → next_particle params t list i ≡ i
unfolding next_particle
next_particle_waits params t list i waits = rw waits refl

-- a place doesn't depend on the density
pub place_with_rho : (params : Params) (t : ℕ) (i : Particle) (rho : ℕ) → place_at params t (with_rho i rho) ≡ place_at params t i
unfolding position_of
place_with_rho params t i rho = refl

kicked_with_rho : (params : Params) (t : ℕ) (i : Particle) (rho g : ℕ) (f : List ℤ) → kicked_with params t (with_rho i rho) rho g f ≡ kicked_with params t i rho g f
unfolding position_of
kicked_with_rho params t i rho g f = refl

kicked_is : (params : Params) (t : ℕ) (list : List Particle) (i : Particle) → kicked_with params t i (density_at params t list i) (ghost_at params t list i) (force_at params t list i) ≡ kicked params t list i
unfolding kicked
kicked_is params t list i = refl

-- the next particle of each pass
abbrev pub particles_with_densities : Params → ℕ → List Particle → ℕ → List Particle
particles_with_densities params t list i = written (with_density params t list) list list i

abbrev pub bodies_with_ghosts : Params → ℕ → List Particle → ℕ → List Body
bodies_with_ghosts params t list i = written (ghost_body params t list) list (map (body_at params t) list) i

abbrev pub kicked_particles : Params → ℕ → List Particle → ℕ → List Particle
kicked_particles params t list i = written (next_particle params t list) list (map (with_density params t list) list) i

-- the first pass: the next particle is given the density at its body, or left
pub density_given : (params : Params) (t : ℕ) (list ps : List Particle) (bodies : List Body) (i rho : ℕ) (due : Bool) → i < length list → ps ≡ particles_with_densities params t list i → bodies ≡ map (body_at params t) list
    → due ≡ is_due t (get_or ps i no_particle).bin → due ≡ true → rho ≡ sum_by (density_from (get_or bodies i no_body)) bodies → set ps i (with_rho (get_or ps i no_particle) rho) ≡ particles_with_densities params t list (i + 1)
density_given params t list ps bodies i rho due inside so_far are asked holds sum =
    let p = get_or list i no_particle in
    let read = read_next (with_density params t list) list list ps i no_particle refl inside so_far in
    let is = ap (λ (p : Particle). is_due t p.bin) (sym read) ∙ sym asked ∙ holds in
    let body = read_map (body_at params t) list bodies i no_particle no_body are inside in
    let density : rho ≡ density_at params t list p = sum ∙ ap (λ b. sum_by (density_from b) bodies) body ∙ ap (sum_by (density_from (body_at params t p))) are ∙ density_of_bodies params t list p in
    let value : with_rho (get_or ps i no_particle) rho ≡ with_density params t list p = ap (λ (q : Particle). with_rho q rho) read ∙ ap (with_rho p) density ∙ sym (with_density_due params t list p is) in
    written_more (with_density params t list) list list ps i no_particle (with_rho (get_or ps i no_particle) rho) refl inside so_far value

pub density_left : (params : Params) (t : ℕ) (list ps : List Particle) (i : ℕ) (due : Bool) → i < length list → ps ≡ particles_with_densities params t list i
    → due ≡ is_due t (get_or ps i no_particle).bin → due ≡ false → ps ≡ particles_with_densities params t list (i + 1)
density_left params t list ps i due inside so_far asked fails =
    let p = get_or list i no_particle in
    let read = read_next (with_density params t list) list list ps i no_particle refl inside so_far in
    let waits = ap (λ (p : Particle). is_due t p.bin) (sym read) ∙ sym asked ∙ fails in
    written_kept (with_density params t list) list list ps i no_particle no_particle refl inside so_far (sym (with_density_waits params t list p waits))

-- the second pass: the next body is given the ghost of its particle's density, or left
pub due_with_density : (params : Params) (t : ℕ) (list ps : List Particle) (i : ℕ) (due answer : Bool) → i < length list → ps ≡ map (with_density params t list) list
    → due ≡ is_due t (get_or ps i no_particle).bin → due ≡ answer → is_due t (get_or list i no_particle).bin ≡ answer
due_with_density params t list ps i due answer inside are asked is =
    let bin = ap (λ (p : Particle). p.bin) (read_map (with_density params t list) list ps i no_particle no_particle are inside) ∙ with_density_bin params t list (get_or list i no_particle) in
    ap (λ b. is_due t b) (sym bin) ∙ sym asked ∙ is

pub rho_of_due : (params : Params) (t : ℕ) (list ps : List Particle) (i : ℕ) → i < length list → ps ≡ map (with_density params t list) list → is_due t (get_or list i no_particle).bin ≡ true → (get_or ps i no_particle).rho ≡ density_at params t list (get_or list i no_particle)
rho_of_due params t list ps i inside are is =
    ap (λ (p : Particle). p.rho) (read_map (with_density params t list) list ps i no_particle no_particle are inside ∙ with_density_due params t list (get_or list i no_particle) is)

pub ghost_given : (params : Params) (t : ℕ) (list ps : List Particle) (bodies : List Body) (i g : ℕ) (new d : Body) (due : Bool) → i < length list → bodies ≡ bodies_with_ghosts params t list i → ps ≡ map (with_density params t list) list
    → due ≡ is_due t (get_or ps i no_particle).bin → due ≡ true → g ≡ ghost_value params.sound (get_or ps i no_particle).rho → new ≡ with_ghost (get_or bodies i d) g → set bodies i new ≡ bodies_with_ghosts params t list (i + 1)
ghost_given params t list ps bodies i g new d due inside so_far are asked holds ghost_is new_is =
    let p = get_or list i no_particle in
    let olds = map (body_at params t) list in
    let is = due_with_density params t list ps i due true inside are asked holds in
    let body = read_next (ghost_body params t list) list olds bodies i d (length-map list (body_at params t)) inside so_far ∙ get_or-map (body_at params t) list i no_particle d inside in
    let light : g ≡ ghost_value params.sound (density_at params t list p) = ghost_is ∙ ap (ghost_value params.sound) (rho_of_due params t list ps i inside are is) in
    let value : new ≡ ghost_body params t list p = new_is ∙ ap (λ b. with_ghost b g) body ∙ ap (body_of params t p) light ∙ sym (ghost_body_due params t list p is) in
    written_more (ghost_body params t list) list olds bodies i no_particle new (length-map list (body_at params t)) inside so_far value

pub ghost_left : (params : Params) (t : ℕ) (list ps : List Particle) (bodies : List Body) (i : ℕ) (due : Bool) → i < length list → bodies ≡ bodies_with_ghosts params t list i → ps ≡ map (with_density params t list) list
    → due ≡ is_due t (get_or ps i no_particle).bin → due ≡ false → bodies ≡ bodies_with_ghosts params t list (i + 1)
ghost_left params t list ps bodies i due inside so_far are asked fails =
    let p = get_or list i no_particle in
    let olds = map (body_at params t) list in
    let waits = due_with_density params t list ps i due false inside are asked fails in
    written_kept (ghost_body params t list) list olds bodies i no_particle no_body (length-map list (body_at params t)) inside so_far
    (get_or-map (body_at params t) list i no_particle no_body inside ∙ sym (ghost_body_waits params t list p waits))

-- the third pass: the next particle has its density
pub read_dense : (params : Params) (t : ℕ) (list ps : List Particle) (i : ℕ) → i < length list → ps ≡ kicked_particles params t list i → get_or ps i no_particle ≡ with_density params t list (get_or list i no_particle)
read_dense params t list ps i inside so_far =
    read_next (next_particle params t list) list (map (with_density params t list) list) ps i no_particle (length-map list (with_density params t list)) inside so_far
    ∙ get_or-map (with_density params t list) list i no_particle no_particle inside

pub due_dense : (params : Params) (t : ℕ) (list ps : List Particle) (i : ℕ) (due answer : Bool) → i < length list → ps ≡ kicked_particles params t list i → due ≡ is_due t (get_or ps i no_particle).bin → due ≡ answer → is_due t (get_or list i no_particle).bin ≡ answer
due_dense params t list ps i due answer inside so_far asked is =
    let bin = ap (λ (p : Particle). p.bin) (read_dense params t list ps i inside so_far) ∙ with_density_bin params t list (get_or list i no_particle) in
    ap (λ b. is_due t b) (sym bin) ∙ sym asked ∙ is

pub dense_due : (params : Params) (t : ℕ) (list ps : List Particle) (i : ℕ) (due : Bool) → i < length list → ps ≡ kicked_particles params t list i → due ≡ is_due t (get_or ps i no_particle).bin → due ≡ true
    → get_or ps i no_particle ≡ with_rho (get_or list i no_particle) (density_at params t list (get_or list i no_particle))
dense_due params t list ps i due inside so_far asked holds =
    read_dense params t list ps i inside so_far ∙ with_density_due params t list (get_or list i no_particle) (due_dense params t list ps i due true inside so_far asked holds)

-- its body
pub body_with_ghost : (params : Params) (t : ℕ) (list : List Particle) (bodies : List Body) (i : ℕ) → i < length list → bodies ≡ map (ghost_body params t list) list → get_or bodies i no_body ≡ body_of params t (get_or list i no_particle) (ghost_at params t list (get_or list i no_particle))
unfolding ghost_body
body_with_ghost params t list bodies i inside are = read_map (ghost_body params t list) list bodies i no_particle no_body are inside

pub force_is : (params : Params) (t : ℕ) (list : List Particle) (bodies : List Body) (i : ℕ) (f : List ℤ) → i < length list → bodies ≡ map (ghost_body params t list) list → f ≡ force_on (get_or bodies i no_body) bodies → f ≡ force_at params t list (get_or list i no_particle)
force_is params t list bodies i f inside are sum =
    let p = get_or list i no_particle in
    sum ∙ ap (λ b. force_on b bodies) (read_map (ghost_body params t list) list bodies i no_particle no_body are inside) ∙ ap (force_on (ghost_body params t list p)) are ∙ force_of_bodies params t list p

-- it is kicked
pub kick_given : (params : Params) (t : ℕ) (list ps : List Particle) (bodies : List Body) (i : ℕ) (f : List ℤ) (new : Particle) (due : Bool) → i < length list → ps ≡ kicked_particles params t list i → bodies ≡ map (ghost_body params t list) list
    → due ≡ is_due t (get_or ps i no_particle).bin → due ≡ true → f ≡ force_on (get_or bodies i no_body) bodies
    → new ≡ kicked_with params t (get_or ps i no_particle) (get_or ps i no_particle).rho (get_or bodies i no_body).pull.g f → set ps i new ≡ kicked_particles params t list (i + 1)
kick_given params t list ps bodies i f new due inside so_far are asked holds sum is =
    let p = get_or list i no_particle in
    let rho = density_at params t list p in
    let here = dense_due params t list ps i due inside so_far asked holds in
    let light = ap (λ (b : Body). b.pull.g) (body_with_ghost params t list bodies i inside are) in
    let force = force_is params t list bodies i f inside are sum in
    let value : new ≡ next_particle params t list p =
    is ∙ ap (λ (q : Particle). kicked_with params t q q.rho (get_or bodies i no_body).pull.g f) here
    ∙ ap (λ g. kicked_with params t (with_rho p rho) rho g f) light
    ∙ ap (kicked_with params t (with_rho p rho) rho (ghost_at params t list p)) force
    ∙ kicked_with_rho params t p rho (ghost_at params t list p) (force_at params t list p)
    ∙ kicked_is params t list p
    ∙ sym (next_particle_due params t list p (due_dense params t list ps i due true inside so_far asked holds)) in
    written_more (next_particle params t list) list (map (with_density params t list) list) ps i no_particle new (length-map list (with_density params t list)) inside so_far value

-- or it is left, and never was given a density
pub kick_left : (params : Params) (t : ℕ) (list ps : List Particle) (i : ℕ) (due : Bool) → i < length list → ps ≡ kicked_particles params t list i
    → due ≡ is_due t (get_or ps i no_particle).bin → due ≡ false → ps ≡ kicked_particles params t list (i + 1)
kick_left params t list ps i due inside so_far asked fails =
    let p = get_or list i no_particle in
    let waits = due_dense params t list ps i due false inside so_far asked fails in
    written_kept (next_particle params t list) list (map (with_density params t list) list) ps i no_particle no_particle (length-map list (with_density params t list)) inside so_far
    (get_or-map (with_density params t list) list i no_particle no_particle inside ∙ with_density_waits params t list p waits ∙ sym (next_particle_waits params t list p waits))

-- the list after the step
pub all_kicked : (params : Params) (t : ℕ) (list : List Particle) → map (next_particle params t list) list ≡ next_list params list t
unfolding next_particle next_list
all_kicked params t list = refl
