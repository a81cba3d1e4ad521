-- The spots of bodies: where each is, and that a new ghost moves none.
use Rattle.std.proofs.Common.{◌≡◌, ℕ, ◌<◌, List, length, map, get_or, sym, ap, ◌∙◌}
use Rattle.std.proofs.lemmas.List.{length-map, get_or-map}
use Rattle.std.proofs.lemmas.Simd.{map-map}
use Rattle.sph_num.specs.declared.particle.Params.{Params}
use Rattle.sph_num.specs.declared.particle.Particle.{Particle}
use Rattle.sph_plain.specs.declared.body.Body.{Body}
use Rattle.sph_plain.specs.declared.body.Spot.{Spot}
use Rattle.sph_plain.specs.inner.Bodies.{body_at, ghost_body, spot_of, spot_at}
use Rattle.sph_plain.proofs.Passes.{no_body}

-- what a read past the end of a list would give
abbrev pub no_spot : Spot
no_spot = spot_of no_body

-- each body has its spot
pub length-spots : (bodies : List Body) (spots : List Spot) → spots ≡ map spot_of bodies → length spots ≡ length bodies
length-spots bodies spots are = ap length are ∙ length-map bodies spot_of

pub spot_is : (bodies : List Body) (spots : List Spot) (k : ℕ) (d : Body) → spots ≡ map spot_of bodies → k < length bodies → get_or spots k no_spot ≡ spot_of (get_or bodies k d)
spot_is bodies spots k d are low = ap (λ zs. get_or zs k no_spot) are ∙ get_or-map spot_of bodies k d no_spot low

-- the spots of the bodies before a step are those of its particles
pub spots_are : (params : Params) (t : ℕ) (list : List Particle) (bodies : List Body) (spots : List Spot) → bodies ≡ map (body_at params t) list → spots ≡ map spot_of bodies → spots ≡ map (spot_at params t) list
spots_are params t list bodies spots are spots_of = spots_of ∙ ap (map spot_of) are ∙ map-map spot_of (body_at params t) list

-- and so are those of the bodies with the ghosts that they keep or are given
pub spots_of_kept : (params : Params) (t : ℕ) (list : List Particle) (bodies : List Body) (spots : List Spot) → bodies ≡ map (body_at params t) list → spots ≡ map (spot_at params t) list → spots ≡ map spot_of bodies
spots_of_kept params t list bodies spots are spots_at = spots_at ∙ sym (ap (map spot_of) are ∙ map-map spot_of (body_at params t) list)

pub spots_of_given : (params : Params) (t : ℕ) (list : List Particle) (bodies : List Body) (spots : List Spot) → bodies ≡ map (ghost_body params t list) list → spots ≡ map (spot_at params t) list → spots ≡ map spot_of bodies
unfolding ghost_body
spots_of_given params t list bodies spots are spots_at = spots_at ∙ sym (ap (map spot_of) are ∙ map-map spot_of (ghost_body params t list) list)
