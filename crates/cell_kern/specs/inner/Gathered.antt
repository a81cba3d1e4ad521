-- What members of blocks give to one another's sums, one after the other.
use Rattle.std.specs.Prelude.{◌≡◌, ℕ, ◌+◌, ◌^◌, ◌<◌, ◌≤◌, Bool, true, false, if◌then◌else◌, ℤ, pos, ◌+ℤ◌, ◌*ℤ◌, unsigned_abs, List, [], All, length, fold, get_or, slice_index}
use Rattle.std.specs.Simd.Lanes.{zip2}
use Rattle.sph_num.specs.Density.{density_within}
use Rattle.sph_num.specs.Pull.{Puller, puller, pair_factor}
use Rattle.sph_num.specs.Ranges.{IsMass, IsLength, most_particles}
use Rattle.sph_num.specs.Space.{IsPlace, dist2, minimal}
use Rattle.sph_num.specs.Totals.{component, vector_of}
use Rattle.cell_block.specs.declared.rows.Spot.{Spot}
use Rattle.cell_kern.specs.declared.members.Member.{Member}
use Rattle.cell_kern.specs.declared.members.Members.{Members}
use Rattle.cell_kern.specs.declared.members.Other.{Other}

abbrev pub no_member : Member
no_member = record { spot = record { place = []; h = 0 }; pull = puller 0 0 0; due = false }

abbrev pub member : Spot → Puller → Bool → Member
member spot pull due = record { spot = spot; pull = pull; due = due }

-- the other member of a pair
abbrev pub of_other : Other → Member
of_other other = member other.spot.now other.pull.now other.due

-- the members with these spots, pulls and flags
abbrev pub members : List Spot → List Puller → List Bool → List Member
members spots pulls due = zip2 (λ (make : Bool → Member) d. make d) (zip2 member spots pulls) due

abbrev pub list_of : Members → List Member
list_of m = members m.spots.now m.pulls.now m.due.now

-- a member's numbers are in range, and its spot and its pull have one length
pub record IsSound (m : Member) : Type 0 where
  pub place : IsPlace m.spot.place
  pub one_h : m.spot.h ≡ m.pull.h
  pub mass : IsMass m.pull.mass
  pub h : IsLength m.pull.h
  pub low_ghost : m.pull.g < 2 ^ 42

pub record AreMembers (m : Members) : Type 0 where
  pub pulls : length m.pulls.now ≡ length m.spots.now
  pub due : length m.due.now ≡ length m.spots.now
  pub few : length m.spots.now ≤ most_particles
  pub sound : All IsSound (list_of m)

-- the density of a member after what another gives to it: nothing where it isn't due
abbrev pub rho_given : Member → ℕ → Member → ℕ
rho_given to rho from =
    if to.due then rho + density_within from.pull.mass (dist2 to.spot.place from.spot.place) to.pull.h else rho

-- the force on the first of two on an axis, from their pulls, the square of their distance and their places
abbrev pub pull_along : Puller → Puller → ℕ → List ℕ → List ℕ → ℕ → ℤ
pull_along to from r2 place other axis = pos (pair_factor to from r2) *ℤ minimal (slice_index place axis) (slice_index other axis)

-- the force on a member on an axis from another
abbrev pub pull_on : Member → Member → ℕ → ℤ
pull_on to from axis = pull_along to.pull from.pull (dist2 to.spot.place from.spot.place) to.spot.place from.spot.place axis

-- and the force after that: nothing where it isn't due
unfoldable pub pulled : Member → List ℤ → Member → List ℤ
pulled to force from = vector_of (λ axis. component force axis +ℤ pull_on to from axis)

abbrev pub force_given : Member → List ℤ → Member → List ℤ
force_given to force from = if to.due then pulled to force from else force

-- the sums of these members after what each of the others gave to each of them, in turn
abbrev pub gathered : {X : Type 0} → (Member → X → Member → X) → List Member → List Member → List X → List X
gathered given to from sums = zip2 (λ member sum. fold (given member) sum from) to sums

-- one member gave to the members from an index up to another
pub record IsPassed {X : Type 0} (given : Member → X → Member → X) (one : Member) (to : List Member) (from upto : ℕ) (before after : List X) : Type 0 where
  pub same_length : length after ≡ length before
  pub passed : (k : ℕ) (d : X) → from ≤ k → k < upto → get_or after k d ≡ given (get_or to k no_member) (get_or before k d) one
  pub first : (k : ℕ) (d : X) → k < from → get_or after k d ≡ get_or before k d
  pub last : (k : ℕ) (d : X) → upto ≤ k → get_or after k d ≡ get_or before k d

-- the sums of due members are below a limit
abbrev pub AreBelow : ℕ → List Member → List ℕ → Type 0
AreBelow limit to rhos = (k : ℕ) → k < length to → (get_or to k no_member).due ≡ true → get_or rhos k 0 < limit

-- each component of a force is below a limit
abbrev pub IsSmall : ℕ → List ℤ → Type 0
IsSmall limit force = (axis : ℕ) → unsigned_abs (component force axis) < limit

-- it has three, and so have those of due members
pub record IsNarrow (limit : ℕ) (force : List ℤ) : Type 0 where
  pub three : length force ≡ 3
  pub small : IsSmall limit force

abbrev pub AreNarrow : ℕ → List Member → List (List ℤ) → Type 0
AreNarrow limit to forces = (k : ℕ) → k < length to → (get_or to k no_member).due ≡ true → IsNarrow limit (get_or forces k [])
