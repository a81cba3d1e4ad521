-- What the loops over members go by, of sums of any kind: what a member gives, and how many parts a sum can still take.
use Rattle.std.specs.Prelude.{◌≡◌, ℕ, ◌+◌, ◌*◌, ◌^◌, ◌<◌, ◌≤◌, true, max, ℤ, unsigned_abs, List, length, get_or}
use Rattle.sph_num.specs.Space.{dist2}
use Rattle.sph_num.specs.Totals.{component}
use Rattle.cell_kern.specs.declared.members.Member.{Member}
use Rattle.cell_kern.specs.inner.Gathered.{IsSound, no_member}

-- neither of two lengths reaches
abbrev pub IsFar : Member → Member → Type 0
IsFar to from = max to.pull.h from.pull.h * max to.pull.h from.pull.h ≤ dist2 to.spot.place from.spot.place

-- a part takes no more than its room, and out of reach there is none
pub record AreSums {X : Type 0} (given : Member → X → Member → X) (has_room : ℕ → X → Type 0) : Type 0 where
  pub fewer : (m n : ℕ) (sum : X) → m ≤ n → has_room n sum → has_room m sum
  pub takes : (n : ℕ) (to from : Member) (sum : X) → IsSound to → IsSound from → has_room (n + 1) sum → has_room n (given to sum from)
  pub kept : (to from : Member) (sum : X) → IsFar to from → (to.due ≡ true → has_room 0 sum) → given to sum from ≡ sum

-- the sums of due members have room for as many parts
abbrev pub HaveRoom : {X : Type 0} → (ℕ → X → Type 0) → ℕ → List Member → List X → Type 0
HaveRoom has_room n to sums = (k : ℕ) (d : _) → k < length to → (get_or to k no_member).due ≡ true → has_room n (get_or sums k d)

-- a density has, and so has a force
abbrev pub rho_room : ℕ → ℕ → Type 0
rho_room n rho = rho + n * 2 ^ 46 < 2 ^ 63 + 2 ^ 62

pub record HasForceRoom (n : ℕ) (force : List ℤ) : Type 0 where
  pub three : length force ≡ 3
  pub small : (axis : ℕ) → unsigned_abs (component force axis) + n * 2 ^ 95 < 2 ^ 120
