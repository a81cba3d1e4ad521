-- What private functions compute on the way: tables, and the parts of a length and of a factor.
use Rattle.std.specs.Prelude.{◌≡◌, ℕ, ◌*◌, ◌/◌, ◌%◌, ◌^◌, ◌<◌, List, length, slice_index, if◌then◌else◌, nat_lt}
use Rattle.sph_num.specs.Kernel.{root_of, kernel_u, kernel_constant}
use Rattle.sph_num.specs.Pull.{Puller}
use Rattle.sph_num.specs.Ranges.{IsMass, IsLength}

-- the list has the function's values at the numbers below a count, in turn
pub record IsTableOf (count : ℕ) (f : ℕ → ℕ) (values : List ℕ) : Type 0 where
  pub length : length values ≡ count
  pub at : (s : ℕ) → s < count → slice_index values s ≡ f s

-- the square root of so many times 256, rounded down: the distance with that square, in 1024ths of 1024
abbrev pub coarse_root : ℕ → ℕ
coarse_root step = root_of (step * 2 ^ 8) 1024

-- the reciprocals of a length's square and of its third power, rounded down
pub record AreReciprocals (h by_square by_cube : ℕ) : Type 0 where
  pub is_length : IsLength h
  pub square : by_square ≡ 2 ^ 64 / (h * h)
  pub cube : by_cube ≡ 2 ^ 93 / (h * h * h)

-- the kernel's slope at the square r2 of a distance: none from h on
unfoldable pub slope_within : ℕ → ℕ → ℕ
slope_within r2 h = if nat_lt r2 (h * h) then kernel_u (root_of r2 h) else 0

-- a particle's own part of the numerator of a factor, and the denominator
abbrev pub strength_of : ℕ → ℕ → ℕ
strength_of mass g = mass * g * kernel_constant * 2 ^ 20

abbrev pub fifth_power : ℕ → ℕ
fifth_power h = h * h * h * h * h

-- the quotient of the two, rounded down, and what that leaves, in 2^64ths
pub record ArePartsOf (p : Puller) (whole broken : ℕ) : Type 0 where
  pub is_mass : IsMass p.mass
  pub is_length : IsLength p.h
  pub small : p.g < 2 ^ 42
  pub whole_is : whole ≡ strength_of p.mass p.g / fifth_power p.h
  pub broken_is : broken ≡ (2 ^ 64 * (strength_of p.mass p.g % fifth_power p.h)) / fifth_power p.h
