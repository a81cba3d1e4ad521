-- The numbers of a row that were read, as its particle or as the parameters.
use Rattle.std.proofs.Common.{◌≡◌, ℕ, true, false, ℤ, pos, [], ◌∷◌, IsSome, arith}
use Rattle.sph_num.specs.declared.particle.Params.{Params}
use Rattle.sph_num.specs.Totals.{zero_vector}
use Rattle.toml.specs.Data.{Members}
use Rattle.sph_deck.specs.declared.key.Key.{Key}
use Rattle.sph_deck.specs.declared.key.Key.TheVariants.{Ticks, Every, BinMin, BinMax, Sound, Shift, Accuracy, Leaf, Pairs, Slack, Mass, H, X, Y, Z, Px, Py, Pz}
use Rattle.sph_deck.specs.Keys.{is_of_top, range_of}
use Rattle.sph_deck.specs.inner.Rows.{IsParticleRead, AreParamsRead}
use Rattle.sph_deck.proofs.RowsMet.{Numbers, AreOwn, AreReadAt, IsAmong, numbers_read}

module _ (mass h x y z : ℕ) (px py pz : ℤ) where
  -- the numbers of a particle, with their keys
  abbrev pub numbers_of_particle : Numbers
  numbers_of_particle = (Mass, pos mass) ∷ (H, pos h) ∷ (X, pos x) ∷ (Y, pos y) ∷ (Z, pos z) ∷ (Px, px) ∷ (Py, py) ∷ (Pz, pz) ∷ []

  all_of_particle : (key : Key) → is_of_top key ≡ false → IsSome (range_of key) → IsAmong key numbers_of_particle
  all_of_particle _ own wants = grind arith

  pub keys_of_particle : AreOwn false numbers_of_particle
  keys_of_particle = record { own = λ key among. grind arith; all = all_of_particle }

  -- the particle is the row's
  pub particle_read : (table : Members) → AreReadAt table numbers_of_particle
      → IsParticleRead table (record { mass = mass; h = h; x0 = x ∷ y ∷ z ∷ []; t0 = 0; p = px ∷ py ∷ pz ∷ []; q = px ∷ py ∷ pz ∷ []; f = zero_vector; rho = 0; g = 0; bin = 0 })
  particle_read table read =
      let (at_mass, (at_h, (at_x, (at_y, (at_z, (at_px, (at_py, (at_pz, none)))))))) = read in
      record { numbers = numbers_read 0 table keys_of_particle read; is = rw (at_mass.found, at_h.found, at_x.found, at_y.found, at_z.found, at_px.found, at_py.found, at_pz.found) }

module _ (params : Params) where
  -- the parameters, with their keys
  abbrev pub numbers_of_params : Numbers
  numbers_of_params =
      (Ticks, pos params.ticks) ∷ (Every, pos params.every) ∷ (BinMin, pos params.bin_min) ∷ (BinMax, pos params.bin_max) ∷ (Sound, pos params.sound) ∷ (Shift, pos params.shift)
      ∷ (Accuracy, pos params.accuracy) ∷ (Leaf, pos params.leaf) ∷ (Pairs, pos params.pairs) ∷ (Slack, pos params.slack) ∷ []

  all_of_params : (key : Key) → is_of_top key ≡ true → IsSome (range_of key) → IsAmong key numbers_of_params
  all_of_params _ own wants = grind arith

  pub keys_of_params : AreOwn true numbers_of_params
  keys_of_params = record { own = λ key among. grind arith; all = all_of_params }

  -- they are the top's
  pub params_read : (top : Members) → AreReadAt top numbers_of_params → AreParamsRead top params
  params_read top read =
      let (ticks, (every, (bin_min, (bin_max, (sound, (shift, (accuracy, (leaf, (pairs, (slack, none)))))))))) = read in
      record { numbers = numbers_read 0 top keys_of_params read; are = rw (ticks.found, every.found, bin_min.found, bin_max.found, sound.found, shift.found, accuracy.found, leaf.found, pairs.found, slack.found) }
