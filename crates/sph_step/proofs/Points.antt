-- The places of a list in bounds, at a step tick, are points of which a tree can be made.
use Rattle.std.proofs.Common.{◌≡◌, ℕ, ◌<◌, false, List, [], length, get_or, sym, subst, arith}
use Rattle.std.proofs.lemmas.List.{length-map, get_or-map}
use Rattle.sph_num.specs.declared.particle.Bounds.{Bounds}
use Rattle.sph_num.specs.declared.particle.Params.{Params}
use Rattle.sph_num.specs.declared.particle.Particle.{Particle}
use Rattle.sph_num.specs.Ranges.{IsLength}
use Rattle.sph_num.specs.Space.{IsPlace}
use Rattle.sph_num.proofs.Drifts.{IsPlace-position_of}
use Rattle.sph_bins.specs.Bins.{IsStepTick, is_due}
use Rattle.sph_bins.specs.InBounds.{InBounds}
use Rattle.sph_bins.specs.Kick.{place_at}
use Rattle.cell_block.specs.Scene.{no_particle}
use Rattle.sph_bins.proofs.Sound.{sound}
use Rattle.cell_tree.specs.Laws.{CanBeMade}
use Rattle.sph_step.specs.Made.{dues_at, made_at}

module _ (params : Params) (t : ℕ) (list : List Particle) where
  abbrev h_of : Particle → ℕ
  h_of p = p.h

  -- a point for each particle, and its length
  pub length-points : length (made_at params t list).points ≡ length list
  length-points = length-map list (place_at params t)

  pub length-lengths : length (made_at params t list).lengths ≡ length list
  length-lengths = length-map list h_of

  -- the point and the length of a particle
  pub point_is : (k : ℕ) → k < length list → get_or (made_at params t list).points k [] ≡ place_at params t (get_or list k no_particle)
  point_is k l = get_or-map (place_at params t) list k no_particle [] l

  pub length_is : (k d : ℕ) → k < length list → get_or (made_at params t list).lengths k d ≡ (get_or list k no_particle).h
  length_is k d l = get_or-map h_of list k no_particle d l

  -- and whether it is due
  pub due_is : (k : ℕ) → k < length list → get_or (dues_at t list) k false ≡ is_due t (get_or list k no_particle).bin
  due_is k l = get_or-map (λ (p : Particle). is_due t p.bin) list k no_particle false l

pub can_be_made : (params : Params) (bounds : Bounds) (t : ℕ) (list : List Particle) → InBounds params bounds t list → IsStepTick params t → CanBeMade (made_at params t list)
can_be_made params bounds t list are _ = record {
  some = omega (arith, length-points params t list, are.count, are.bounds_in_range.count_low);
  not_too_many = omega (arith, length-points params t list, are.count, are.bounds_in_range.count_high);
  one_length_each = omega (arith, length-points params t list, length-lengths params t list);
  places = λ k l.
      subst IsPlace (sym (point_is params t list k (omega (arith, length-points params t list)))) (IsPlace-position_of params.shift t (get_or list k no_particle));
  lengths = λ k d l.
      let inside : k < length list = omega (arith, length-lengths params t list) in
      subst IsLength (sym (length_is params t list k d inside)) (sound params bounds t list are k no_particle inside).h;
  leaf_low = are.params_in_range.leaf_low;
  leaf_high = are.params_in_range.leaf_high;
}
