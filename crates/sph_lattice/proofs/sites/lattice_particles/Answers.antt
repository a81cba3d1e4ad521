-- One more particle, and all of them.
use Rattle.std.proofs.Common.{◌≡◌, ◌+◌, ◌*◌, [], ◌∷◌, ◌++◌, map, ap, sym, ◌∙◌, refl, arith}
use Rattle.std.specs.List.{range_with_len}
use Rattle.std.proofs.lemmas.List.FromFn.{map-range_with_len_more}
use Rattle.sph_lattice.specs.Lattice.{sequence, particle_drawn}
use Rattle.sph_lattice.specs.inner.Sites.{particle_numbered, site_numbered}
use Rattle.sph_lattice.proofs.Numbered.{lattice_numbered}
use Rattle.sph_lattice.proofs.sites.lattice_particles.Goals as goal

pub loop-number-init : goal.loop-number-init
unfolding sequence
loop-number-init c = record { particles = c.in_ok-particles.ensures.items; drawn = refl }

pub loop-number-preserved : goal.loop-number-preserved
loop-number-preserved c =
    let side = c.args.side in
    let seed = c.args.seed in
    let n = c.loop-number.number in
    let one : c.particle_drawn.result ≡ particle_numbered side seed n =
    c.particle_drawn.ensures ∙ ap (λ s. particle_drawn side s c.seven.result) c.site_numbered.ensures.value
    ∙ ap (particle_drawn side (site_numbered side n)) (c.seven.ensures.draws seed (7 * n) c.loop-number.invariant.drawn) in
    let next : 7 * n + 7 ≡ 7 * (n + 1) = omega arith in
    record {
      particles = c.in_ok-push.ensures.items ∙ ap (λ l. l ++ c.particle_drawn.result ∷ []) c.loop-number.invariant.particles
          ∙ ap (λ p. map (particle_numbered side seed) (range_with_len 0 n) ++ p ∷ []) one
          ∙ sym (map-range_with_len_more (particle_numbered side seed) 0 n n (omega arith));
      drawn = c.seven.ensures.number seed (7 * n) c.loop-number.invariant.drawn ∙ ap (sequence seed) next;
    }

pub returns : goal.returns
returns c = c.loop-number.invariant.particles ∙ lattice_numbered c.args.side c.args.seed c.loop-number.number (omega arith)
