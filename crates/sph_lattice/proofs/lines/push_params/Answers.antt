-- The lines one after another.
use Rattle.std.proofs.lemmas.Result.{on_ok_weaker}
use Rattle.sph_lattice.specs.LatticeText.{params_lines}
use Rattle.sph_lattice.proofs.Written.{both_written}
use Rattle.sph_lattice.proofs.lines.push_params.Goals as goal

pub returns : goal.returns
unfolding params_lines
returns c =
    let a = both_written _ _ _ _ _ c.in_ok-push_key.ensures c.in_ok-push_key-2.ensures in
    let b = both_written _ _ _ _ _ a c.in_ok-push_key-3.ensures in
    let d = both_written _ _ _ _ _ b c.in_ok-push_key-4.ensures in
    let e = both_written _ _ _ _ _ d c.in_ok-push_key-5.ensures in
    let f = both_written _ _ _ _ _ e c.in_ok-push_key-6.ensures in
    let g = both_written _ _ _ _ _ f c.in_ok-push_key-7.ensures in
    let h = both_written _ _ _ _ _ g c.in_ok-push_key-8.ensures in
    let i = both_written _ _ _ _ _ h c.in_ok-push_key-9.ensures in
    on_ok_weaker c.push_key-10.result (λ last. both_written _ _ _ _ _ i last) c.push_key-10.ensures
