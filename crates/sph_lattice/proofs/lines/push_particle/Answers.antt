-- The lines one after another.
use Rattle.std.proofs.Common.{[], ◌∷◌, ◌++◌, rules}
use mir.Val.{SFits}
use mir.Syntax.{w128}
use Rattle.std.specs.Prelude.{codes, string_bytes}
use Rattle.std.proofs.lemmas.Result.{on_ok_weaker}
use Rattle.sph_num.specs.Totals.{component}
use Rattle.sph_deck.specs.declared.key.Key.TheVariants.{Px, Py, Pz}
use Rattle.sph_lattice.specs.LatticeText.{particle_lines}
use Rattle.sph_lattice.proofs.Written.{IsWritten, line_written, signed_written}
use Rattle.sph_lattice.proofs.lines.push_particle.Goals as goal

pub returns : goal.returns
unfolding particle_lines
returns c =
    let header : IsWritten (string_bytes c.args.text.now) (string_bytes c.push_str.new.self) (codes "[[particle]]" ++ 10 ∷ []) =
    record { is = c.in_ok-push_str.ensures.bytes } in
    let a = line_written _ _ header c.in_ok-push_key.ensures in
    let b = line_written _ _ a c.in_ok-push_key-2.ensures in
    let d = line_written _ _ b c.in_ok-push_key-3.ensures in
    let e = line_written _ _ d c.in_ok-push_key-4.ensures in
    let f = line_written _ _ e c.in_ok-push_key-5.ensures in
    let p = c.args.particle.now.p in
    let fits_x : SFits w128 (component p 0) = search rules in
    let fits_y : SFits w128 (component p 1) = search rules in
    let fits_z : SFits w128 (component p 2) = search rules in
    let g = line_written _ _ f (signed_written Px (component p 0) (string_bytes c.push_key-5.new.text) (string_bytes c.push_key-6.new.text) fits_x c.in_ok-push_key-6.ensures) in
    let h = line_written _ _ g (signed_written Py (component p 1) (string_bytes c.push_key-6.new.text) (string_bytes c.push_key-7.new.text) fits_y c.in_ok-push_key-7.ensures) in
    on_ok_weaker c.push_key-8.result
    (λ last. (line_written _ _ h (signed_written Pz (component p 2) (string_bytes c.push_key-7.new.text) (string_bytes c.push_key-8.new.text) fits_z last)).is)
    c.push_key-8.ensures
