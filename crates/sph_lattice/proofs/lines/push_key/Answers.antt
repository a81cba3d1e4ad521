use Rattle.std.proofs.lemmas.Result.{on_ok_weaker}
use Rattle.sph_lattice.proofs.Written.{key_written}
use Rattle.sph_lattice.proofs.lines.push_key.Goals as goal

pub returns : goal.returns
returns g c =
    on_ok_weaker c.writeln.result (λ written. key_written c.args.key c.name-name.result.now (g.D.Display.output c.args.value) _ _ c.name-name.ensures written)
    c.writeln.ensures.bytes
