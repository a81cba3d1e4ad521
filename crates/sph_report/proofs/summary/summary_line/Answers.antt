use Rattle.std.proofs.Common.{◌≡◌, ◌∙◌, rules}
use Rattle.sph_report.proofs.SummaryTexts.{summary_pieces, summary_joined}
use Rattle.sph_report.proofs.summary.summary_line.Goals as goal

pub returns : goal.returns
returns c =
    let written : c.into_bytes.result.items ≡ summary_pieces c.args.t c.total_density-rho.result c.total_momentum-qx.result c.total_momentum-qy.result c.total_momentum-qz.result = search rules in
    written ∙ summary_joined c.args.t _ _ _ _ c.args.particles.now c.total_density-rho.ensures c.total_momentum-qx.ensures c.total_momentum-qy.ensures c.total_momentum-qz.ensures
