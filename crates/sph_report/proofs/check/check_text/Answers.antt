use Rattle.std.proofs.Common.{rules}
use Rattle.sph_report.proofs.CheckLines.{line_joined}
use Rattle.sph_report.proofs.check.check_text.Goals as goal

pub returns : goal.returns
returns c = line_joined c.args.deck.now c.into_bytes.result.items (search rules)
