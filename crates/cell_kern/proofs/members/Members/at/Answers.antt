use Rattle.std.proofs.Common.{false, sym}
use Rattle.cell_kern.specs.inner.Gathered.{no_member}
use Rattle.cell_kern.proofs.Lists.{member_at}
use Rattle.cell_kern.proofs.members.Members.at.Goals as goal

pub returns : goal.returns
returns c =
    sym (member_at c.args.self.now c.args.i no_member.spot c.index-self-i.result false c.requires.members c.requires.i)
