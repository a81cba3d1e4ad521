use Rattle.std.proofs.Common.{Ok, Err}
use Rattle.sph_top.specs.declared.bytes.RunRefusal.TheVariants.{DeckRefused}
use Rattle.sph_top.proofs.Headlines.{Headline-answers, stream_held}
use Rattle.sph_top.proofs.bytes.run_bytes_past.Goals as goal

pub returns-in-Done : goal.returns-in-Done
returns-in-Done g c = record {
  headline = Headline-answers c.args.text.now (Ok c.into_held.result)
      (stream_held c.clamp.result c.args.text.now c.into_held.result.items _ c.new-stream.ensures.held c.into_held.ensures c.in-Done.ensures.follows);
}

pub returns-in-DeckRefused : goal.returns-in-DeckRefused
returns-in-DeckRefused g c = record {
  headline = Headline-answers c.args.text.now (Err (DeckRefused c.in-DeckRefused.fault)) c.in-DeckRefused.ensures.follows;
}
