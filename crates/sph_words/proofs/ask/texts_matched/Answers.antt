use Rattle.std.proofs.Common.{◌∙◌, ap, option_map, sym}
use Rattle.clap.specs.Matches.{found_of}
use Rattle.sph_words.proofs.Matches.{job_is_there, matched_is}
use Rattle.sph_words.proofs.ask.texts_matched.Goals as goal

pub unreachable-requires : goal.unreachable-requires
unreachable-requires c =
    job_is_there (found_of c.args.matches.now) (ap (option_map (λ s. s.now)) (sym c.in_default.is) ∙ c.get_str.ensures) c.requires

pub returns : goal.returns
returns c = matched_is (found_of c.args.matches.now) (record { job = c.in-Some.job; first = c.get_str-2.result; second = c.get_str-3.result; workers = c.get_str-4.result })
    (ap (option_map (λ s. s.now)) (sym c.in-Some.is) ∙ c.get_str.ensures) c.get_str-2.ensures c.get_str-3.ensures c.get_str-4.ensures
