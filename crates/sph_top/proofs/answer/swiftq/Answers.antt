use Rattle.std.proofs.Common.{ap}
use Rattle.sph_top.specs.declared.status.Status.TheVariants.{DeckRefused, Done, NoMemory, Usage}
use Rattle.sph_top.specs.Answers.{seen}
use Rattle.sph_top.proofs.Reported.{answered, yields, output_of_write_fault, line_of_write_fault, whole_run, without_fault}
use Rattle.sph_top.proofs.Rest.{NamesItsKey-rests, out_kept, refused, job_done, usage}
use Rattle.sph_top.proofs.answer.swiftq.Goals as goal

pub report-requires : goal.report-requires
report-requires g c = NamesItsKey-rests c.answer-status.result c.args.words.now _ _ c.answer-status.ensures.rests

pub returns-clause-done : goal.returns-clause-done
returns-clause-done g c = λ e.
    answered c.answer-status.result c.report.result _ c.report.ensures.told c.args.words.now _ _ c.answer-status.ensures.rests
    (λ w. ap (seen g.O.Sink.held g.O.Sink.faults) (c.answer-status.ensures.untouched w)) Done (λ same. cc) e

pub returns-clause-usage : goal.returns-clause-usage
returns-clause-usage g c = λ fault e.
    answered c.answer-status.result c.report.result _ c.report.ensures.told c.args.words.now _ _ c.answer-status.ensures.rests
    (λ w. ap (seen g.O.Sink.held g.O.Sink.faults) (c.answer-status.ensures.untouched w)) (Usage fault) (λ same. cc) e

pub returns-clause-deck_refused : goal.returns-clause-deck_refused
returns-clause-deck_refused g c = λ fault e.
    answered c.answer-status.result c.report.result _ c.report.ensures.told c.args.words.now _ _ c.answer-status.ensures.rests
    (λ w. ap (seen g.O.Sink.held g.O.Sink.faults) (c.answer-status.ensures.untouched w)) (DeckRefused fault) (λ same. cc) e

pub returns-clause-no_memory : goal.returns-clause-no_memory
returns-clause-no_memory g c = λ e.
    (answered c.answer-status.result c.report.result _ c.report.ensures.told c.args.words.now _ _ c.answer-status.ensures.rests
    (λ w. ap (seen g.O.Sink.held g.O.Sink.faults) (c.answer-status.ensures.untouched w)) NoMemory (λ same. cc) e).0

pub returns-clause-none_failed : goal.returns-clause-none_failed
returns-clause-none_failed g c = λ none.
    let before = without_fault c.answer-status.result c.report.result _ c.report.ensures.told none in (
      c.answer-status.ensures.kept before.0,
      out_kept c.answer-status.result c.args.words.now _ _ before.0
          (λ w. ap (seen g.O.Sink.held g.O.Sink.faults) (c.answer-status.ensures.untouched w)) c.answer-status.ensures.rests,
      before.1,
    )

pub returns-clause-usage_where : goal.returns-clause-usage_where
returns-clause-usage_where g c fault has =
    yields c.answer-status.result c.report.result _ c.report.ensures.told (Usage fault)
    (usage c.args.words.now _ _ fault has c.answer-status.result c.answer-status.ensures.rests)

pub returns-clause-deck_refused_where : goal.returns-clause-deck_refused_where
returns-clause-deck_refused_where g c reader bytes has stayed fault first =
    yields c.answer-status.result c.report.result _ c.report.ensures.told (DeckRefused fault)
    (refused c.args.words.now _ _ reader bytes has stayed c.answer-status.result c.answer-status.ensures.rests fault first)

pub returns-clause-write_fault_output : goal.returns-clause-write_fault_output
returns-clause-write_fault_output g c =
    output_of_write_fault c.answer-status.result c.report.result _ c.report.ensures.told c.args.words.now _ _ c.answer-status.ensures.rests
    (λ w. ap (seen g.O.Sink.held g.O.Sink.faults) (c.answer-status.ensures.untouched w))

pub returns-clause-error_line_of_write_fault : goal.returns-clause-error_line_of_write_fault
returns-clause-error_line_of_write_fault g c =
    line_of_write_fault c.answer-status.result c.report.result _ c.report.ensures.told c.args.words.now _ _ c.answer-status.ensures.rests
    (λ w. ap (seen g.O.Sink.held g.O.Sink.faults) (c.answer-status.ensures.untouched w))

pub returns-clause-complete : goal.returns-clause-complete
returns-clause-complete g c job input kept quiet =
    whole_run c.answer-status.result c.report.result _ c.report.ensures.told quiet
    (job_done c.args.words.now _ _ job input kept c.answer-status.result c.answer-status.ensures.rests)
