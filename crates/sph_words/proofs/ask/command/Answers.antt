-- Each call adds its argument to the definition.
use Rattle.std.proofs.Common.{◌≡◌, ◌∙◌, rules, ap, ap₂, true, codes}
use Rattle.std.proofs.lemmas.Result.{IfOk-weaker}
use Rattle.clap.specs.Walk.{rule_of}
use Rattle.clap.specs.Simple.{App, app_of, app_of_fields, new_rule, with_rule}
use Rattle.sph_words.specs.inner.Asked.{bare, job_rule, workers_rule}
use Rattle.sph_words.proofs.ask.command.Goals as goal

pub returns : goal.returns
returns c =
    let job : rule_of c.required-job.result ≡ job_rule = search rules in
    let first : rule_of c.new-first.result ≡ new_rule (codes "first") = search rules in
    let second : rule_of c.new-second.result ≡ new_rule (codes "second") = search rules in
    let workers : rule_of c.long-workers.result ≡ workers_rule = search rules in
    let named : app_of c.disable_help_flag.result ≡ bare = ap app_of_fields c.disable_help_flag.ensures
    ∙ ap (λ (a : App). record a { top = record a.top { disable_help_flag = true } }) c.new-3.ensures.app in
    let one : app_of c.in_ok-arg.field-0 ≡ with_rule bare job_rule = c.in_ok-arg.ensures.shape (search rules) ∙ ap₂ with_rule named job in
    let two : app_of c.in_ok-arg-2.field-0 ≡ with_rule (with_rule bare job_rule) (new_rule (codes "first")) = c.in_ok-arg-2.ensures.shape (search rules) ∙ ap₂ with_rule one first in
    let three : app_of c.in_ok-arg-3.field-0 ≡ with_rule (with_rule (with_rule bare job_rule) (new_rule (codes "first"))) (new_rule (codes "second")) =
    c.in_ok-arg-3.ensures.shape (search rules) ∙ ap₂ with_rule two second in
    IfOk-weaker c.arg-4.result _ _ (λ r adds. adds.shape (search rules) ∙ ap₂ with_rule three workers) c.arg-4.ensures
