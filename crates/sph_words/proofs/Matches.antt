-- The texts of a parse's matches.
use Rattle.std.proofs.Common.{◌≡◌, ◌∙◌, Some, None, option_map, is_some, true, true≢false, refl, sym, codes}
use Rattle.clap.proofs.WalkLemmas.{first_value-rows}
use Rattle.clap.specs.Matches.{first_value}
use Rattle.clap.specs.Walk.{first_of, rows_of}
use Rattle.clap.specs.declared.parser.matches.Found.{Found}
use Rattle.sph_words.specs.declared.ask.Matched.{Matched}
use Rattle.sph_words.specs.inner.Asked.{texts_from, texts_in}

pub job_is_there : (found : Found) → None ≡ first_value found (codes "job") → is_some (texts_in (rows_of found)) ≡ true → ⊥
job_is_there found none has =
    let lacks : first_of (codes "job") (rows_of found) ≡ None = sym (none ∙ first_value-rows found (codes "job")) in
    true≢false (sym has ∙ rw lacks refl)

pub matched_is : (found : Found) (matched : Matched) → Some matched.job.now ≡ first_value found (codes "job")
    → option_map (λ s. s.now) matched.first ≡ first_value found (codes "first") → option_map (λ s. s.now) matched.second ≡ first_value found (codes "second")
    → option_map (λ s. s.now) matched.workers ≡ first_value found (codes "workers") → texts_in (rows_of found) ≡ Some (texts_from matched)
matched_is found matched job first second workers =
    let job_row : first_of (codes "job") (rows_of found) ≡ Some matched.job.now = sym (job ∙ first_value-rows found (codes "job")) in
    let first_row : first_of (codes "first") (rows_of found) ≡ option_map (λ s. s.now) matched.first = sym (first ∙ first_value-rows found (codes "first")) in
    let second_row : first_of (codes "second") (rows_of found) ≡ option_map (λ s. s.now) matched.second = sym (second ∙ first_value-rows found (codes "second")) in
    let workers_row : first_of (codes "workers") (rows_of found) ≡ option_map (λ s. s.now) matched.workers = sym (workers ∙ first_value-rows found (codes "workers")) in
    rw (job_row, first_row, second_row, workers_row) refl
