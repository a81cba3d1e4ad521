-- Words that aren't handed to `clap` fit no line of the table of jobs.
use Rattle.std.proofs.Common.{◌≡◌, ◌&&◌, suc, Bool, true, false, not, List, [], ◌∷◌, Option, Some, None, refl, sym, ap, arith, length, true≢false, Err}
use Rattle.std.specs.Prelude.{option_and_then}
use Rattle.std.specs.Option.{option_map_or}
use Rattle.std.proofs.lemmas.Bool.{eqb-true, lt-ltb, not-false}
use Rattle.clap.specs.Walk.{Text}
use Rattle.sph_words.specs.declared.fault.WordsFault.TheVariants.{Usage}
use Rattle.sph_words.specs.declared.number.Given.{Given}
use Rattle.sph_words.specs.declared.number.Given.TheVariants.{Absent, Number, NoNumber}
use Rattle.sph_words.specs.declared.table.JobName.{JobName}
use Rattle.sph_words.specs.declared.table.JobName.TheVariants.{Run, Plain, Check, Tree, Generate, Sample}
use Rattle.sph_words.specs.Jobs.{asked, job_at, job_with, judged_or_usage, name_of}
use Rattle.sph_words.specs.Numbers.{given_of, number_of}
use Rattle.sph_words.specs.Texts.{Texts, before_cut, begins_with_hyphen, from_cut, texts_of, texts_with, workers_text}
use Rattle.sph_words.specs.inner.Asked.{is_few, is_handed, is_option}

hyphen_no_number : (text : Text) → begins_with_hyphen text ≡ true → number_of text ≡ None
hyphen_no_number [] hyphen = absurd (true≢false (sym hyphen))
hyphen_no_number (byte ∷ rest) hyphen =
    let byte_is : byte ≡ 45 = eqb-true byte 45 hyphen in
    let long = lt-ltb 0 (suc (length rest)) (omega arith) in
    rw (byte_is, long) refl

no_line : (name : JobName) (first second : Given) → job_at name first second NoNumber ≡ None
no_line Run Absent Absent = refl
no_line Plain Absent Absent = refl
no_line Check Absent Absent = refl
no_line Tree Absent Absent = refl
no_line Generate (Number side) (Number seed) = refl
no_line Sample (Number side) (Number seed) = refl
no_line name first second = refl

unmatched : (texts : Texts) → option_map_or begins_with_hyphen texts.workers false ≡ true → job_with texts ≡ None
unmatched texts hyphen = go texts.workers hyphen (name_of texts.job)
  where
    with_name : (found : Option JobName) → option_and_then (λ name. job_at name (given_of texts.first) (given_of texts.second) NoNumber) found ≡ None
    with_name None = refl
    with_name (Some name) = no_line name _ _

    go : (workers : Option Text) → option_map_or begins_with_hyphen workers false ≡ true → (found : Option JobName)
        → option_and_then (λ name. job_at name (given_of texts.first) (given_of texts.second) (given_of workers)) found ≡ None
    go None is found = absurd (true≢false (sym is))
    go (Some text) is found = rw (hyphen_no_number text is) (with_name found)

-- too many or too few words have no texts
few_lack : (workers : Option Text) (before : List Text) → is_few before ≡ false → texts_with workers before ≡ None
few_lack workers [] few = refl
few_lack workers (job ∷ []) few = absurd (true≢false few)
few_lack workers (job ∷ first ∷ []) few = absurd (true≢false few)
few_lack workers (job ∷ first ∷ second ∷ []) few = absurd (true≢false few)
few_lack workers (job ∷ first ∷ second ∷ more ∷ rest) few = refl

texts_workers : (workers : Option Text) (before : List Text) → option_map_or begins_with_hyphen workers false ≡ true → option_and_then job_with (texts_with workers before) ≡ None
texts_workers workers [] hyphen = refl
texts_workers workers (job ∷ []) hyphen = unmatched (record { job = job; first = None; second = None; workers = workers }) hyphen
texts_workers workers (job ∷ first ∷ []) hyphen = unmatched (record { job = job; first = Some first; second = None; workers = workers }) hyphen
texts_workers workers (job ∷ first ∷ second ∷ []) hyphen = unmatched (record { job = job; first = Some first; second = Some second; workers = workers }) hyphen
texts_workers workers (job ∷ first ∷ second ∷ more ∷ rest) hyphen = refl

few_unasked : (before : List Text) → is_few before ≡ false → (found : Option (Option Text)) → option_and_then (λ workers. texts_with workers before) found ≡ None
few_unasked before few None = refl
few_unasked before few (Some workers) = few_lack workers before few

parts_unasked : (before : List Text) (found : Option (Option Text)) → option_map_or (λ text. not (option_map_or begins_with_hyphen text false)) found false ≡ false
    → option_and_then job_with (option_and_then (λ workers. texts_with workers before) found) ≡ None
parts_unasked before None is = refl
parts_unasked before (Some workers) is = texts_workers workers before (not-false _ is)

pub not_handed : (words : List Text) → is_handed words ≡ false → asked words ≡ Err Usage
not_handed words is = ap judged_or_usage (go (is_few (before_cut words)) refl is)
  where
    go : (few : Bool) → is_few (before_cut words) ≡ few → (few && is_option (from_cut words)) ≡ false → option_and_then job_with (texts_of words) ≡ None
    go false few_is rest = ap (option_and_then job_with) (few_unasked (before_cut words) few_is (workers_text (from_cut words)))
    go true few_is rest = parts_unasked (before_cut words) (workers_text (from_cut words)) rest
