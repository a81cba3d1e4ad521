-- What the words that name a job say of it.
use Rattle.std.proofs.Common.{◌≡◌, ◌&&◌, ℕ, Bool, true, false, List, Option, Some, None, Result, Ok, Err, refl, sym, inl, inr, cond, map, string_bytes, String, Global, true≢false, subst}
use Rattle.std.specs.Prelude.{option_and_then}
use Rattle.std.proofs.lemmas.Bool.{leb-true}
use Rattle.sph_lattice.specs.Lattice.{IsSide}
use Rattle.sph_top.specs.Words.{HasWordsFault, NamesAJob, NamesAReader, NamesJob, reads_deck}
use Rattle.sph_top.specs.inner.Steps.{AreWorkers, HasNumbers}
use Rattle.sph_words.specs.Jobs.{AnswersWords, asked, is_within, job_with, judged, judged_or_usage, told, with_side, with_workers}
use Rattle.sph_words.specs.Texts.{texts_of}
use Rattle.sph_words.specs.declared.fault.WordsFault.{WordsFault}
use Rattle.sph_words.specs.declared.fault.WordsFault.TheVariants.{Workers, Side}
use Rattle.sph_words.specs.declared.fault.WordsRefusal.{WordsRefusal}
use Rattle.sph_words.specs.declared.fault.WordsRefusal.TheVariants.{Fault}
use Rattle.sph_words.specs.declared.job.Job.{Job}
use Rattle.sph_words.specs.declared.job.Job.TheVariants.{Run, Plain, Check, Tree, Generate, Sample}

-- ---- what `read_words` answers

told_job : (answer : Result Job WordsFault) (job : Job) → Ok job ≡ told answer → answer ≡ Ok job
told_job (Ok other) job is = let same : job ≡ other = cc in cc
told_job (Err fault) job is = cc

told_fault : (answer : Result Job WordsFault) (fault : WordsFault) → Err (Fault fault) ≡ told answer → answer ≡ Err fault
told_fault (Ok job) fault is = cc
told_fault (Err other) fault is = let same : fault ≡ other = cc in cc

pub named : (words : List (String Global)) (result : Result Job WordsRefusal) (job : Job) → AnswersWords (map string_bytes words) result → result ≡ Ok job → NamesJob words job
named words result job (inl is) ok = told_job (asked (map string_bytes words)) job (let same = sym ok in cc)
named words result job (inr is) ok = cc

pub faulty : (words : List (String Global)) (result : Result Job WordsRefusal) (fault : WordsFault) → AnswersWords (map string_bytes words) result
    → result ≡ Err (Fault fault) → HasWordsFault words fault
faulty words result fault (inl is) err = told_fault (asked (map string_bytes words)) fault (let same = sym err in cc)
faulty words result fault (inr is) err = cc

-- words that name a job have no fault
pub named_no_fault : (words : List (String Global)) (fault : WordsFault) → NamesAJob words → HasWordsFault words fault → ⊥
named_no_fault words fault job has = let is = job.1 in cc

pub reader_names : (words : List (String Global)) → NamesAReader words → NamesAJob words
reader_names words reader = (reader.0, reader.1)

-- words that name one job name no other
pub same_job : (words : List (String Global)) (job other : Job) → NamesJob words job → NamesJob words other → job ≡ other
same_job words job other is also = cc

pub same_fault : (words : List (String Global)) (fault other : WordsFault) → HasWordsFault words fault → HasWordsFault words other → fault ≡ other
same_fault words fault other is also = cc

-- where no job that reads a deck is named, this one reads none
pub reads_none : (words : List (String Global)) (job : Job) → NamesJob words job → (NamesAReader words → ⊥) → reads_deck job ≡ false
reads_none words job names none = go (reads_deck job) refl
  where
    go : (b : Bool) → reads_deck job ≡ b → b ≡ false
    go false is = refl
    go true is = absurd (none (job, names, is))

-- ---- a side is within its range

bools : (a b : Bool) → (a && b) ≡ true → (a ≡ true) × (b ≡ true)
bools true b is = (refl, is)
bools false b is = absurd (true≢false (sym is))

-- what is behind a test of workers, and of a side
behind_workers : (n : ℕ) (next : Result Job WordsFault) (job : Job) → with_workers n next ≡ Ok job → AreWorkers n × (next ≡ Ok job)
behind_workers n next job = go (is_within 1 64 n) refl
  where
    go : (b : Bool) → is_within 1 64 n ≡ b → cond b next (Err (Workers n)) ≡ Ok job → AreWorkers n × (next ≡ Ok job)
    go true range is =
        let parts = bools _ _ range in
        (record { some = leb-true 1 n parts.0; most = leb-true n 64 parts.1 }, is)
    go false range is = cc

behind_side : (n : ℕ) (next : Result Job WordsFault) (job : Job) → with_side n next ≡ Ok job → IsSide n × (next ≡ Ok job)
behind_side n next job = go (is_within 1 32 n) refl
  where
    go : (b : Bool) → is_within 1 32 n ≡ b → cond b next (Err (Side n)) ≡ Ok job → IsSide n × (next ≡ Ok job)
    go true range is =
        let parts = bools _ _ range in
        (record { low = leb-true 1 n parts.0; high = leb-true n 32 parts.1 }, is)
    go false range is = cc

judged_numbers : (line job : Job) → judged line ≡ Ok job → HasNumbers job
judged_numbers (Run workers) job is =
    let next = behind_workers workers (Ok (Run workers)) job is in
    let same : job ≡ Run workers = let ok = next.1 in cc in
    subst HasNumbers (sym same) next.0
judged_numbers Plain job is = let same : job ≡ Plain = cc in subst HasNumbers (sym same) tt
judged_numbers Check job is = let same : job ≡ Check = cc in subst HasNumbers (sym same) tt
judged_numbers Tree job is = let same : job ≡ Tree = cc in subst HasNumbers (sym same) tt
judged_numbers (Generate side seed) job is =
    let next = behind_side side (Ok (Generate side seed)) job is in
    let same : job ≡ Generate side seed = let ok = next.1 in cc in
    subst HasNumbers (sym same) next.0
judged_numbers (Sample side seed workers) job is =
    let first = behind_workers workers (with_side side (Ok (Sample side seed workers))) job is in
    let next = behind_side side (Ok (Sample side seed workers)) job first.1 in
    let same : job ≡ Sample side seed workers = let ok = next.1 in cc in
    subst HasNumbers (sym same) (next.0, first.0)

numbers_of_line : (line : Option Job) (job : Job) → judged_or_usage line ≡ Ok job → HasNumbers job
numbers_of_line None job is = cc
numbers_of_line (Some line) job is = judged_numbers line job is

-- the numbers of a job that is named are in their ranges
pub has_numbers : (words : List (String Global)) (job : Job) → NamesJob words job → HasNumbers job
has_numbers words job names = numbers_of_line (option_and_then job_with (texts_of (map string_bytes words))) job names
