-- What the words ask for: a job, or their first fault.
use Rattle.std.specs.Prelude.{ℕ, ◌&&◌, Bool, List, [], ◌∷◌, Option, Some, None, if◌then◌else◌, Result, Ok, Err, ◌≡◌, ◌⊎◌}
use Rattle.std.specs.Prelude.{nat_le, find, codes, option_and_then}
use Rattle.std.specs.Option.{option_map_or}
use Rattle.std.specs.Str.{bytes_eq}
use Rattle.sph_words.specs.declared.job.Job.{Job}
use Rattle.sph_words.specs.declared.job.Job.TheVariants as job
use Rattle.sph_words.specs.declared.fault.WordsFault.{WordsFault}
use Rattle.sph_words.specs.declared.fault.WordsFault.TheVariants.{Usage, Workers, Side}
use Rattle.sph_words.specs.declared.fault.WordsRefusal.{WordsRefusal}
use Rattle.sph_words.specs.declared.fault.WordsRefusal.TheVariants.{Fault, Memory}
use Rattle.sph_words.specs.declared.number.Given.{Given}
use Rattle.sph_words.specs.declared.number.Given.TheVariants.{Absent, Number}
use Rattle.sph_words.specs.declared.table.JobName.{JobName}
use Rattle.sph_words.specs.declared.table.JobName.TheVariants.{Run, Plain, Check, Tree, Generate, Sample}
use Rattle.sph_words.specs.Numbers.{given_of}
use Rattle.sph_words.specs.Texts.{Texts, texts_of}

-- the word that names a job
abbrev pub word_of : JobName → List ℕ
word_of Run = codes "run"
word_of Plain = codes "plain"
word_of Check = codes "check"
word_of Tree = codes "tree"
word_of Generate = codes "generate"
word_of Sample = codes "sample"

-- the name whose word this is
abbrev pub name_of : List ℕ → Option JobName
name_of word =
    find (λ name. bytes_eq (word_of name) word) (Run ∷ Plain ∷ Check ∷ Tree ∷ Generate ∷ Sample ∷ [])

-- the table of jobs: the name, first, second, `--workers`, and the job, with numbers of any size; none where no line fits
abbrev pub job_at : JobName → Given → Given → Given → Option Job
job_at Run Absent Absent Absent = Some (job.Run 1)
job_at Run Absent Absent (Number workers) = Some (job.Run workers)
job_at Plain Absent Absent Absent = Some job.Plain
job_at Check Absent Absent Absent = Some job.Check
job_at Tree Absent Absent Absent = Some job.Tree
job_at Generate (Number side) (Number seed) Absent = Some (job.Generate side seed)
job_at Sample (Number side) (Number seed) Absent = Some (job.Sample side seed 1)
job_at Sample (Number side) (Number seed) (Number workers) = Some (job.Sample side seed workers)
job_at name first second workers = None

-- the job that the texts name by the table, whatever its numbers; none where they name none
abbrev pub job_with : Texts → Option Job
job_with texts = option_and_then (λ name.
    job_at name (given_of texts.first) (given_of texts.second) (given_of texts.workers)) (name_of texts.job)

-- a number from the least to the most
abbrev pub is_within : ℕ → ℕ → ℕ → Bool
is_within least most n = nat_le least n && nat_le n most

-- workers are 1 to 64, or that is the fault
abbrev pub with_workers : ℕ → Result Job WordsFault → Result Job WordsFault
with_workers n next = if is_within 1 64 n then next else Err (Workers n)

-- a side is 1 to 32, or that is the fault
abbrev pub with_side : ℕ → Result Job WordsFault → Result Job WordsFault
with_side n next = if is_within 1 32 n then next else Err (Side n)

-- the job, or what is wrong with its numbers: the workers before the side
abbrev pub judged : Job → Result Job WordsFault
judged (job.Run workers) = with_workers workers (Ok (job.Run workers))
judged (job.Generate side seed) = with_side side (Ok (job.Generate side seed))
judged (job.Sample side seed workers) =
    with_workers workers (with_side side (Ok (job.Sample side seed workers)))
judged other = Ok other

-- a job as judged; where there is none, wrong usage
abbrev pub judged_or_usage : Option Job → Result Job WordsFault
judged_or_usage line = option_map_or judged line (Err Usage)

-- what the words ask for: the job that they name, or their first fault
abbrev pub asked : List (List ℕ) → Result Job WordsFault
asked words = judged_or_usage (option_and_then job_with (texts_of words))

-- a job or a fault, as an answer that could also be want of memory
abbrev pub told : Result Job WordsFault → Result Job WordsRefusal
told (Ok job) = Ok job
told (Err fault) = Err (Fault fault)

-- the job, exactly where the words name it, and the fault, exactly where it is their first; either yields to want of memory
abbrev pub AnswersWords : List (List ℕ) → Result Job WordsRefusal → Type 0
AnswersWords words result = (result ≡ told (asked words)) ⊎ (result ≡ Err Memory)
