-- What the words name: a job, or a fault.
use Rattle.std.specs.Prelude.{◌≡◌, Bool, true, false, List, map, Ok, Err, String, string_bytes}
use Rattle.std.specs.declared.alloc.Global.{Global}
use Rattle.sph_words.specs.declared.fault.WordsFault.{WordsFault}
use Rattle.sph_words.specs.declared.job.Job.{Job}
use Rattle.sph_words.specs.declared.job.Job.TheVariants.{Generate, Sample}
use Rattle.sph_words.specs.Jobs.{asked}

-- the words name this job
abbrev pub NamesJob : List (String Global) → Job → Type 0
NamesJob words job = asked (map string_bytes words) ≡ Ok job

-- the words name no job, and this is their first fault
abbrev pub HasWordsFault : List (String Global) → WordsFault → Type 0
HasWordsFault words fault = asked (map string_bytes words) ≡ Err fault

-- the words name some job
abbrev pub NamesAJob : List (String Global) → Type 0
NamesAJob words = (job : Job) × NamesJob words job

-- the job reads a deck; the others make one from two numbers
abbrev pub reads_deck : Job → Bool
reads_deck (Generate side seed) = false
reads_deck (Sample side seed workers) = false
reads_deck _ = true

-- a job that reads a deck is named
abbrev pub NamesAReader : List (String Global) → Type 0
NamesAReader words = (job : Job) × NamesJob words job × (reads_deck job ≡ true)
