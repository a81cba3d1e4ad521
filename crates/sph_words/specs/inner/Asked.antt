-- The command that `clap` reads the words by, and the words that are handed to it.
use Rattle.std.specs.Prelude.{◌≡◌, ℕ, ◌&&◌, Bool, true, false, not, List, Option, Some, option_map, codes, length, Result, Ok, Err, if◌then◌else◌}
use Rattle.std.specs.Option.{option_map_or}
use Rattle.clap.specs.Simple.{App, new_app, new_rule, with_rule}
use Rattle.clap.specs.Walk.{Row, Rule, first_of}
use Rattle.sph_words.specs.declared.ask.Matched.{Matched}
use Rattle.sph_words.specs.declared.fault.WordsFault.{WordsFault}
use Rattle.sph_words.specs.declared.fault.WordsFault.TheVariants.{Usage, Workers, Side}
use Rattle.sph_words.specs.declared.number.Given.{Given}
use Rattle.sph_words.specs.declared.number.Given.TheVariants.{Absent, Number, NoNumber}
use Rattle.sph_words.specs.Jobs.{is_within}
use Rattle.sph_words.specs.Texts.{Texts, before_cut, begins_with_hyphen, from_cut, text_behind, texts_of, workers_text}

abbrev pub job_rule : Rule
job_rule = record (new_rule (codes "job")) { required = true }

abbrev pub workers_rule : Rule
workers_rule = record (new_rule (codes "workers")) { long = Some (codes "workers") }

-- the name alone, without a flag for help
abbrev pub bare : App
bare = let named = new_app (codes "swiftq") in record named { top = record named.top { disable_help_flag = true } }

-- a required positional `job`, two optional ones, and one option
abbrev pub command : App
command =
    with_rule (with_rule (with_rule (with_rule bare job_rule) (new_rule (codes "first"))) (new_rule (codes "second"))) workers_rule

-- the texts that the rows of a command's matches have
abbrev pub texts_in : List Row → Option Texts
texts_in rows = option_map (λ job. record {
  job = job;
  first = first_of (codes "first") rows;
  second = first_of (codes "second") rows;
  workers = first_of (codes "workers") rows;
}) (first_of (codes "job") rows)

-- the rows have the texts of the words
abbrev pub HasTextsOf : List (List ℕ) → List Row → Type 0
HasTextsOf words rows = (texts : Texts) × (texts_of words ≡ Some texts) × (texts_in rows ≡ Some texts)

-- one to three words stand before the cut
abbrev pub is_few : List (List ℕ) → Bool
is_few before = is_within 1 3 (length before)

-- the words from the cut on are in order, and the text of `--workers` doesn't begin with a hyphen
abbrev pub is_option : List (List ℕ) → Bool
is_option words = option_map_or (λ text. not (option_map_or begins_with_hyphen text false)) (workers_text words) false

-- the same of `--workers=` and its text
abbrev pub is_valued : List ℕ → Bool
is_valued word = option_map_or (λ text. not (begins_with_hyphen text)) (text_behind (codes "--workers=") word) false

-- the words that are handed to `clap`
abbrev pub is_handed : List (List ℕ) → Bool
is_handed words = is_few (before_cut words) && is_option (from_cut words)

-- the texts behind borrows
abbrev pub texts_from : Matched → Texts
texts_from matched = record {
  job = matched.job.now;
  first = option_map (λ text. text.now) matched.first;
  second = option_map (λ text. text.now) matched.second;
  workers = option_map (λ text. text.now) matched.workers;
}

-- the number of workers, or what is wrong with it
abbrev pub workers_of : Given → Result ℕ WordsFault
workers_of Absent = Ok 1
workers_of (Number n) = if is_within 1 64 n then Ok n else Err (Workers n)
workers_of NoNumber = Err Usage

abbrev pub side_of : ℕ → Result ℕ WordsFault
side_of n = if is_within 1 32 n then Ok n else Err (Side n)
