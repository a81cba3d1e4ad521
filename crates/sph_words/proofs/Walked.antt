-- A parse by `clap`, word by word, from its definitions of what it makes of them.
use Rattle.std.proofs.Common.{◌≡◌, ◌&&◌, Bool, true, false, List, [], ◌∷◌, ◌++◌, Option, Some, None, is_some, refl, codes, fold}
use Rattle.std.specs.Str.{bytes_eq}
use Rattle.std.specs.List.{list_all}
use Rattle.clap.proofs.OnLiterals.{clap_on_literals}
use Rattle.clap.specs.Lexer.{long_of, short_of}
use Rattle.clap.specs.Simple.{Shape, built, entered, matches_of}
use Rattle.clap.specs.Takes.{default_passes, entered_passes, is_valid, settle_passes, takes, turn_passes, walk_passes}
use Rattle.clap.specs.Walk.{Rule, Text, Walk, arg_by_index, arg_by_long, finished, idle, long_met, nothing_held, option, pushed, to_positional, walk_from, walked}
use Rattle.sph_words.specs.Texts.{Texts, begins_with_hyphen}
use Rattle.sph_words.specs.inner.Asked.{command, texts_in}

abbrev pub shape : Shape
shape = (built command).top

abbrev pub rules : List Rule
rules = shape.rules

-- ---- a word that doesn't begin with a hyphen

-- it is no `--`, no long and no short option
pub record IsPlainWord (word : Text) : Type 0 where
  pub stop : bytes_eq word (45 ∷ 45 ∷ []) ≡ false
  pub long : long_of word ≡ None
  pub short : short_of word ≡ None

pub plain_word : (word : Text) → begins_with_hyphen word ≡ false → IsPlainWord word
plain_word [] plain = record { stop = refl; long = refl; short = refl }
plain_word (byte ∷ rest) plain = record { stop = rw plain refl; long = rw plain refl; short = rw plain refl }

-- ---- steps of the walk, where the parse doesn't fail

pub record Steps (from : Walk) (word : Text) (to : Walk) : Type 0 where
  pub goes : walked rules [] from word ≡ to
  pub passes : turn_passes shape [] from word ≡ true

pub record Reaches (from : Walk) (words : List Text) (to : Walk) : Type 0 where
  pub goes : fold (walked rules []) from words ≡ to
  pub passes : walk_passes shape [] from words ≡ true

pub stays : (at : Walk) → Reaches at [] at
unfolding walk_passes
stays at = record { goes = refl; passes = refl }

pub steps_on : (from mid to : Walk) (word : Text) (words : List Text) → Steps from word mid → Reaches mid words to → Reaches from (word ∷ words) to
unfolding walk_passes
steps_on from mid to word words step rest = record { goes = rw step.goes rest.goes; passes = rw (step.passes, step.goes) rest.passes }

-- a word goes to the next positional
abbrev pub placed : Walk → Text → Walk
placed from word = to_positional rules (arg_by_index rules from.position) word from from.held

-- `--workers=` with its value
abbrev pub with_value : Walk → Text → Walk
with_value from value = record from { held = (long_met rules (arg_by_long rules (codes "workers")) (Some value) from.held).0; waiting = idle }

-- `--workers`, which waits for its value
abbrev pub awaiting : Walk → Walk
awaiting from = record from { held = (long_met rules (arg_by_long rules (codes "workers")) None from.held).0; waiting = option (codes "workers") }

-- the value that was waited for
abbrev pub taking : Walk → Text → Walk
taking from value = record from { held = pushed (codes "workers") value from.held; waiting = idle }

-- ---- the end of the walk

-- what a parse checks at the end
abbrev pub ends_well : Walk → Bool
ends_well at = entered_passes (built command) at.stopped
    && (settle_passes rules shape.args_override_self at.held
    && (list_all default_passes rules && is_valid shape (finished rules at.held) (is_some (entered (built command) at.stopped))))

pub record Ends (at : Walk) (texts : Texts) : Type 0 where
  pub well : ends_well at ≡ true
  pub rows : texts_in (finished rules at.held) ≡ Some texts

-- a parse of these words succeeds with these texts
pub record Gives (words : List Text) (texts : Texts) : Type 0 where
  pub taken : takes command words ≡ true
  pub rows : texts_in (matches_of command words) ≡ Some texts

pub gives : (name : Text) (words : List Text) (at : Walk) (texts : Texts) → Reaches (walk_from nothing_held) words at → Ends at texts → Gives (name ∷ words) texts
gives name words at texts reaches ends = record {
  taken = rw (reaches.passes, reaches.goes) ends.well;
  rows = rw reaches.goes ends.rows;
}

-- ---- from a place behind the positionals, by what the option is

-- the walk stands behind the positionals, and these are the texts by that of the option
pub record Stands (at : Walk) (texts : Option Text → Texts) : Type 0 where
  pub bare : Ends at (texts None)
  pub steps_value : (value : Text) → Steps at (codes "--workers=" ++ value) (with_value at value)
  pub value : (value : Text) → Ends (with_value at value) (texts (Some value))
  pub steps_option : Steps at (codes "--workers") (awaiting at)
  pub steps_text : (text : Text) → IsPlainWord text → Steps (awaiting at) text (taking (awaiting at) text)
  pub text : (text : Text) → Ends (taking (awaiting at) text) (texts (Some text))

abbrev pub first_walk : Text → Walk
first_walk job = placed (walk_from nothing_held) job

abbrev pub second_walk : Text → Text → Walk
second_walk job first = placed (first_walk job) first

abbrev pub third_walk : Text → Text → Text → Walk
third_walk job first second = placed (second_walk job first) second

pub steps_job : (job : Text) → IsPlainWord job → Steps (walk_from nothing_held) job (first_walk job)
unfolding clap_on_literals
steps_job job plain = record { goes = rw (plain.stop, plain.long, plain.short) refl; passes = rw (plain.stop, plain.long, plain.short) refl }

pub steps_first : (job first : Text) → IsPlainWord first → Steps (first_walk job) first (second_walk job first)
unfolding clap_on_literals
steps_first job first plain = record { goes = rw (plain.stop, plain.long, plain.short) refl; passes = rw (plain.stop, plain.long, plain.short) refl }

pub steps_second : (job first second : Text) → IsPlainWord second → Steps (second_walk job first) second (third_walk job first second)
unfolding clap_on_literals
steps_second job first second plain = record { goes = rw (plain.stop, plain.long, plain.short) refl; passes = rw (plain.stop, plain.long, plain.short) refl }

pub stands_first : (job : Text) → Stands (first_walk job) (λ workers. record { job = job; first = None; second = None; workers = workers })
unfolding clap_on_literals
stands_first job = record {
  bare = record { well = refl; rows = refl };
  steps_value = λ value. record { goes = refl; passes = refl };
  value = λ value. record { well = refl; rows = refl };
  steps_option = record { goes = refl; passes = refl };
  steps_text = λ text plain. record { goes = rw (plain.stop, plain.long, plain.short) refl; passes = rw (plain.stop, plain.long, plain.short) refl };
  text = λ text. record { well = refl; rows = refl };
}

pub stands_second : (job first : Text) → Stands (second_walk job first) (λ workers. record { job = job; first = Some first; second = None; workers = workers })
unfolding clap_on_literals
stands_second job first = record {
  bare = record { well = refl; rows = refl };
  steps_value = λ value. record { goes = refl; passes = refl };
  value = λ value. record { well = refl; rows = refl };
  steps_option = record { goes = refl; passes = refl };
  steps_text = λ text plain. record { goes = rw (plain.stop, plain.long, plain.short) refl; passes = rw (plain.stop, plain.long, plain.short) refl };
  text = λ text. record { well = refl; rows = refl };
}

pub stands_third : (job first second : Text) → Stands (third_walk job first second) (λ workers. record { job = job; first = Some first; second = Some second; workers = workers })
unfolding clap_on_literals
stands_third job first second = record {
  bare = record { well = refl; rows = refl };
  steps_value = λ value. record { goes = refl; passes = refl };
  value = λ value. record { well = refl; rows = refl };
  steps_option = record { goes = refl; passes = refl };
  steps_text = λ text plain. record { goes = rw (plain.stop, plain.long, plain.short) refl; passes = rw (plain.stop, plain.long, plain.short) refl };
  text = λ text. record { well = refl; rows = refl };
}
