-- The texts of the words. The program's name comes first, then the job and its numbers, and last the option `--workers`.
use Rattle.std.specs.Prelude.{ℕ, ◌==◌, Bool, List, [], ◌∷◌, Option, Some, None, if◌then◌else◌, length, take, drop, codes, slice_index}
use Rattle.std.specs.Prelude.{option_map, option_and_then}
use Rattle.std.specs.List.{position_or_len}
use Rattle.std.specs.Str.{bytes_eq}

-- the first byte is `-` (45)
abbrev pub begins_with_hyphen : List ℕ → Bool
begins_with_hyphen word = slice_index word 0 == 45

-- the words behind the program's name
abbrev pub arguments : List (List ℕ) → List (List ℕ)
arguments words = drop 1 words

-- how many of these stand before the cut: it is at the first that begins with a hyphen, or at their end
abbrev pub cut_of : List (List ℕ) → ℕ
cut_of words = position_or_len begins_with_hyphen (arguments words)

-- the words before the cut
abbrev pub before_cut : List (List ℕ) → List (List ℕ)
before_cut words = take (cut_of words) (arguments words)

-- the words from the cut on
abbrev pub from_cut : List (List ℕ) → List (List ℕ)
from_cut words = drop (cut_of words) (arguments words)

-- what stands in the word behind this beginning, where it begins so
abbrev pub text_behind : List ℕ → List ℕ → Option (List ℕ)
text_behind beginning word =
    if bytes_eq beginning (take (length beginning) word) then Some (drop (length beginning) word) else None

-- the text of `--workers`, which may be absent, from the words from the cut on; none where these aren't in order
abbrev pub workers_text : List (List ℕ) → Option (Option (List ℕ))
workers_text [] = Some None
workers_text (word ∷ []) = option_map Some (text_behind (codes "--workers=") word)
workers_text (word ∷ text ∷ []) = if bytes_eq word (codes "--workers") then Some (Some text) else None
workers_text _ = None

-- the words by their places: the job, two numbers, and what `--workers` is given
pub record Texts : Type 0 where
  pub job : List ℕ
  pub first : Option (List ℕ)
  pub second : Option (List ℕ)
  pub workers : Option (List ℕ)

-- one to three words stand before the cut; none where there are others
abbrev pub texts_with : Option (List ℕ) → List (List ℕ) → Option Texts
texts_with workers (job ∷ []) = Some (record { job = job; first = None; second = None; workers = workers })
texts_with workers (job ∷ first ∷ []) =
    Some (record { job = job; first = Some first; second = None; workers = workers })
texts_with workers (job ∷ first ∷ second ∷ []) =
    Some (record { job = job; first = Some first; second = Some second; workers = workers })
texts_with workers _ = None

-- the texts of words in order; none of others
abbrev pub texts_of : List (List ℕ) → Option Texts
texts_of words = option_and_then (λ workers. texts_with workers (before_cut words)) (workers_text (from_cut words))
