-- Which texts are numbers: one or more ASCII digits without a sign, `0` or without a leading zero, with a value below 2^64.
use Rattle.std.specs.Prelude.{ℕ, ◌^◌, ◌==◌, ◌&&◌, ◌||◌, Bool, not, List, Option, Some, None, if◌then◌else◌, length}
use Rattle.std.specs.Prelude.{nat_lt, slice_index}
use Rattle.std.specs.Char.{is_ascii_digit}
use Rattle.std.specs.List.{list_all}
use Rattle.std.specs.Option.{option_map_or}
use Rattle.std.specs.Str.Parse.{digits_value}
use Rattle.sph_words.specs.declared.number.Given.{Given}
use Rattle.sph_words.specs.declared.number.Given.TheVariants.{Absent, Number, NoNumber}

-- the first byte is no zero (48), or the only one
abbrev pub has_no_leading_zero : List ℕ → Bool
has_no_leading_zero text = not (slice_index text 0 == 48) || length text == 1

-- the text is a number: some digits, no zero in front of others, a value below 2^64
abbrev pub is_number : List ℕ → Bool
is_number text = nat_lt 0 (length text) && list_all is_ascii_digit text && has_no_leading_zero text
    && nat_lt (digits_value 10 text) (2 ^ 64)

-- the number that a text is
abbrev pub number_of : List ℕ → Option ℕ
number_of text = if is_number text then Some (digits_value 10 text) else None

-- what stands at the place of a number
abbrev pub given_of : Option (List ℕ) → Given
given_of None = Absent
given_of (Some text) = option_map_or Number (number_of text) NoNumber
