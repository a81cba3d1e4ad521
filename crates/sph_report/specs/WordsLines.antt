-- The line on standard error for each fault of the words.
use Rattle.std.specs.Prelude.{ℕ, List, [], ◌∷◌, ◌++◌, codes, decimal}
use Rattle.sph_words.specs.declared.fault.WordsFault.{WordsFault}
use Rattle.sph_words.specs.declared.fault.WordsFault.TheVariants.{Usage, Workers, Side}

-- what is wrong
abbrev pub words_fault_text : WordsFault → List ℕ
words_fault_text Usage =
    codes "usage: run [--workers N] | plain | check | tree | generate SIDE SEED | sample SIDE SEED [--workers N]"
words_fault_text (Workers n) = codes "workers must be 1 to 64, not " ++ decimal n
words_fault_text (Side n) = codes "side must be 1 to 32, not " ++ decimal n

-- the line, with its end
abbrev pub words_line : WordsFault → List ℕ
words_line fault = codes "swiftq: " ++ words_fault_text fault ++ 10 ∷ []
