-- The text of `kr`: words of RS(528,514) in hexadecimal digits. A line has the highest place of a word first.
use Rattle.std.specs.Prelude.{ℕ, ◌/◌, ◌%◌, ◌==◌, List, [], ◌∷◌, ◌++◌, length, map, reverse, codes, decimal, Option, Some, None, if◌then◌else◌}
use Rattle.std.specs.Char.{digit_char}
use Rattle.std.specs.List.{flat_map}
use Rattle.gf1024.specs.Symbol.{Symbol, symbol}
use Rattle.rs_code.specs.Code.{distance}
use Rattle.kr_code.specs.Short.{short_coded, short_near}

-- the word of a line's numbers
abbrev pub word_of : List ℕ → List Symbol
word_of numbers = map symbol (reverse numbers)

-- three lower-case hexadecimal digits
abbrev pub symbol_digits : Symbol → List ℕ
symbol_digits s = digit_char (s.value / 256) ∷ digit_char (s.value / 16 % 16) ∷ digit_char (s.value % 16) ∷ []

-- the symbols of a word
unfoldable pub word_text : List Symbol → List ℕ
word_text word = flat_map symbol_digits (reverse word)

-- the distance of a word to the member near it, and the member; or `-` where there is none
abbrev pub corrected_text : List Symbol → Option (List Symbol) → List ℕ
corrected_text word (Some member) = decimal (distance word member) ++ codes " " ++ word_text member
corrected_text word None = codes "-"

-- A message of 514 symbols is coded, and a word of 528 is corrected.
abbrev pub answer_text : List ℕ → List ℕ
answer_text numbers =
    if length numbers == 514 then word_text (short_coded (word_of numbers))
    else corrected_text (word_of numbers) (short_near (word_of numbers))

-- the answer to each line, and a newline
unfoldable pub kr_text : List (List ℕ) → List ℕ
kr_text lines = flat_map (λ line. answer_text line ++ 10 ∷ []) lines
