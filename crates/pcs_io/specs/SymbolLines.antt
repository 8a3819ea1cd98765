-- The grammar of symbol lines: 514 or 528 symbols, each three hexadecimal digits, and a newline.
use Rattle.std.specs.Prelude.{◌≡◌, ℕ, ◌+◌, ◌*◌, ◌%◌, ◌<◌, ◌≤◌, ◌==◌, ◌&&◌, ◌||◌, nat_lt, Bool, List, [], ◌∷◌, ◌++◌, length, slice_index, if◌then◌else◌, refl}
use Rattle.std.specs.Char.{digit_value, is_digit}
use Rattle.pcs_io.specs.declared.fault.Kind.TheVariants.{BadHex, BadWidth, Symbol}
use Rattle.pcs_io.specs.Grammars.{LineAt, Line, Refused, Open}

-- the number of three digits
abbrev pub number_of : ℕ → ℕ → ℕ → ℕ
number_of high middle low = 256 * digit_value high + 16 * digit_value middle + digit_value low

-- the numbers of three digits each
unfoldable pub numbers_of : List ℕ → List ℕ
numbers_of (high ∷ middle ∷ low ∷ digits) = number_of high middle low ∷ numbers_of digits
numbers_of digits = []

-- whether a line has so many digits
abbrev pub is_width : ℕ → Bool
is_width digits = (digits == 1542) || (digits == 1584)

-- whether a digit behind so many begins a symbol, and is too great for that
abbrev pub is_too_great : ℕ → ℕ → Bool
is_too_great count digit = (count % 3 == 0) && nat_lt 3 (digit_value digit)

-- from the digits on, of which these came before
abbrev pub symbols_at : List ℕ → List ℕ → LineAt (List ℕ)
symbols_at digits [] = Open
symbols_at digits (x ∷ xs) =
    if x == 10 then (if is_width (length digits) then Line (numbers_of digits) xs else Refused BadWidth)
    else if length digits == 1584 then Refused BadWidth
    else if is_digit x 16 then (if is_too_great (length digits) x then Refused Symbol else symbols_at (digits ++ x ∷ []) xs)
    else Refused BadHex

-- what stands at the front of some octets: the numbers of the symbols, in their order
abbrev pub symbol_line_at : List ℕ → LineAt (List ℕ)
symbol_line_at octets = symbols_at [] octets

-- the digits so far and the numbers of the line that was read last
pub record SymbolParserState : Type 0 where
  pub digits : List ℕ
  pub numbers : List ℕ

pub nothing_at : (digits : List ℕ) → symbols_at digits [] ≡ Open
nothing_at digits = refl

-- a digit that may stand behind so many
pub record MayStand (count digit : ℕ) : Type 0 where
  pub value : digit_value digit < 16
  pub first : count % 3 ≡ 0 → digit_value digit ≤ 3

-- each of the digits may stand where it does
abbrev pub AreSymbolDigits : List ℕ → Type 0
AreSymbolDigits digits = (k : ℕ) → k < length digits → MayStand k (slice_index digits k)

-- numbers of ten bits
abbrev pub AreSmall : List ℕ → Type 0
AreSmall numbers = (k : ℕ) → k < length numbers → slice_index numbers k < 1024
