-- The form of a symbol line, apart from how it is read.
use Rattle.std.specs.Prelude.{◌≡◌, ℕ, ◌<◌, ◌⊎◌, List, [], ◌∷◌, ◌++◌, length, ◌↔◌}
use Rattle.std.specs.Char.{digit_value}
use Rattle.pcs_io.specs.declared.fault.Kind.{Kind}
use Rattle.pcs_io.specs.Grammars.{Line, Refused, Open}
use Rattle.pcs_io.specs.SymbolLines.{symbol_line_at, number_of}

-- three hexadecimal digits for each number of ten bits
abbrev pub Spell : List ℕ → List ℕ → Type 0
Spell [] [] = Unit {0}
Spell (high ∷ middle ∷ low ∷ digits) (number ∷ numbers) =
    (digit_value high < 16) × (digit_value middle < 16) × (digit_value low < 16)
    × (number ≡ number_of high middle low) × (number < 1024) × Spell digits numbers
Spell digits numbers = ⊥

-- 514 or 528 symbols, and a newline
pub record IsSymbolLine (text numbers : List ℕ) : Type 0 where
  pub digits : List ℕ
  pub spelled : text ≡ digits ++ 10 ∷ []
  pub symbols : Spell digits numbers
  pub count : (length numbers ≡ 514) ⊎ (length numbers ≡ 528)

-- what is read as a line is of that form, and each text of that form is read so, whatever follows it
abbrev pub ReadsSymbols : Type 0
ReadsSymbols =
    (octets numbers rest : List ℕ)
    → (symbol_line_at octets ≡ Line numbers rest) ↔ ((text : List ℕ) × IsSymbolLine text numbers × (octets ≡ text ++ rest))

-- octets that are open can become a line, and octets that are refused begin none
abbrev pub RefusesSymbolsAtTheFirst : Type 0
RefusesSymbolsAtTheFirst =
    ((octets : List ℕ) → symbol_line_at octets ≡ Open → (more numbers : List ℕ) × (symbol_line_at (octets ++ more) ≡ Line numbers []))
    × ((octets more : List ℕ) (kind : Kind) (numbers rest : List ℕ) → symbol_line_at octets ≡ Refused kind
    → symbol_line_at (octets ++ more) ≡ Line numbers rest → ⊥)
