-- The answers of the reader of symbol lines.
use Rattle.std.specs.Prelude.{◌≡◌, ℕ, ◌==◌, ◌||◌, true, Bool, List, length, Option, Some, None, Result, Ok, Err}
use Rattle.pcs_io.specs.declared.fault.InFault.{InFault}
use Rattle.pcs_io.specs.declared.symbol_lines.SymbolLine.{SymbolLine}
use Rattle.pcs_io.specs.SymbolLines.{AreSmall}

-- the answer without where the numbers lie in memory
abbrev pub content : Result (Option SymbolLine) InFault → Result (Option (List ℕ)) InFault
content (Ok (Some line)) = Ok (Some line.symbols.now)
content (Ok None) = Ok None
content (Err fault) = Err fault

-- whether a line has so many symbols
abbrev pub is_count : ℕ → Bool
is_count symbols = (symbols == 514) || (symbols == 528)

-- 514 or 528 numbers of ten bits
pub record AreSymbols (numbers : List ℕ) : Type 0 where
  pub count : is_count (length numbers) ≡ true
  pub small : AreSmall numbers

-- the numbers of a line are such
abbrev pub FitsSymbols : Result (Option SymbolLine) InFault → Type 0
FitsSymbols (Ok (Some line)) = AreSymbols line.symbols.now
FitsSymbols (Ok None) = Unit {0}
FitsSymbols (Err fault) = Unit {0}
