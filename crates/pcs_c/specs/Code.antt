-- What C gets of words.
use Rattle.std.specs.Prelude.{◌≡◌, ℕ, ◌<◌, List, map, length, slice_index, Option, MatchOption}
use Rattle.gf1024.specs.Symbol.{Symbol, symbol}
use Rattle.rs_code.specs.Code.{distance}

-- numbers below 1024
abbrev pub AreSymbols : List ℕ → Type 0
AreSymbols numbers = (i : ℕ) → i < length numbers → slice_index numbers i < 1024

-- the codeword near a word and its distance, or the same symbols and 255 where there is none
abbrev pub IsCorrected : Option (List Symbol) → List ℕ → List ℕ → ℕ → Type 0
IsCorrected near old new count =
    MatchOption near ((count ≡ 255) × (map symbol new ≡ map symbol old))
    (λ codeword. (count ≡ distance (map symbol old) codeword) × (map symbol new ≡ codeword))
