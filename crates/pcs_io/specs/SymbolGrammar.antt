-- The grammar of symbol lines is one.
use Rattle.std.proofs.Common.{ℕ, ◌<◌, ◌≤◌, ◌==◌, List, [], ◌∷◌, ◌++◌, length, refl, arith}
use Rattle.std.specs.Char.{is_digit}
use Rattle.pcs_io.specs.Grammars.{Stable, IsShorter, IsGrammar}
use Rattle.pcs_io.specs.GrammarParts.{cond-stable, cond-shorter}
use Rattle.pcs_io.specs.SymbolLines.{symbol_line_at, symbols_at, is_width, is_too_great}

symbols-stable : (xs ds more : List ℕ) → Stable (symbols_at ds xs) (symbols_at ds (xs ++ more)) more
symbols-stable [] ds more = tt
symbols-stable (x ∷ xs) ds more =
    cond-stable (x == 10) _ _ _ _ more
    (cond-stable (is_width (length ds)) _ _ _ _ more refl refl)
    (cond-stable (length ds == 1584) _ _ _ _ more refl
    (cond-stable (is_digit x 16) _ _ _ _ more
    (cond-stable (is_too_great (length ds) x) _ _ _ _ more refl (symbols-stable xs (ds ++ x ∷ []) more))
    refl))

symbols-shorter : (xs ds : List ℕ) (n : ℕ) → length xs ≤ n → IsShorter (symbols_at ds xs) n
symbols-shorter [] ds n h = tt
symbols-shorter (x ∷ xs) ds n h =
    cond-shorter (x == 10) _ _ n
    (cond-shorter (is_width (length ds)) _ _ n (let low : length xs < n = omega arith in low) tt)
    (cond-shorter (length ds == 1584) _ _ n tt
    (cond-shorter (is_digit x 16) _ _ n
    (cond-shorter (is_too_great (length ds) x) _ _ n tt (symbols-shorter xs (ds ++ x ∷ []) n (omega arith)))
    tt))

pub symbol_grammar : IsGrammar symbol_line_at
symbol_grammar = record { nothing = refl; stable = λ xs more. symbols-stable xs [] more; shorter = λ xs. symbols-shorter xs [] (length xs) (omega arith) }
