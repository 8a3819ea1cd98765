use Rattle.std.proofs.Common.{◌≡◌, ℕ, ◌-◌, ◌<◌, length, get_or}
use Rattle.gf1024.specs.Symbol.{symbol, zero_symbol}
use Rattle.pcs_late.proofs.kr_text.word_of.Given as goal

abbrev pub invariant-loop-i : goal.invariant-loop-i
invariant-loop-i g l =
    (length l.word ≡ length l.symbols)
    × ((k : ℕ) → k < l.i → get_or l.word k zero_symbol ≡ symbol (get_or l.symbols (length l.symbols - 1 - k) 0))
