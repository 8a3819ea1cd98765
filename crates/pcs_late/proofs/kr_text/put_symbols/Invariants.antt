use Rattle.std.proofs.Common.{◌≡◌, ◌+◌, ◌*◌, ◌++◌, length}
use Rattle.pcs_late.proofs.KrLemmas.{digits_before}
use Rattle.pcs_late.proofs.kr_text.put_symbols.Given as goal

abbrev pub invariant-loop-i : goal.invariant-loop-i
invariant-loop-i l = (l.text.items ≡ l.fn.text.items ++ digits_before l.word l.i) × (length l.text.items ≡ length l.fn.text.items + 3 * l.i)
