use Rattle.std.proofs.Common.{◌-◌, ◌++◌, ◌∙◌, inl, inr, sym, ap, drop, length, get_or, arith, length-append, length-drop, get_or-drop}
use Rattle.std.proofs.lemmas.Bool.{cases_lt}
use Rattle.std.proofs.lemmas.List.{ext_get_or, get_or_append_left, get_or-append_right}
use Rattle.pcs_c.proofs.block.put_tail.Goals as goal

pub returns-clause-octets : goal.returns-clause-octets
returns-clause-octets c =
    let inv = c.loop-i.invariant in
    let tail = c.args.tail.now in
    let old = c.args.octets.now in
    let n = length tail in
    let count = c.count-i-end.ensures in
    let sizes = length-append tail (drop n old) in
    ext_get_or 0 c.loop-i.octets (tail ++ drop n old) (omega (arith, inv.long, sizes, length-drop n old, c.told-octets, count.within, count.count))
    (λ k low.
    elim (cases_lt k n) [
      | inl less ↦ inv.first k (omega (arith, count.count)) ∙ sym (get_or_append_left tail (drop n old) 0 k less)
      | inr more ↦
          inv.rest k (omega (arith, more, count.count))
          ∙ ap (λ m. get_or old m 0) (omega (arith, more))
          ∙ sym (get_or-drop n old (k - n) 0)
          ∙ sym (get_or-append_right tail (drop n old) n k 0 (omega arith) (omega (arith, more)))
    ])
