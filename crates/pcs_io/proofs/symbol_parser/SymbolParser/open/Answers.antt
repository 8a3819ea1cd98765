use Rattle.std.proofs.Common.{◌≡◌, ℕ, length, replicate, refl, arith, ap, ◌∙◌}
use Rattle.std.proofs.lemmas.List.{get_or-replicate, length-replicate}
use Rattle.pcs_io.proofs.symbol_parser.SymbolParser.open.Goals as goal

pub invariant_of-result : goal.invariant_of-result
invariant_of-result c =
    let zeros : c.in_ok-new-2.field-0.value ≡ replicate 528 0 = c.in_ok-new-2.ensures.ok in
    let none : length c.in_ok-new.field-0.value.items ≡ 0 = ap (λ v. length v.items) c.in_ok-new.ensures.ok ∙ ap length c.new.ensures in
    rw zeros (
      λ k low. absurd (omega (arith, low, none)),
      length-replicate {A = ℕ} 528 0,
      λ k low. omega (arith, get_or-replicate {A = ℕ} 528 k 0 0 (omega (arith, low, length-replicate {A = ℕ} 528 0))),
      refl,
    )
