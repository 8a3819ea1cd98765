use Rattle.std.proofs.Common.{ℕ, ◌++◌, length, take, drop, length-drop, length-append, replicate, List, arith, ap, sym, ◌∙◌, Ok}
use Rattle.std.proofs.lemmas.List.{length-replicate}
use Rattle.uuid.specs.Text.{parsed}
use Rattle.pcs_io.proofs.DigitGroups.{few-decode}
use Rattle.pcs_io.proofs.hex_groups.decode_few.Goals as goal

pub returns-in-Ok : goal.returns-in-Ok
returns-in-Ok c = λ _.
    let zeros : List ℕ = replicate 32 48 in
    let n = length c.args.digits.now in
    few-decode c.args.digits.now (drop n zeros) c.in-Ok.group (length c.args.octets.now) c.requires.digits c.requires.octets
    (omega (arith, length-append c.args.digits.now (drop n zeros), length-drop n zeros, length-replicate {A = ℕ} 32 48, c.requires.digits, c.requires.octets))
    (c.in-Ok.ensures.bytes ∙ ap (λ t. parsed (t ++ drop n zeros)) c.copy_from_slice.ensures.after)
    ∙ ap Ok (ap (take (length c.args.octets.now)) (sym c.as_bytes.ensures) ∙ sym c.copy_from_slice-in-Ok.ensures.after)
