use Rattle.std.proofs.Common.{ap, sym, ◌∙◌, Ok}
use Rattle.pcs_io.proofs.DigitGroups.{group-decodes}
use Rattle.pcs_io.proofs.hex_groups.decode_group.Goals as goal

pub returns-in-Ok : goal.returns-in-Ok
returns-in-Ok c = λ _. group-decodes c.args.digits.now _ c.requires.digits c.in-Ok.ensures.bytes ∙ ap Ok (sym c.as_bytes.ensures ∙ sym c.copy_from_slice.ensures.after)
