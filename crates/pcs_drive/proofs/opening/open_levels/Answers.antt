use Rattle.std.proofs.Common.{◌^◌, Err, ap, refl}
use Rattle.pcs_io.specs.Captures.{opened}
use Rattle.pcs_drive.specs.Seen.{reads_only}
use Rattle.pcs_drive.proofs.Opened.{levels-refused, levels-opened}
use Rattle.pcs_drive.proofs.opening.open_levels.Goals as goal

pub returns-in-Ok-levels_header-clause-ok : goal.returns-in-Ok-levels_header-clause-ok
returns-in-Ok-levels_header-clause-ok g c =
    let told = c.in-Ok-levels_header.ensures.answers (opened (2 ^ 40)) c.in-Ok.ensures.stands in
    levels-opened c.levels_header.new.self c.in-Ok-levels_header.header _ _ (g.R.Source.ended c.levels_header.new.source) told.0 told.1 told.2 (c.in-Ok-levels_header.ensures.asks (opened (2 ^ 40)) c.in-Ok.ensures.stands)
    c.in-Ok-levels_header.ensures.front c.in-Ok-levels_header.ensures.ahead c.in-Ok-levels_header.ensures.waits

pub returns-in-Err-levels_header-clause-err : goal.returns-in-Err-levels_header-clause-err
returns-in-Err-levels_header-clause-err g c = λ text held writes.
    let told = c.in-Err-levels_header.ensures.answers (opened (2 ^ 40)) c.in-Ok.ensures.stands in
    let around = reads_only g.R.Source.told g.R.Source.ended g.R.Source.faults c.args.source.now c.levels_header.new.source held writes in
    rw c.from.ensures (levels-refused text around told.0 c.in-Err-levels_header.fault told.1 (λ read. c.in-Err-levels_header.ensures.read (ap (λ f. Err f) read)) refl)
