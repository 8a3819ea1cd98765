use Rattle.std.proofs.Common.{◌^◌, Err, ap, refl}
use Rattle.pcs_io.specs.Captures.{opened}
use Rattle.pcs_drive.specs.Seen.{reads_only}
use Rattle.pcs_drive.proofs.Opened.{header-refused, header-opened}
use Rattle.pcs_drive.proofs.opening.open_capture.Goals as goal

pub returns-in-Ok-header-clause-ok : goal.returns-in-Ok-header-clause-ok
returns-in-Ok-header-clause-ok g c =
    let told = c.in-Ok-header.ensures.answers (opened (2 ^ 40)) c.in-Ok.ensures.stands in
    header-opened c.header.new.self c.in-Ok-header.header _ _ (g.R.Source.ended c.header.new.source) told.0 told.1 told.2 (c.in-Ok-header.ensures.asks (opened (2 ^ 40)) c.in-Ok.ensures.stands)
    c.in-Ok-header.ensures.front c.in-Ok-header.ensures.ahead c.in-Ok-header.ensures.waits

pub returns-in-Err-clause-err : goal.returns-in-Err-clause-err
returns-in-Err-clause-err g c = λ text held writes.
    let told = c.in-Err.ensures.answers (opened (2 ^ 40)) c.in-Ok.ensures.stands in
    let around = reads_only g.R.Source.told g.R.Source.ended g.R.Source.faults c.args.source.now c.header.new.source held writes in
    rw c.from.ensures (header-refused text around told.0 c.in-Err.fault told.1 (λ read. c.in-Err.ensures.read (ap (λ f. Err f) read)) refl)
