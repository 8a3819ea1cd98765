use Rattle.std.proofs.Common.{refl, subst}
use Rattle.std.specs.Io.KnownBytes.{Appends}
use Rattle.pcs_io.specs.Octets.{AppendsFront}
use Rattle.pcs_drive.specs.Seen.{seen}
use Rattle.pcs_drive.proofs.WritingLemmas.{wrote-none}
use Rattle.pcs_late.specs.Packing.{records_text}
use Rattle.pcs_late.proofs.Packed.{no-frames, packed, header-failed}
use Rattle.pcs_late.proofs.packer.pcap_write_opened.Goals as goal

pub returns-in-Err : goal.returns-in-Err
returns-in-Err g c =
    let around = seen g.R.Source.told g.R.Source.ended g.R.Source.faults g.W.Sink.held g.W.Sink.faults
    c.args.source.now c.args.source.now c.args.sink.now c.put_all.new.sink in
    header-failed around refl c.in-Err.ensures.cause.failed (subst (AppendsFront _ _) c.pcap_header.ensures c.in-Err.ensures.err)

pub returns : goal.returns
returns g c =
    let around = seen g.R.Source.told g.R.Source.ended g.R.Source.faults g.W.Sink.held g.W.Sink.faults
    c.args.source.now c.drive_lines.new.source c.args.sink.now c.drive_lines.new.sink in
    packed around _ _ c.put_all.ensures.cause.later (subst (Appends _ _) c.pcap_header.ensures c.in_default.ensures.ok) c.drive_lines.result
    (c.drive_lines.ensures records_text (g.W.Sink.held c.put_all.new.sink) (λ parsers. refl) (wrote-none _ _ _ no-frames c.new-output.ensures))
