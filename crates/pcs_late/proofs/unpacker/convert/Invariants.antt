use Rattle.std.proofs.Common.{◌≤◌, IsSome}
use Rattle.pcap_frames.specs.Histories.{octets_ahead}
use Rattle.pcs_late.proofs.Unpacked.{Unpacking}
use Rattle.pcs_late.proofs.unpacker.convert.Given as goal

abbrev pub invariant-loop-reader : goal.invariant-loop-reader
invariant-loop-reader g l = let left = g.R.Source.told in let held = g.W.Sink.held in
    record {
      unpacking : Unpacking l.gap l.fn.reader.short l.reader (left l.fn.source) (left l.source) (held l.fn.sink) (held l.sink) l.output;
      some : IsSome l.reader.order;
      reads : g.R.Source.faults l.fn.source ≤ g.R.Source.faults l.source;
      writes : g.W.Sink.faults l.fn.sink ≤ g.W.Sink.faults l.sink;
    }

abbrev pub decreases-loop-reader : goal.decreases-loop-reader
decreases-loop-reader g l = octets_ahead l.reader
