use Rattle.std.proofs.Common.{ℕ, [], sym, subst, false}
use Rattle.pcs_io.specs.Captures.{History}
use Rattle.pcs_io.specs.declared.header.Header.{Header}
use Rattle.pcs_drive.specs.Seen.{seen}
use Rattle.pcs_drive.specs.CaptureCommand.{HasHeader, FromBeats}
use Rattle.pcs_top.specs.Decoding.{good_text}
use Rattle.pcs_top.specs.EventTexts.{HasBegun, IsListening}
use Rattle.pcs_top.specs.Statuses.{ByOutcome}
use Rattle.pcs_top.proofs.Headlines.{headline, any_damage, complete}
use Rattle.pcs_top.proofs.GoodFrames.{TellsFrames, good-start, good-grows, good-none}
use Rattle.pcs_top.proofs.decode.decode_opened.Goals as goal

pub returns : goal.returns
returns g c =
    let around = seen g.R.Source.told g.R.Source.ended g.R.Source.faults g.W.Sink.held g.W.Sink.faults
    c.args.source.now c.drive.new.source c.args.sink.now c.drive.new.sink in
    let answers : (h : History) (header : Header) (period skew : ℕ) → HasHeader c.args.beats.now h header → HasBegun c.args.receiver.now period skew false
    → ByOutcome (FromBeats (good_text period skew) h.octets h.limit header around) c.from.result = λ h header period skew has begun.
    let start = g.W.Sink.held c.args.sink.now in
    let listening = c.new-listening.result in
    let fresh = subst (λ x. HasBegun x period skew false) (sym c.new-listening.ensures.receiver) begun in (
      c.drive.result,
      c.from.ensures,
      c.drive.ensures.captures h header (good_text period skew) start has (record {
        keeps = subst (λ aligned. IsListening TellsFrames listening.receiver.now listening.teller aligned (good_text period skew) []) (sym c.new-listening.ensures.aligned)
            (good-start listening.teller listening.receiver.now period skew start fresh);
        grows = good-grows period skew;
        wrote = good-none period skew listening.receiver.now start _ fresh c.new-output.ensures;
      }),
    ) in record {
      answers = answers;
      headline = λ h header period skew has begun. headline h.octets h.limit header period skew around c.from.result (answers h header period skew has begun);
      any_damage = λ h header period skew has begun. any_damage h.octets h.limit header period skew around c.from.result (answers h header period skew has begun);
      complete = λ h header period skew has begun. complete h.octets h.limit header period skew around c.from.result (answers h header period skew has begun);
    }
