use Rattle.std.proofs.Common.{[], length, ◌≤◌, sym, refl, subst, append-nil, inl}
use Rattle.lane_impair.specs.Histories.{opened}
use Rattle.pcs_io.specs.Captures.{Opens}
use Rattle.pcs_io.proofs.Told.{gives-none, takes-consumed}
use Rattle.pcs_drive.specs.Seen.{seen}
use Rattle.pcs_top.specs.Impairing.{header_octets_of, impairing}
use Rattle.pcs_top.proofs.HeaderRanges.{header-read}
use Rattle.pcs_top.proofs.Impairing.{impairing-grows}
use Rattle.pcs_top.proofs.GivingBeats.{begins, all-ready, breaks-ready, written-before}
use Rattle.pcs_top.proofs.impair.impair_opened.Goals as goal

pub text_of-output-requires : goal.text_of-output-requires
text_of-output-requires g c = let (h, has) = c.requires.header in header-read h.octets c.args.header.now has.begins.1.0 has.begins.1.1

pub returns-in-Ok : goal.returns-in-Ok
returns-in-Ok g c = λ h items has each stands.
    let header = c.args.header.now in
    let start = g.W.Sink.held c.args.sink.now in
    let begun = begins items each header start _ _ stands c.text_of-output.ensures in
    let (given, now, last) = c.in-Ok.ensures.ok (opened items) (header_octets_of header) start begun in
    let (keeps, wrote) = all-ready (impairing items header) header [] start _ _ items _ given each refl now last in
    let around = seen g.R.Source.told g.R.Source.ended g.R.Source.faults g.W.Sink.held g.W.Sink.faults
    c.args.source.now c.drive.new.source c.args.sink.now c.drive.new.sink in
    written-before (impairing items header) h.octets h.limit header around _ c.put_next.ensures.cause.later c.drive.result
    (c.drive.ensures.captures h header (impairing items header) start has (record { keeps = keeps; grows = impairing-grows items each header; wrote = wrote }))

pub returns : goal.returns
returns g c = λ h items has each stands.
    let header = c.args.header.now in
    let start = g.W.Sink.held c.args.sink.now in
    let begun = begins items each header start _ _ stands c.text_of-output.ensures in
    let told = g.R.Source.told c.args.source.now in
    let (given, come, front) = c.in-Err.ensures.err (opened items) (header_octets_of header) start begun in (
      [],
      c.in-Err.ensures.cause.failed,
      inl (
        [],
        has.begins.0,
        takes-consumed told told [] (gives-none told),
        subst (λ o. length o ≤ h.limit) (sym (append-nil h.octets)) has.stands.read.within,
        subst (λ o. Opens o header [] has.begins.0) (sym (append-nil h.octets)) has.begins.1,
        breaks-ready (impairing items header) header [] start _ [] items given each refl come front,
      ),
      inl refl,
    )
