-- What a call does to a reader's state, as a call over every history.
use Rattle.std.proofs.Common.{◌≡◌, ℕ, ◌+◌, ◌<◌, inl, inr, Bool, true, false, List, [], ◌∷◌, ◌++◌, length, ◌≤◌, Option, Some, None, Result, Ok, Err, sym, ◌∙◌, ap, subst, refl, IsSome, append-nil, length-append, arith}
use Rattle.pcs_io.specs.Octets.{Told}
use Rattle.pcs_io.specs.Buffering.{BufferState}
use Rattle.pcs_io.specs.Reading.{TakesAll}
use Rattle.pcs_io.specs.Histories.{Ends}
use Rattle.pcap_frames.specs.declared.number.Order.{Order}
use Rattle.pcap_frames.specs.declared.fault.PcapFault.{PcapFault}
use Rattle.pcap_frames.specs.declared.fault.PcapFault.TheVariants as fault
use Rattle.pcap_frames.specs.declared.reader.Standing.{Standing}
use Rattle.pcap_frames.specs.declared.reader.Standing.TheVariants as reader
use Rattle.pcap_frames.specs.Pcap.{record_at, Record, Begins, Opens}
use Rattle.pcap_frames.specs.Finding.{NextFault, IsReadOpen}
use Rattle.pcap_frames.specs.Histories.{PcapState, History, Going, Stands, StandsAt, Tells, Advances, Calls, Keeps, Nexts, IsNearerEnd, told, answer_of}
use Rattle.pcap_frames.proofs.Fronts.{record-more, record-shorter, record-fits, header-more}

pub begins-more : (order : Order) (short : Bool) (xs : List ℕ) (frames : List (List ℕ)) (rest more : List ℕ) → Begins order short xs frames rest → Begins order short (xs ++ more) frames (rest ++ more)
begins-more order short xs [] rest more b = ap (λ s. s ++ more) b
begins-more order short xs (frame ∷ frames) rest more b =
    (b.0 ++ more, record-more order short xs more frame b.0 b.1, begins-more order short b.0 frames rest more b.2)

begins-record : (order : Order) (short : Bool) (xs : List ℕ) (frames : List (List ℕ)) (rest frame after : List ℕ) → Begins order short xs frames rest → record_at order short rest ≡ Record frame after
    → Begins order short xs (frames ++ frame ∷ []) after
begins-record order short xs [] rest frame after b e = (after, ap (record_at order short) b ∙ e, refl)
begins-record order short xs (first ∷ frames) rest frame after b e = (b.0, b.1, begins-record order short b.0 frames rest frame after b.2 e)

pub opens-more : (order : Order) (short : Bool) (xs : List ℕ) (frames : List (List ℕ)) (rest more : List ℕ) → Opens order short xs frames rest → Opens order short (xs ++ more) frames (rest ++ more)
opens-more order short xs frames rest more o = (o.0 ++ more, header-more xs more order o.0 o.1, begins-more order short o.0 frames rest more o.2)

opens-record : (order : Order) (short : Bool) (xs : List ℕ) (frames : List (List ℕ)) (rest frame after : List ℕ) → Opens order short xs frames rest → record_at order short rest ≡ Record frame after
    → Opens order short xs (frames ++ frame ∷ []) after
opens-record order short xs frames rest frame after o e = (o.0, o.1, begins-record order short o.0 frames rest frame after o.2 e)

-- a reader that goes on, and the history for which it stands
record Begun (order : Order) (x : PcapState) (h : History) : Type 0 where
  pub limit : x.buffer.limit ≡ h.limit
  pub taken : x.buffer.taken ≡ length h.octets
  pub short : x.short ≡ h.short
  pub records : x.records ≡ length h.frames
  pub tells : x.order ≡ Some order
  pub opens : Opens order h.short h.octets h.frames x.buffer.unused

taken-got : (order : Order) (x y : PcapState) (h : History) (got : List ℕ) → Begun order x h → y.buffer.taken ≡ x.buffer.taken + length got → y.buffer.taken ≡ length (h.octets ++ got)
taken-got order x y h got b e = omega (arith, e, b.taken, length-append h.octets got)

-- no more is taken than the limit
abbrev IsWithin : PcapState → Type 0
IsWithin x = x.buffer.taken ≤ x.buffer.limit

within-got : (order : Order) (x y : PcapState) (h : History) (got : List ℕ) → Begun order x h → y.buffer.taken ≡ x.buffer.taken + length got → y.buffer.limit ≡ x.buffer.limit
    → IsWithin y → length (h.octets ++ got) ≤ h.limit
within-got order x y h got b taken limit within = omega (arith, taken, limit, within, b.taken, b.limit, length-append h.octets got)

opens-got : (order : Order) (x : PcapState) (h : History) (got : List ℕ) → Begun order x h → Opens order h.short (h.octets ++ got) h.frames (x.buffer.unused ++ got)
opens-got order x h got b = opens-more order h.short h.octets h.frames x.buffer.unused got b.opens

ends : (old new : BufferState) (before now : Told) (ended : Bool) (got : List ℕ) → TakesAll old new before now ended got → Ends before now ended got
ends old new before now ended got t = record { source = t.source; nothing = t.nothing; over = t.over }

below-limit : (order : Order) (old new : PcapState) (h : History) (before now : Told) (ended : Bool) (got : List ℕ) → Begun order old h
    → TakesAll old.buffer new.buffer before now ended got → length (h.octets ++ got) < h.limit
below-limit order old new h before now ended got b t = omega (arith, b.taken, b.limit, t.taken, t.limit, t.below, length-append h.octets got)

-- the state says this of the calls
at-order : (o : Option Order) (order : Order) (s t : Standing) (h : History) (unused : List ℕ) → o ≡ Some order → s ≡ t → StandsAt (Some order) t h unused → StandsAt o s h unused
at-order o order s t h unused e f at = subst (λ p. StandsAt p s h unused) (sym e) (subst (λ r. StandsAt (Some order) r h unused) (sym f) at)

record-told : (order : Order) (old new : PcapState) (h : History) (before now : Told) (ended : Bool) → Begun order old h → h.course ≡ Going → Keeps old new
    → Advances order old new before now ended (Ok true) → Tells Going order h old new before now ended (Ok (Some new.piece))
record-told order old new h before now ended b going k a =
    let next = a.0 in
    let opens : Opens order h.short (h.octets ++ next.0) (h.frames ++ new.piece ∷ []) new.buffer.unused =
    opens-record order h.short (h.octets ++ next.0) h.frames (old.buffer.unused ++ next.0) new.piece new.buffer.unused (opens-got order old h next.0 b)
    (ap (λ s. record_at order s (old.buffer.unused ++ next.0)) (sym b.short) ∙ next.2) in (
      next.0,
      (next.1.source, new.buffer.unused, opens),
      record {
        limit = next.1.limit ∙ b.limit;
        taken = taken-got order old new h next.0 b next.1.taken;
        within = within-got order old new h next.0 b next.1.taken next.1.limit a.1;
        short = k.short ∙ b.short;
        records = omega (arith, a.2, b.records, length-append h.frames (new.piece ∷ []));
        at = at-order new.order order new.standing reader.Going (told h next.0 (Ok (Some new.piece))) new.buffer.unused (k.order ∙ b.tells) a.3 (going, opens);
      },
    )

end-told : (order : Order) (old new : PcapState) (h : History) (before now : Told) (ended : Bool) → Begun order old h → Keeps old new
    → Advances order old new before now ended (Ok false) → Tells Going order h old new before now ended (Ok None)
end-told order old new h before now ended b k a = (
  [],
  (ends _ _ before now ended [] a.1, below-limit order old new h before now ended [] b a.1, subst (λ rest. Opens order h.short (h.octets ++ []) h.frames rest) (append-nil old.buffer.unused ∙ a.0) (opens-got order old h [] b)),
  record {
    limit = a.1.limit ∙ b.limit;
    taken = taken-got order old new h [] b a.1.taken;
    within = within-got order old new h [] b a.1.taken a.1.limit (omega (arith, a.1.below));
    short = k.short ∙ b.short;
    records = a.2 ∙ b.records;
    at = at-order new.order order new.standing reader.Ended (told h [] (Ok None)) new.buffer.unused (k.order ∙ b.tells) a.3 refl;
  },
)

failed : (order : Order) (old new : PcapState) (h : History) (got : List ℕ) (fault : PcapFault) → IsWithin new → Begun order old h → Keeps old new
    → new.buffer.taken ≡ old.buffer.taken + length got → new.buffer.limit ≡ old.buffer.limit → new.records ≡ old.records → new.standing ≡ reader.Failed fault → Stands new (told h got (Err fault))
failed order old new h got fault most b k taken limit records standing = record {
  limit = limit ∙ b.limit;
  taken = taken-got order old new h got b taken;
  within = within-got order old new h got b taken limit most;
  short = k.short ∙ b.short;
  records = records ∙ b.records;
  at = at-order new.order order new.standing (reader.Failed fault) (told h got (Err fault)) new.buffer.unused (k.order ∙ b.tells) standing refl;
}

-- the record is looked at with what the history says of cut ones
at-history : (order : Order) (old : PcapState) (h : History) (got : List ℕ) (b : Begun order old h) → record_at order h.short (old.buffer.unused ++ got) ≡ record_at order old.short (old.buffer.unused ++ got)
at-history order old h got b = ap (λ s. record_at order s (old.buffer.unused ++ got)) (sym b.short)

fault-told : (order : Order) (old new : PcapState) (h : History) (before now : Told) (ended : Bool) (fault : PcapFault) → IsWithin new → Begun order old h → Keeps old new
    → NextFault (record_at order old.short) old.records old.buffer new.buffer before now ended fault → new.records ≡ old.records → new.standing ≡ reader.Failed fault
    → Tells Going order h old new before now ended (Err fault)
fault-told order old new h before now ended fault.Read most b k f records standing = (
  f.0,
  (f.1.source, (old.buffer.unused ++ f.0, opens-got order old h f.0 b, at-history order old h f.0 b ∙ f.2)),
  failed order old new h f.0 fault.Read most b k f.1.taken f.1.limit records standing,
)
fault-told order old new h before now ended (fault.BadHeader bad) most b k f records standing = absurd f
fault-told order old new h before now ended (fault.BadRecord number kind) most b k (same, inl r) records standing = (
  r.0,
  (same ∙ ap (λ n. n + 1) b.records, inl (r.1.source, old.buffer.unused ++ r.0, opens-got order old h r.0 b, at-history order old h r.0 b ∙ r.2, r.3)),
  failed order old new h r.0 (fault.BadRecord number kind) most b k r.1.taken r.1.limit records standing,
)
fault-told order old new h before now ended (fault.BadRecord number kind) most b k (same, inr r) records standing = (
  r.1,
  (same ∙ ap (λ n. n + 1) b.records, inr (r.0, ends _ _ before now ended r.1 r.2, below-limit order old new h before now ended r.1 b r.2, old.buffer.unused ++ r.1, opens-got order old h r.1 b, at-history order old h r.1 b ∙ r.3, r.4)),
  failed order old new h r.1 (fault.BadRecord number kind) most b k r.2.taken r.2.limit records standing,
)
fault-told order old new h before now ended fault.TooLong most b k f records standing = (
  f.0,
  (f.1.source, omega (arith, b.taken, b.limit, f.1.taken, f.1.limit, f.3, length-append h.octets f.0), (old.buffer.unused ++ f.0, opens-got order old h f.0 b, at-history order old h f.0 b ∙ f.2)),
  failed order old new h f.0 fault.TooLong most b k f.1.taken f.1.limit records standing,
)

going-told : (order : Order) (old new : PcapState) (h : History) (before now : Told) (ended : Bool) (r : Result Bool PcapFault) → IsWithin new → Begun order old h → h.course ≡ Going → Keeps old new
    → Advances order old new before now ended r → Tells Going order h old new before now ended (answer_of r new.piece)
going-told order old new h before now ended (Ok true) most b going k a = record-told order old new h before now ended b going k a
going-told order old new h before now ended (Ok false) most b going k a = end-told order old new h before now ended b k a
going-told order old new h before now ended (Err fault) most b going k a = fault-told order old new h before now ended fault most b k a.0 a.1 a.2

begun : (order : Order) (old : PcapState) (h : History) → Stands old h → old.order ≡ Some order → Opens order h.short h.octets h.frames old.buffer.unused → Begun order old h
begun order old h s o opens = record { limit = s.limit; taken = s.taken; short = s.short; records = s.records; tells = o; opens = opens }

same-answer : (r s : Result Bool PcapFault) (frame : List ℕ) (a : Result (Option (List ℕ)) PcapFault) → r ≡ s → answer_of s frame ≡ a → answer_of r frame ≡ a
same-answer r s frame a e f = ap (λ x. answer_of x frame) e ∙ f

told-at : (standing : Standing) (order : Order) (old new : PcapState) (h : History) (before now : Told) (ended : Bool) (r : Result Bool PcapFault)
    → IsWithin new → Stands old h → old.order ≡ Some order → StandsAt (Some order) standing h old.buffer.unused → Keeps old new → Calls standing order old new before now ended r
    → Tells h.course order h old new before now ended (answer_of r new.piece)
told-at reader.Going order old new h before now ended r most s o at k a =
    subst (λ course. Tells course order h old new before now ended (answer_of r new.piece)) (sym at.0) (going-told order old new h before now ended r most (begun order old h s o at.1) at.0 k a)
told-at reader.Ended order old new h before now ended r most s o at k a =
    subst (λ course. Tells course order h old new before now ended (answer_of r new.piece)) (sym at) (same-answer r (Ok false) new.piece (Ok None) a.0 refl, a.1, a.2)
told-at (reader.Failed fault) order old new h before now ended r most s o at k a =
    subst (λ course. Tells course order h old new before now ended (answer_of r new.piece)) (sym at) (same-answer r (Err fault) new.piece (Err fault) a.0 refl, a.1, a.2)

nearer-at : (standing : Standing) (order : Order) (old new : PcapState) (before now : Told) (ended : Bool) (r : Result Bool PcapFault) → Calls standing order old new before now ended r
    → IsNearerEnd old new (answer_of r new.piece)
nearer-at reader.Going order old new before now ended (Ok true) a =
    omega (arith, a.0.1.taken, a.0.1.limit, a.1, record-shorter order old.short (old.buffer.unused ++ a.0.0) new.piece new.buffer.unused a.0.2, length-append old.buffer.unused a.0.0)
nearer-at reader.Ended order old new before now ended (Ok true) a = absurd (cc)
nearer-at (reader.Failed fault) order old new before now ended (Ok true) a = absurd (cc)
nearer-at standing order old new before now ended (Ok false) a = tt
nearer-at standing order old new before now ended (Err fault) a = tt

stands-at : (old : PcapState) (h : History) (order : Order) → Stands old h → old.order ≡ Some order → StandsAt (Some order) old.standing h old.buffer.unused
stands-at old h order s o = subst (λ p. StandsAt p old.standing h old.buffer.unused) o s.at

pub nexts : (order : Order) (old new : PcapState) (before now : Told) (ended : Bool) (r : Result Bool PcapFault) → old.order ≡ Some order → Keeps old new
    → ((o : Order) → old.order ≡ Some o → Calls old.standing o old new before now ended r)
    → ((o : Order) → old.order ≡ Some o → IsReadOpen (record_at o old.short) old.buffer.unused before now) → IsWithin new → Nexts old new before now ended (answer_of r new.piece)
nexts order old new before now ended r is k a asks most = record {
  history = λ h o s e. told-at old.standing o old new h before now ended r most s e (stands-at old h o s e) k (a o e);
  order = k.order;
  nearer = nearer-at old.standing order old new before now ended r (a order is);
  asks = asks;
}

pub some-order : (o : Option Order) → IsSome o → (order : Order) × (o ≡ Some order)
some-order None is = absurd (cc)
some-order (Some order) is = (order, refl)

pub advances : (old new : PcapState) (before now : Told) (ended : Bool) (r : Result Bool PcapFault) (o : Order) → old.standing ≡ reader.Going → old.order ≡ Some o
    → Advances o old new before now ended r → (order : Order) → old.order ≡ Some order → Calls old.standing order old new before now ended r
advances old new before now ended r o going is a order e =
    let both : Some o ≡ Some order = sym is ∙ e in
    let same : o ≡ order = cc in
    subst (λ s. Calls s order old new before now ended r) (sym going) (subst (λ p. Advances p old new before now ended r) same a)

-- the reader knows one order
pub order-asked : (known : Option Order) (short : Bool) (unused : List ℕ) (before now : Told) (o : Order) → known ≡ Some o → IsReadOpen (record_at o short) unused before now
    → (order : Order) → known ≡ Some order → IsReadOpen (record_at order short) unused before now
order-asked known short unused before now o is asked order e =
    let both : Some o ≡ Some order = sym is ∙ e in
    let same : o ≡ order = cc in
    subst (λ p. IsReadOpen (record_at p short) unused before now) same asked

fits-true : (standing : Standing) (order : Order) (old new : PcapState) (before now : Told) (ended : Bool) → Calls standing order old new before now ended (Ok true) → length new.piece ≤ 16384
fits-true reader.Going order old new before now ended a = record-fits order old.short (old.buffer.unused ++ a.0.0) new.piece new.buffer.unused a.0.2
fits-true reader.Ended order old new before now ended a = absurd (cc)
fits-true (reader.Failed fault) order old new before now ended a = absurd (cc)

pub fits-call : (order : Order) (old new : PcapState) (before now : Told) (ended : Bool) (r : Result Bool PcapFault) → r ≡ Ok true
    → Calls old.standing order old new before now ended r → length new.piece ≤ 16384
fits-call order old new before now ended r is a = fits-true old.standing order old new before now ended (subst (Calls old.standing order old new before now ended) is a)
