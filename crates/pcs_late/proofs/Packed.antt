-- Frame text that becomes a pcap file.
use Rattle.std.proofs.Common.{◌≡◌, ℕ, ◌≤◌, inl, inr, List, [], ◌∷◌, ◌++◌, take, Option, Some, None, IfSome, refl, sym, ◌∙◌, ap, subst, append_assoc, append-nil, arith}
use Rattle.std.specs.Io.KnownBytes.{Appends}
use Rattle.std.proofs.lemmas.List.Concat.{flat_map-append}
use Rattle.pcs_io.specs.Octets.{AppendsFront, TakesWhereTold}
use Rattle.pcs_io.specs.TextLines.{text_line_at}
use Rattle.pcs_io.proofs.Progress.{fresh-near}
use Rattle.pcs_io.proofs.Told.{gives-none, takes-consumed}
use Rattle.pcap_frames.specs.Pcap.{header_octets, pcap_octets, record_octets}
use Rattle.pcs_io.specs.declared.fault.Kind.{Kind}
use Rattle.pcs_drive.specs.Seen.{Seen, TookAll, Written, WriteFailed}
use Rattle.pcs_drive.specs.LineCommand.{Converted, IsRefused, KeptUp}
use Rattle.pcs_drive.specs.declared.outcome.Outcome.{Outcome}
use Rattle.pcs_drive.specs.declared.outcome.Outcome.TheVariants.{Done, ReadFault, WriteFault, BadLine, TooLong}
use Rattle.pcs_drive.proofs.Copying.{rose-after}
use Rattle.pcs_drive.proofs.WritingLemmas.{front-more, wrote-front}
use Rattle.pcs_late.specs.Packing.{records_text, AppendsFirst, Packed}

pub no-frames : records_text [] ≡ []
unfolding records_text
no-frames = refl

pub one-frame : (frames : List (List ℕ)) (frame : List ℕ) → records_text (frames ++ frame ∷ []) ≡ records_text frames ++ record_octets frame
unfolding records_text
one-frame frames frame = flat_map-append record_octets frames (frame ∷ []) ∙ ap (λ t. records_text frames ++ t) (append-nil (record_octets frame))

behind : (frames : List (List ℕ)) → pcap_octets frames ≡ header_octets ++ records_text frames
unfolding records_text
behind frames = refl

-- some text is written behind the first one
written-behind : (before mid after : Option (List ℕ)) (first text whole : List ℕ) → whole ≡ first ++ text → Appends before mid first
    → IfSome mid (λ b. IfSome after (λ a. a ≡ b ++ text)) → IfSome before (λ b. IfSome after (λ a. a ≡ b ++ whole)) × AppendsFirst before after first
written-behind None mid after first text whole is a w = (tt, tt)
written-behind (Some before) None after first text whole is a w = absurd a
written-behind (Some before) (Some mid) None first text whole is a w = (tt, tt)
written-behind (Some before) (Some mid) (Some after) first text whole is a w =
    let all = w ∙ ap (λ h. h ++ text) a in (all ∙ append_assoc before first text ∙ ap (λ t. before ++ t) (sym is), (text, all))

-- or a front of it
front-behind : (before mid after : Option (List ℕ)) (first text whole : List ℕ) → whole ≡ first ++ text → Appends before mid first
    → AppendsFront mid after text → AppendsFront before after whole × AppendsFirst before after first
front-behind before mid after first text whole is a f = (wrote-front before mid after whole text (record { written = first; appended = a; joined = is }) f, found before mid after a f)
  where
    found : (before mid after : Option (List ℕ)) → Appends before mid first → AppendsFront mid after text → AppendsFirst before after first
    found None mid after a f = tt
    found (Some before) None after a f = absurd a
    found (Some before) (Some mid) None a f = tt
    found (Some before) (Some mid) (Some after) a f = (take f.0 text, f.2 ∙ ap (λ h. h ++ take f.0 text) a)

-- or it and more
first-behind : (before mid after : Option (List ℕ)) (first text whole : List ℕ) → whole ≡ first ++ text → Appends before mid first
    → IfSome mid (λ b. IfSome after (λ a. (more : List ℕ) × (a ≡ b ++ (text ++ more)))) → IfSome before (λ b. IfSome after (λ a. (more : List ℕ) × (a ≡ b ++ (whole ++ more))))
first-behind None mid after first text whole is a w = tt
first-behind (Some before) None after first text whole is a w = absurd a
first-behind (Some before) (Some mid) None first text whole is a w = tt
first-behind (Some before) (Some mid) (Some after) first text whole is a w =
    let all : whole ++ w.0 ≡ first ++ (text ++ w.0) = ap (λ t. t ++ w.0) is ∙ append_assoc first text w.0 in
    (w.0, w.1 ∙ ap (λ h. h ++ (text ++ w.0)) a ∙ append_assoc before first (text ++ w.0) ∙ ap (λ t. before ++ t) (sym all))

module _ (seen : Seen) (mid : Option (List ℕ)) (writes : ℕ) (later : seen.writes_before ≤ writes) (a : Appends seen.held_before mid header_octets) where
  -- what is seen from the time on at which the header is written
  abbrev pub behind_header : Seen
  behind_header = record seen { held_before = mid; writes_before = writes }

  both : (frames : List (List ℕ)) → Written behind_header (records_text frames)
      → Written seen (pcap_octets frames) × AppendsFirst seen.held_before seen.held_after header_octets
  both frames w = written-behind seen.held_before mid seen.held_after header_octets (records_text frames) (pcap_octets frames) (behind frames) a w

  took-all : (octets : List ℕ) → TookAll behind_header octets → TookAll seen octets
  took-all octets t = record { took = t.took; nothing = t.nothing; ended = t.ended }

  refused : (octets : List ℕ) (frames : List (List ℕ)) (kind : Kind) → IsRefused text_line_at behind_header octets frames kind
      → IsRefused text_line_at seen octets frames kind
  refused octets frames kind (inl r) = inl r
  refused octets frames kind (inr r) = inr (r.0, took-all octets r.1, r.2, r.3)

  kept-up : KeptUp text_line_at records_text behind_header → KeptUp text_line_at pcap_octets seen
  kept-up (inl same) = inl same
  kept-up (inr (early, told, frames, over, first)) =
      inr (early, told, frames, over, first-behind seen.held_before mid seen.held_after header_octets (records_text frames) (pcap_octets frames) (behind frames) a first)

  pub packed : (outcome : Outcome) → Converted text_line_at records_text behind_header outcome → Packed seen outcome
  packed Done c = let w = both c.1 c.5 in record { converted = (c.0, c.1, took-all c.0 c.2, c.3, c.4, w.0); header_first = inr w.1 }
  packed ReadFault c = let w = both c.1 c.6 in record { converted = (c.0, c.1, c.2, c.3, c.4, c.5, w.0); header_first = inr w.1 }
  packed WriteFault c =
      let w = front-behind seen.held_before mid seen.held_after header_octets (records_text c.1) (pcap_octets c.1) (behind c.1) a c.8 in
      record { converted = (c.0, c.1, c.2, rose-after seen.writes_before writes seen.writes_after later c.3, c.4, c.5, c.6, c.7, w.0, kept-up c.9); header_first = inr w.1 }
  packed (BadLine number kind) c = let w = both c.1 c.4 in record { converted = (c.0, c.1, c.2, refused c.0 c.1 kind c.3, w.0); header_first = inr w.1 }
  packed TooLong c = let w = both c.1 c.5 in record { converted = (c.0, c.1, c.2, c.3, c.4, w.0); header_first = inr w.1 }
  packed outcome c = absurd c

-- the header couldn't be written, and nothing was taken
pub header-failed : (seen : Seen) → seen.told_after ≡ seen.told_before → WriteFailed seen → AppendsFront seen.held_before seen.held_after header_octets
    → Packed seen WriteFault
header-failed seen same rose front = record {
  converted = (
    [],
    [],
    [],
    rose,
    subst (λ o. TakesWhereTold seen.told_before o []) (sym same) (takes-consumed seen.told_before seen.told_before [] (gives-none seen.told_before)),
    omega arith,
    refl,
    fresh-near text_line_at [] (omega arith),
    front-more seen.held_before seen.held_after header_octets [] front,
    inl same,
  );
  header_first = inl same;
}
