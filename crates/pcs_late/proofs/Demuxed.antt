-- What `demux` writes, beat by beat.
use Rattle.std.proofs.Common.{◌≡◌, ℕ, ◌<◌, ◌⊎◌, inl, inr, Bool, true, List, [], ◌∷◌, ◌++◌, length, Option, Some, None, refl, sym, ◌∙◌, ap, subst, append_assoc, append-nil, length-append, arith}
use Rattle.std.specs.Prelude.{◌↔◌, IfSome, slice_index}
use Rattle.std.specs.List.{flat_map}
use Rattle.std.proofs.lemmas.List.Concat.{flat_map-append}
use Rattle.bit_lists.specs.Bits.{bits}
use Rattle.pma_link.specs.Levels.{stream_in, phased_lane, phased_beats, given_beats}
use Rattle.pma_link.specs.LevelLaws.{IsBeat}
use Rattle.pma_link.specs.Histories.{DemuxStands, given}
use Rattle.pma_link.specs.declared.demux.Demux.{Demux}
use Rattle.pma_link.proofs.PhasedBeats.{given_beats_go_on, phased_beats_end, given_beats_stay, none-given, no-phased-beats}
use Rattle.pcs_io.specs.Headers.{header2_octets}
use Rattle.pcs_io.specs.Octets.{AppendsFront}
use Rattle.pcs_io.specs.declared.levels_header.LevelsHeader.{LevelsHeader}
use Rattle.pcs_drive.specs.CaptureCommand.{BeatsText}
use Rattle.pcs_drive.specs.Tasks.{Meaning, HasPut, Grows}
use Rattle.pcs_drive.specs.Writing.{Wrote, Puts, BreaksOffBefore}
use Rattle.pcs_drive.proofs.WritingLemmas.{front-more}
use Rattle.pcs_late.specs.Demultiplexing.{under_header, demultiplexed, IsDemultiplexing}

-- more beats under the header
behind : (header : LevelsHeader) (beats all more : List (List ℕ)) → all ≡ beats ++ more
    → under_header header all ≡ under_header header beats ++ flat_map (λ beat. beat) more
behind header beats all more is =
    let front = header2_octets header.period header.skew in
    ap (under_header header) is
    ∙ ap (λ o. front ++ o) (flat_map-append (λ b. b) beats more)
    ∙ sym (append_assoc front (flat_map (λ b. b) beats) (flat_map (λ b. b) more))

one-behind : (header : LevelsHeader) (beats all : List (List ℕ)) (beat : List ℕ) → all ≡ beats ++ beat ∷ []
    → under_header header all ≡ under_header header beats ++ beat
one-behind header beats all beat is = behind header beats all (beat ∷ []) is ∙ ap (λ o. under_header header beats ++ o) (append-nil beat)

pub no-beats : (phase : ℕ) (header : LevelsHeader) → (demultiplexed phase header).so_far [] ≡ header2_octets header.period header.skew
no-beats phase header = ap (under_header header) (none-given header.precode phase [] (omega arith)) ∙ append-nil (header2_octets header.period header.skew)

pub demultiplexed-grows : (phase : ℕ) (header : LevelsHeader) → Grows (demultiplexed phase header)
demultiplexed-grows phase header taken more =
    let (rest, is) = given_beats_stay phase header.precode taken more in
    (flat_map (λ beat. beat) rest, behind header (given_beats header.precode phase taken) (given_beats header.precode phase (taken ++ more)) rest is)

-- some or none
none-or-some : (taken : List (List ℕ)) → (taken ≡ []) ⊎ (0 < length taken)
none-or-some [] = inl refl
none-or-some (beat ∷ taken) = inr (omega arith)

-- what a demultiplexer gives for a level beat
pub record Gives (old new : Demux) (beat : List ℕ) (answer : Option (List ℕ)) : Type 0 where
  pub none : (precode : Bool) (phase : ℕ) (taken : List (List ℕ)) → DemuxStands old precode phase taken → (answer ≡ None) ↔ (taken ≡ [])
  pub gives : (precode : Bool) (phase : ℕ) (taken : List (List ℕ)) → DemuxStands old precode phase taken
      → IfSome answer (λ given_beat. (l : ℕ) → l < 16
      → given phase precode (taken ++ beat ∷ []) l ≡ given phase precode taken l ++ bits 8 (slice_index given_beat l))
  pub stands : (precode : Bool) (phase : ℕ) (taken : List (List ℕ)) → DemuxStands old precode phase taken → DemuxStands new precode phase (taken ++ beat ∷ [])
  pub is : IfSome answer IsBeat

-- what it gives at the end
pub record Ends (old : Demux) (answer : Option (List ℕ)) : Type 0 where
  pub none : (precode : Bool) (phase : ℕ) (taken : List (List ℕ)) → DemuxStands old precode phase taken → (answer ≡ None) ↔ (taken ≡ [])
  pub gives : (precode : Bool) (phase : ℕ) (taken : List (List ℕ)) → DemuxStands old precode phase taken
      → IfSome answer (λ beat. (l : ℕ) → l < 16
      → phased_lane phase (stream_in precode taken) l ≡ given phase precode taken l ++ bits 8 (slice_index beat l))
  pub is : IfSome answer IsBeat

-- the octets that are given
abbrev pub octets_given : Option (List ℕ) → List ℕ
octets_given None = []
octets_given (Some beat) = beat

one-more : (old new : Demux) (beat : List ℕ) (answer : Option (List ℕ)) → Gives old new beat answer → (text : BeatsText) (taken : List (List ℕ))
    → IsDemultiplexing old text taken → text.so_far (taken ++ beat ∷ []) ≡ text.so_far taken ++ octets_given answer
one-more old new beat answer g text taken (phase, header, is, stands) =
    ap (λ (t : BeatsText). t.so_far (taken ++ beat ∷ [])) is ∙ by answer (g.none header.precode phase taken stands) (g.gives header.precode phase taken stands) g.is
    ∙ ap (λ (t : BeatsText). t.so_far taken ++ octets_given answer) (sym is)
  where
    by : (a : Option (List ℕ)) → (a ≡ None) ↔ (taken ≡ [])
        → IfSome a (λ given_beat. (l : ℕ) → l < 16
        → given phase header.precode (taken ++ beat ∷ []) l ≡ given phase header.precode taken l ++ bits 8 (slice_index given_beat l))
        → IfSome a IsBeat → (demultiplexed phase header).so_far (taken ++ beat ∷ []) ≡ (demultiplexed phase header).so_far taken ++ octets_given a
    by None none gives is =
        let empty : taken ≡ [] = none.0 refl in
        ap (under_header header) (none-given header.precode phase (taken ++ beat ∷ []) (omega (arith, length-append taken (beat ∷ []), ap length empty))
        ∙ sym (none-given header.precode phase taken (omega (arith, ap length empty))))
        ∙ sym (append-nil (under_header header (given_beats header.precode phase taken)))
    by (Some given_beat) none gives is = elim (none-or-some taken) [
      | inl empty ↦ absurd (let clash = none.1 empty in cc)
      | inr some ↦ one-behind header (given_beats header.precode phase taken) (given_beats header.precode phase (taken ++ beat ∷ [])) given_beat
          (given_beats_go_on phase header.precode taken beat given_beat some is gives)
    ]

last-one : (old : Demux) (answer : Option (List ℕ)) → Ends old answer → (text : BeatsText) (taken : List (List ℕ))
    → IsDemultiplexing old text taken → text.whole taken ≡ text.so_far taken ++ octets_given answer
last-one old answer e text taken (phase, header, is, stands) =
    ap (λ (t : BeatsText). t.whole taken) is ∙ by answer (e.none header.precode phase taken stands) (e.gives header.precode phase taken stands) e.is
    ∙ ap (λ (t : BeatsText). t.so_far taken ++ octets_given answer) (sym is)
  where
    by : (a : Option (List ℕ)) → (a ≡ None) ↔ (taken ≡ [])
        → IfSome a (λ beat. (l : ℕ) → l < 16
        → phased_lane phase (stream_in header.precode taken) l ≡ given phase header.precode taken l ++ bits 8 (slice_index beat l))
        → IfSome a IsBeat → (demultiplexed phase header).whole taken ≡ (demultiplexed phase header).so_far taken ++ octets_given a
    by None none gives is =
        let empty : taken ≡ [] = none.0 refl in
        ap (under_header header) (ap (phased_beats header.precode phase) empty ∙ no-phased-beats header.precode phase
        ∙ sym (none-given header.precode phase taken (omega (arith, ap length empty))))
        ∙ sym (append-nil (under_header header (given_beats header.precode phase taken)))
    by (Some beat) none gives is = elim (none-or-some taken) [
      | inl empty ↦ absurd (let clash = none.1 empty in cc)
      | inr some ↦ one-behind header (given_beats header.precode phase taken) (phased_beats header.precode phase taken) beat
          (phased_beats_end phase header.precode taken beat some is gives)
    ]

module _ {T : Type 0} (demux_of : T → Demux) where
  -- a task that has a demultiplexer
  abbrev pub Demuxes : Meaning T
  Demuxes task text taken = IsDemultiplexing (demux_of task) text taken

  pub takes : (old new : T) (beat : List ℕ) (answer : Option (List ℕ)) (held held_now : Option (List ℕ)) (pending pending_now : List ℕ)
      → Gives (demux_of old) (demux_of new) beat answer → Puts held pending (octets_given answer) held_now pending_now
      → (text : BeatsText) (taken : List (List ℕ)) (start : Option (List ℕ))
      → HasPut Demuxes old text taken start held pending → HasPut Demuxes new text (taken ++ beat ∷ []) start held_now pending_now
  takes old new beat answer held held_now pending pending_now gives puts text taken start p = record {
    keeps = (p.keeps.0, p.keeps.1, p.keeps.2, gives.stands p.keeps.1.precode p.keeps.0 taken p.keeps.3);
    grows = p.grows;
    wrote = subst (λ t. Wrote start held_now t pending_now) (sym (one-more (demux_of old) (demux_of new) beat answer gives text taken p.keeps))
        (puts start (text.so_far taken) p.wrote);
  }

  pub breaks : (old new : T) (beat : List ℕ) (answer : Option (List ℕ)) (held held_now : Option (List ℕ)) (pending : List ℕ)
      → Gives (demux_of old) (demux_of new) beat answer → BreaksOffBefore held pending held_now
      → (text : BeatsText) (taken : List (List ℕ)) (start : Option (List ℕ))
      → HasPut Demuxes old text taken start held pending → AppendsFront start held_now (text.so_far (taken ++ beat ∷ []))
  breaks old new beat answer held held_now pending gives breaks_off text taken start p =
      subst (AppendsFront start held_now) (sym (one-more (demux_of old) (demux_of new) beat answer gives text taken p.keeps))
      (front-more start held_now (text.so_far taken) (octets_given answer) (breaks_off start (text.so_far taken) p.wrote))

  pub finished : (old : T) (answer : Option (List ℕ)) (held held_now : Option (List ℕ)) (pending pending_now : List ℕ) → Ends (demux_of old) answer
      → Puts held pending (octets_given answer) held_now pending_now
      → (text : BeatsText) (taken : List (List ℕ)) (start : Option (List ℕ)) → HasPut Demuxes old text taken start held pending
      → (true ≡ text.is_aligned taken) × Wrote start held_now (text.whole taken) pending_now
  finished old answer held held_now pending pending_now ends puts text taken start p = (
    ap (λ (t : BeatsText). t.is_aligned taken) (sym p.keeps.2),
    subst (λ t. Wrote start held_now t pending_now) (sym (last-one (demux_of old) answer ends text taken p.keeps)) (puts start (text.so_far taken) p.wrote),
  )

  pub breaks-ending : (old : T) (answer : Option (List ℕ)) (held held_now : Option (List ℕ)) (pending : List ℕ) → Ends (demux_of old) answer
      → BreaksOffBefore held pending held_now
      → (text : BeatsText) (taken : List (List ℕ)) (start : Option (List ℕ)) → HasPut Demuxes old text taken start held pending
      → AppendsFront start held_now (text.whole taken)
  breaks-ending old answer held held_now pending ends breaks_off text taken start p =
      subst (AppendsFront start held_now) (sym (last-one (demux_of old) answer ends text taken p.keeps))
      (front-more start held_now (text.so_far taken) (octets_given answer) (breaks_off start (text.so_far taken) p.wrote))
