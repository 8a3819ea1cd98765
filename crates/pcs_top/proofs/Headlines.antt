-- The headline and any damage, from what a command on captures answers and the laws of a receiver.
use Rattle.std.proofs.Common.{◌≡◌, ℕ, ◌*◌, ◌^◌, ◌<◌, ◌⊎◌, inl, inr, Bool, true, false, List, [], ◌∷◌, ◌++◌, length, map, Result, Ok, refl, sym, ◌∙◌, ap, subst, arith, length-append}
use Rattle.std.specs.List.{AllByRecursion}
use Rattle.std.proofs.lemmas.List.Folds.{flat_map-map}
use Rattle.mac_columns.specs.Items.{item_columns}
use Rattle.pcs_send.specs.Transmission.{sent, sent_columns}
use Rattle.pcs_send.specs.SentFrames.{CanBeSent, columns_of_items}
use Rattle.pcs_send.proofs.SentFrames.{frames-are_sent}
use Rattle.block66.specs.Blocks.{HasOctets}
use Rattle.pcs_bits.specs.Captures.{Capture}
use Rattle.lane_deskew.specs.declared.Order.{Order}
use Rattle.pcs_receive.specs.Events.{events, good}
use Rattle.pcs_receive.specs.Images.{Image, IsImage, HasTrueLock}
use Rattle.pcs_receive.specs.Headline.{AlignsAt, HasAtMostWrong, named_frames}
use Rattle.pcs_receive.proofs.Headline.{headline_of_items, alignment_is_told}
use Rattle.pcs_receive.proofs.WholeCapture.{any_damage_overall}
use Rattle.pcs_io.specs.FrameLines.{FrameLine, Frame, Set}
use Rattle.pcs_io.specs.Captures.{header_at, OpensWhole}
use Rattle.pcs_io.specs.declared.header.Header.{Header}
use Rattle.pcs_io.specs.declared.header.BadHeader.{BadHeader as Refused}
use Rattle.pcs_watch.specs.Watching.{Seen as Watched}
use Rattle.pcs_words.specs.declared.command.Command.{Command}
use Rattle.pcs_words.specs.declared.command.Command.TheVariants as command
use Rattle.pcs_words.specs.declared.refusal.Refusal.{Refusal}
use Rattle.pcs_drive.specs.Seen.{Seen, Written}
use Rattle.pcs_drive.specs.CaptureCommand.{BeatsText, CaptureText, FromBeats, FromCapture, TookAllBeatsBy, outcome_at_end}
use Rattle.pcs_drive.specs.declared.outcome.Outcome.{Outcome}
use Rattle.pcs_drive.specs.declared.outcome.Outcome.TheVariants.{Done, ReadFault, WriteFault, NoMemory, BadHeader, Cut, NotAligned, TooLong}
use Rattle.pcs_drive.proofs.Completing.{front, all, opens-alone, captured}
use Rattle.pcs_drive.proofs.HeadersStay.{header-stays}
use Rattle.pcs_top.specs.Decoding.{good_text, decoded, skew_limit}
use Rattle.pcs_top.specs.EventTexts.{capture, has_alignment}
use Rattle.pcs_top.specs.Laws.{IsSent}
use Rattle.pcs_top.specs.LineColumns.{item_of, columns_of_lines}
use Rattle.pcs_top.specs.Notes.{Heard}
use Rattle.pcs_top.specs.Statuses.{ByOutcome, status_of}
use Rattle.pcs_top.specs.Texts.{frame_text}
use Rattle.pcs_top.specs.Top.{Performs, Runs}
use Rattle.pcs_top.specs.Headlines.{HasWholeCapture, columns_sent, GivesNamedFrames, GivesUnmarkedFrames, GivesGoodFrames, BehindHeadline, OfDecode, Headline, AnyDamage, Complete, DecodeHeadline, DecodeAnyDamage}
use Rattle.pcs_top.specs.declared.status.Status.{Status}
use Rattle.pcs_top.proofs.Completeness.{noted}
use Rattle.pcs_io.proofs.HeaderRanges.{header-ranged}

-- ---- the answer on a whole capture
-- the answer at the end of whole beats, and the whole text
abbrev IsWhole : BeatsText → List (List ℕ) → Seen → Outcome → Type 0
IsWhole text beats seen outcome = (outcome ≡ outcome_at_end 0 (text.is_aligned beats)) × Written seen (text.whole beats)

module _ (text : CaptureText) (before : List ℕ) (limit : ℕ) (header : Header) (beats : List (List ℕ)) (seen : Seen)
    (w : HasWholeCapture before limit header beats seen) where
  -- what was taken to the end is this header and these beats
  taken-alone : (other : Header) (others : List (List ℕ)) (over : ℕ) → (t : TookAllBeatsBy header_at before limit other seen others over)
      → (header ≡ other) × (beats ≡ others) × (0 ≡ over)
  taken-alone other others over t =
      opens-alone header_at (before ++ t.got) header other beats others 0 over
      (subst (λ os. OpensWhole (before ++ os) header beats 0) (all seen w.input t.got w.given t.took) w.whole) t.whole

  at-end : (aligned : Bool) (end : Outcome) (other : Header) (others : List (List ℕ)) → outcome_at_end 0 aligned ≡ end
      → TookAllBeatsBy header_at before limit other seen others 0 → (text other).is_aligned others ≡ aligned → Written seen ((text other).whole others)
      → IsWhole (text header) beats seen end
  at-end aligned end other others ends taken is written =
      let same = taken-alone other others 0 taken in
      subst (λ hd. IsWhole (text hd) beats seen end) (sym same.0) (subst (λ bs. IsWhole (text other) bs seen end) (sym same.1)
      (sym ends ∙ ap (outcome_at_end 0) (sym is), written))

  pub behind : (other : Header) (outcome : Outcome) → FromBeats (text other) before limit other seen outcome → IsWhole (text header) beats seen outcome
  behind other Done c = at-end true Done other c.0 refl c.1 c.2 c.3
  behind other ReadFault c = absurd (w.reads c.2)
  behind other WriteFault c = absurd (w.writes c.1)
  behind other (Cut over) c = let same = taken-alone other c.0 over c.2 in absurd (omega (arith, c.1, same.2))
  behind other NotAligned c = at-end false NotAligned other c.0 refl c.1 c.2 c.3
  behind other TooLong c =
      let got = c.2.got in
      let parts = ap length (front seen w.input got w.given c.2.took) in
      absurd (omega (arith, w.short, parts, length-append got w.given.rest, length-append before w.input, length-append before got, c.3))
  behind other outcome c = absurd c

-- a refusal has nothing to do with the text, so take one that asks for no alignment
abbrev no_text : CaptureText
no_text header = record { so_far = λ bs. []; whole = λ bs. []; is_aligned = λ bs. true }

-- a capture's header isn't refused
no-refusal : (header : Header) (beats : List (List ℕ)) (seen : Seen) (bad : Refused) → HasWholeCapture [] (2 ^ 40) header beats seen
    → FromCapture no_text seen (BadHeader bad) → ⊥
no-refusal header beats seen bad w c =
    none (captured header_at header-stays no_text seen w.input header beats w.given w.whole refl (BadHeader bad) w.short w.reads w.writes c)
  where
    none : (BadHeader bad ≡ Done) ⊎ (BadHeader bad ≡ NoMemory) → ⊥
    none (inl same) = cc
    none (inr same) = cc

whole-capture : (text : CaptureText) (header : Header) (beats : List (List ℕ)) (seen : Seen) (outcome : Outcome)
    → HasWholeCapture [] (2 ^ 40) header beats seen → FromCapture text seen outcome → IsWhole (text header) beats seen outcome ⊎ (outcome ≡ NoMemory)
whole-capture text header beats seen Done w c = inl (behind text [] (2 ^ 40) header beats seen w c.0 Done c.1)
whole-capture text header beats seen ReadFault w (inl c) = absurd (w.reads c.1)
whole-capture text header beats seen ReadFault w (inr c) = absurd (w.reads c.1.2)
whole-capture text header beats seen WriteFault w c = absurd (w.writes c.1.1)
whole-capture text header beats seen NoMemory w c = inr refl
whole-capture text header beats seen (BadHeader bad) w c = absurd (no-refusal header beats seen bad w c)
whole-capture text header beats seen (Cut over) w c = inl (behind text [] (2 ^ 40) header beats seen w c.0 (Cut over) c.1)
whole-capture text header beats seen NotAligned w c = inl (behind text [] (2 ^ 40) header beats seen w c.0 NotAligned c.1)
whole-capture text header beats seen TooLong w c = inl (behind text [] (2 ^ 40) header beats seen w c.0 TooLong c.1)
whole-capture text header beats seen outcome w c = absurd c

-- ---- the laws, for lines
can-be-sent : (line : FrameLine) → IsSent line → CanBeSent (item_of line)
can-be-sent (Frame gap octets) sent = (sent.1, sent.0)
can-be-sent (Set gap octets) sent = (sent.1, sent.0)

all-sent : (lines : List FrameLine) → AllByRecursion IsSent lines → AllByRecursion CanBeSent (map item_of lines)
all-sent [] are = tt
all-sent (line ∷ lines) are = (can-be-sent line are.0, all-sent lines are.1)

as-items : (lines : List FrameLine) → columns_of_items (map item_of lines) ≡ columns_of_lines lines
unfolding columns_of_lines
as-items lines = flat_map-map item_columns item_of lines

-- an alignment is told, so the answer is done
told-done : (c : Capture) (skew : ℕ) (image : Image) (o : Order) (g : ℕ) → AlignsAt c skew image 0 o g → has_alignment (events c skew 0) ≡ true
unfolding has_alignment
told-done c skew image o g aligns = rw (alignment_is_told c skew 0 o aligns.is).1 refl

-- how the answers and the text of a receiver stand
abbrev IsAnswered : ℕ → ℕ → List (List ℕ) → Seen → Status → Type 0
IsAnswered period skew beats seen status =
    (status ≡ status_of (outcome_at_end 0 (has_alignment (events (capture period beats) skew 0))))
    × Written seen (frame_text (good (capture period beats) skew))

named : (period skew : ℕ) (beats : List (List ℕ)) (seen : Seen) (status : Status) → 2 * skew < 680 * period → IsAnswered period skew beats seen status
    → GivesNamedFrames period skew beats seen status
named period skew beats seen status limit answered lead tail lines image p =
    let c = capture period beats in
    let same = sym (as-items lines) in
    let stands = subst (λ columns. IsImage c (sent period lead tail columns) image) same p.is_image in
    let lock = subst (λ columns. HasTrueLock c (sent period lead tail columns) image 0) same p.lock in
    let law = headline_of_items 15 (omega arith) (map item_of lines) lead tail c image skew (all-sent lines p.can_be_sent) stands p.within limit lock in
    let o = law.0 in
    let g = law.1 in (
      o,
      g,
      law.2,
      λ few.
          let given = law.3 (subst (λ columns. HasAtMostWrong 15 (sent_columns period lead tail columns) c image o g) same few) in (
            answered.0 ∙ ap (λ a. status_of (outcome_at_end 0 a)) (told-done c skew image o g law.2),
            subst (λ columns. Written seen (frame_text (named_frames (sent_columns period lead tail columns) c o g))) (as-items lines)
                (subst (λ fs. Written seen (frame_text fs)) given answered.1),
          ),
    )

sent-octets : (period lead tail : ℕ) (lines : List FrameLine) → AllByRecursion IsSent lines → AllByRecursion HasOctets (columns_sent period lead tail lines)
sent-octets period lead tail lines are =
    subst (λ columns. AllByRecursion HasOctets (sent_columns period lead tail columns)) (as-items lines)
    (frames-are_sent period lead tail (map item_of lines) (all-sent lines are)).octets

unmarked : (period skew : ℕ) (beats : List (List ℕ)) (seen : Seen) (status : Status) → 2 * skew < 680 * period → IsAnswered period skew beats seen status
    → GivesUnmarkedFrames period skew beats seen status
unfolding sent
unmarked period skew beats seen status limit answered lead tail lines image p =
    let c = capture period beats in (
      answered.0,
      subst (λ fs. Written seen (frame_text fs)) (any_damage_overall (columns_sent period lead tail lines) c image skew
          (record { octets = sent-octets period lead tail lines p.can_be_sent; stands = p.is_image; within = p.within; limit = limit }) p.hunts) answered.1,
    )

-- ---- behind the header
abbrev Gives : Type 1
Gives = ℕ → ℕ → List (List ℕ) → Seen → Status → Type 0

-- what follows from the answers
abbrev Follows : Gives → Type 0
Follows G = (period skew : ℕ) (beats : List (List ℕ)) (seen : Seen) (status : Status) → 2 * skew < 680 * period → IsAnswered period skew beats seen status
    → G period skew beats seen status

behind-headline : (G : Gives) → Follows G → (before : List ℕ) (limit : ℕ) (header : Header) (period skew : ℕ) (seen : Seen) (status : Status)
    → ByOutcome (FromBeats (good_text period skew) before limit header seen) status → BehindHeadline G before limit header period skew seen status
behind-headline G follows before limit header period skew seen status b beats w less =
    let is = behind (λ h. good_text period skew) before limit header beats seen w header b.0 b.2 in
    follows period skew beats seen status (omega (arith, less)) (b.1 ∙ ap status_of is.0, is.1)

pub headline : (before : List ℕ) (limit : ℕ) (header : Header) (period skew : ℕ) (seen : Seen) (status : Status)
    → ByOutcome (FromBeats (good_text period skew) before limit header seen) status → Headline before limit header period skew seen status
headline = behind-headline GivesNamedFrames named

pub any_damage : (before : List ℕ) (limit : ℕ) (header : Header) (period skew : ℕ) (seen : Seen) (status : Status)
    → ByOutcome (FromBeats (good_text period skew) before limit header seen) status → AnyDamage before limit header period skew seen status
any_damage = behind-headline GivesUnmarkedFrames unmarked

pub complete : (before : List ℕ) (limit : ℕ) (header : Header) (period skew : ℕ) (seen : Seen) (status : Status)
    → ByOutcome (FromBeats (good_text period skew) before limit header seen) status → Complete before limit header period skew seen status
complete = behind-headline GivesGoodFrames (λ period skew beats seen status limit answered. answered)

-- ---- the program
of-decode : (G : Gives) → Follows G → (watchers : List Watched) (words : Result Command Refusal) (seen : Seen) (heard : Heard) (status : Status)
    → Runs watchers words seen heard status → OfDecode G words seen heard status
of-decode G follows watchers words seen heard status runs options header beats is w notes enough =
    answered (subst (λ ws. Performs watchers ws seen runs.0) is runs.1)
  where
    same : status ≡ runs.0
    same = noted runs.0 status heard notes runs.2

    skew : ℕ
    skew = skew_limit options.skew header

    less : 2 * skew < 680 * header.period
    less = let range = header-ranged w.input header w.whole.1.0 w.whole.1.1 in omega (arith, range.least, range.skew)

    by : (outcome : Outcome) → runs.0 ≡ status_of outcome → IsWhole (decoded options.skew header) beats seen outcome ⊎ (outcome ≡ NoMemory)
        → G header.period skew beats seen status
    by outcome named (inl whole) = follows header.period skew beats seen status less (same ∙ named ∙ ap status_of whole.0, whole.1)
    by outcome named (inr none) = absurd (enough (same ∙ named ∙ ap status_of none))

    answered : Performs watchers (Ok (command.Decode options)) seen runs.0 → G header.period skew beats seen status
    answered (inl c) = by c.0 c.1 (whole-capture (decoded options.skew) header beats seen c.0 w c.2)
    answered (inr none) = absurd (enough (same ∙ none.0))

pub decode_headline : (watchers : List Watched) (words : Result Command Refusal) (seen : Seen) (heard : Heard) (status : Status)
    → Runs watchers words seen heard status → DecodeHeadline words seen heard status
decode_headline = of-decode GivesNamedFrames named

pub decode_any_damage : (watchers : List Watched) (words : Result Command Refusal) (seen : Seen) (heard : Heard) (status : Status)
    → Runs watchers words seen heard status → DecodeAnyDamage words seen heard status
decode_any_damage = of-decode GivesUnmarkedFrames unmarked
