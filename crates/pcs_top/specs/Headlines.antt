-- The headline and any damage: what stands written where all the beats of a capture are an image of a transmission.
--     HasWholeCapture     what reads gave is a header and whole beats, and no read and no write failed
--     HeadlinePremises    the beats are an image, with a skew within the limit, and each lane's first matching marker pair is true
--     DamagePremises      the beats are such an image, and each hunt is true
--     GivesNamedFrames    with at most fifteen wrong symbols in a codeword, exactly the named frames are written
--     GivesUnmarkedFrames whatever the damage, exactly the frames in unmarked wides are written
--     GivesGoodFrames     of any beats, the good frames are written, and the run is done where the lanes were aligned
use Rattle.std.specs.Prelude.{◌≡◌, ◌≢◌, ℕ, ◌^◌, ◌*◌, ◌<◌, ◌≤◌, List, [], ◌++◌, length, Result, Ok}
use Rattle.std.specs.List.{AllByRecursion, list_any}
use Rattle.mac_columns.specs.declared.column.Column.{Column}
use Rattle.mac_columns.specs.RunPlaces.{frames_of_runs}
use Rattle.pcs_bits.specs.Captures.{Capture}
use Rattle.pcs_send.specs.Transmission.{sent, sent_columns}
use Rattle.lane_deskew.specs.declared.Order.{Order}
use Rattle.lane_deskew.specs.Alignments.{align}
use Rattle.pcs_receive.specs.Events.{events, good}
use Rattle.pcs_receive.specs.Images.{Image, IsImage, skew_of, HasTrueLock}
use Rattle.pcs_receive.specs.Headline.{AlignsAt, HasAtMostWrong, named_frames, hunt_places, IsTrueHunt, stands_in_alignment}
use Rattle.pcs_io.specs.Faults.{Rose}
use Rattle.pcs_io.specs.FrameLines.{FrameLine}
use Rattle.pcs_io.specs.Captures.{OpensWhole}
use Rattle.pcs_io.specs.declared.header.Header.{Header}
use Rattle.pcs_words.specs.declared.command.Command.{Command}
use Rattle.pcs_words.specs.declared.command.Command.TheVariants as command
use Rattle.pcs_words.specs.declared.command.SkewOptions.{SkewOptions}
use Rattle.pcs_words.specs.declared.refusal.Refusal.{Refusal}
use Rattle.pcs_drive.specs.Seen.{Seen, Written, ReadFailed, WriteFailed}
use Rattle.pcs_drive.specs.CaptureCommand.{outcome_at_end}
use Rattle.pcs_drive.specs.Deciding.{Given}
use Rattle.pcs_top.specs.Decoding.{skew_limit}
use Rattle.pcs_top.specs.EventTexts.{capture, has_alignment}
use Rattle.pcs_top.specs.Laws.{IsSent}
use Rattle.pcs_top.specs.LineColumns.{columns_of_lines}
use Rattle.pcs_top.specs.Notes.{Heard}
use Rattle.pcs_top.specs.Statuses.{status_of}
use Rattle.pcs_top.specs.Texts.{frame_text}
use Rattle.pcs_top.specs.declared.status.Status.{Status}
use Rattle.pcs_top.specs.declared.status.Status.TheVariants.{Done, NoMemory}

-- What the reader held before, and the input that reads gave, is a header and these whole beats, and ends before the reader's limit. No
-- read and no write failed.
pub record HasWholeCapture (before : List ℕ) (limit : ℕ) (header : Header) (beats : List (List ℕ)) (seen : Seen) : Type 0 where
  pub input : List ℕ
  pub given : Given seen input
  pub whole : OpensWhole (before ++ input) header beats 0
  pub short : length (before ++ input) < limit
  pub reads : ¬ ReadFailed seen
  pub writes : ¬ WriteFailed seen

-- the columns of a transmission of these lines
abbrev pub columns_sent : ℕ → ℕ → ℕ → List FrameLine → List Column
columns_sent period lead tail lines = sent_columns period lead tail (columns_of_lines lines)

-- The beats are an image of the lanes of these lines, with a skew within the limit, and each lane's first matching marker pair is true.
pub record HeadlinePremises (period skew lead tail : ℕ) (lines : List FrameLine) (beats : List (List ℕ)) (image : Image) : Type 0 where
  pub can_be_sent : AllByRecursion IsSent lines
  pub is_image : IsImage (capture period beats) (sent period lead tail (columns_of_lines lines)) image
  pub within : skew_of image ≤ skew
  pub lock : HasTrueLock (capture period beats) (sent period lead tail (columns_of_lines lines)) image 0

-- The beats are an image of the lanes of these lines, with a skew within the limit. Each hunt that ends in an alignment locks truly, and
-- each word of its pairs, up to its loss or the end, is near the codeword that was sent or near none.
pub record DamagePremises (period skew lead tail : ℕ) (lines : List FrameLine) (beats : List (List ℕ)) (image : Image) : Type 0 where
  pub can_be_sent : AllByRecursion IsSent lines
  pub is_image : IsImage (capture period beats) (sent period lead tail (columns_of_lines lines)) image
  pub within : skew_of image ≤ skew
  pub hunts : AllByRecursion (IsTrueHunt (columns_sent period lead tail lines) (capture period beats) image skew) (hunt_places (capture period beats) skew)

-- For every transmission of which the beats are such an image, the lanes are aligned at one sent group. Where then no codeword of the
-- pairs of that alignment that the capture holds whole has more than fifteen wrong symbols, the run is done, and exactly the frames that
-- begin after the first payload wide behind that group and end inside these pairs are written, in order, once each.
abbrev pub GivesNamedFrames : ℕ → ℕ → List (List ℕ) → Seen → Status → Type 0
GivesNamedFrames period skew beats seen status =
    (lead tail : ℕ) (lines : List FrameLine) (image : Image) → HeadlinePremises period skew lead tail lines beats image
    → (o : Order) × (g : ℕ) × AlignsAt (capture period beats) skew image 0 o g
    × (HasAtMostWrong 15 (columns_sent period lead tail lines) (capture period beats) image o g
    → (status ≡ Done) × Written seen (frame_text (named_frames (columns_sent period lead tail lines) (capture period beats) o g)))

-- the sent frames all of whose columns stand in unmarked wides of the pairs of one alignment, up to its loss or the end
abbrev pub unmarked_frames : List Column → Capture → Image → ℕ → List (List ℕ)
unmarked_frames columns c image skew =
    frames_of_runs (λ run. list_any (λ from. stands_in_alignment c image run (align c skew from)) (hunt_places c skew)) columns

-- For every transmission of which the beats are such an image, exactly these frames are written, in order, once each. The run is done
-- where the lanes were aligned, and else not aligned.
abbrev pub GivesUnmarkedFrames : ℕ → ℕ → List (List ℕ) → Seen → Status → Type 0
GivesUnmarkedFrames period skew beats seen status =
    (lead tail : ℕ) (lines : List FrameLine) (image : Image) → DamagePremises period skew lead tail lines beats image
    → (status ≡ status_of (outcome_at_end 0 (has_alignment (events (capture period beats) skew 0))))
    × Written seen (frame_text (unmarked_frames (columns_sent period lead tail lines) (capture period beats) image skew))

-- Of any beats, whether they are an image of something or not: the run is done where the lanes were aligned, and else not aligned, and
-- exactly the good frames are written.
abbrev pub GivesGoodFrames : ℕ → ℕ → List (List ℕ) → Seen → Status → Type 0
GivesGoodFrames period skew beats seen status =
    (status ≡ status_of (outcome_at_end 0 (has_alignment (events (capture period beats) skew 0))))
    × Written seen (frame_text (good (capture period beats) skew))

-- of a call behind the header, by the receiver's period and skew limit, which is less than half a period as every receiver's is
abbrev pub BehindHeadline : (ℕ → ℕ → List (List ℕ) → Seen → Status → Type 0) → List ℕ → ℕ → Header → ℕ → ℕ → Seen → Status → Type 0
BehindHeadline Gives before limit header period skew seen status =
    (beats : List (List ℕ)) → HasWholeCapture before limit header beats seen → skew < 340 * period → Gives period skew beats seen status

-- of `decode` as a whole, by the header's period and the smaller of the words' skew limit and the header's
abbrev pub OfDecode : (ℕ → ℕ → List (List ℕ) → Seen → Status → Type 0) → Result Command Refusal → Seen → Heard → Status → Type 0
OfDecode Gives words seen heard status =
    (options : SkewOptions) (header : Header) (beats : List (List ℕ)) → words ≡ Ok (command.Decode options)
    → HasWholeCapture [] (2 ^ 40) header beats seen → ¬ Rose heard.writes_before heard.writes_after → status ≢ NoMemory
    → Gives header.period (skew_limit options.skew header) beats seen status

abbrev pub Headline : List ℕ → ℕ → Header → ℕ → ℕ → Seen → Status → Type 0
Headline = BehindHeadline GivesNamedFrames

abbrev pub AnyDamage : List ℕ → ℕ → Header → ℕ → ℕ → Seen → Status → Type 0
AnyDamage = BehindHeadline GivesUnmarkedFrames

abbrev pub Complete : List ℕ → ℕ → Header → ℕ → ℕ → Seen → Status → Type 0
Complete = BehindHeadline GivesGoodFrames

abbrev pub DecodeHeadline : Result Command Refusal → Seen → Heard → Status → Type 0
DecodeHeadline = OfDecode GivesNamedFrames

abbrev pub DecodeAnyDamage : Result Command Refusal → Seen → Heard → Status → Type 0
DecodeAnyDamage = OfDecode GivesUnmarkedFrames
