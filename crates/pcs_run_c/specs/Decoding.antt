-- What `decode` gives a C caller, of a capture whose beats are an image of a transmission.
use Rattle.std.specs.Prelude.{◌≡◌, ◌≢◌, ℕ, ◌^◌, ◌<◌, List, length, Ok}
use Rattle.lane_deskew.specs.declared.Order.{Order}
use Rattle.pcs_receive.specs.Events.{events}
use Rattle.pcs_receive.specs.Images.{Image}
use Rattle.pcs_receive.specs.Headline.{AlignsAt, HasAtMostWrong, named_frames}
use Rattle.pcs_io.specs.FrameLines.{FrameLine}
use Rattle.pcs_io.specs.Captures.{OpensWhole}
use Rattle.pcs_io.specs.declared.header.Header.{Header}
use Rattle.pcs_words.specs.Commands.{command_of}
use Rattle.pcs_words.specs.declared.command.Command.TheVariants as command
use Rattle.pcs_words.specs.declared.command.SkewOptions.{SkewOptions}
use Rattle.pcs_drive.specs.CaptureCommand.{outcome_at_end}
use Rattle.pcs_top.specs.Decoding.{skew_limit}
use Rattle.pcs_top.specs.EventTexts.{capture, has_alignment}
use Rattle.pcs_top.specs.Headlines.{HeadlinePremises, DamagePremises, columns_sent, unmarked_frames}
use Rattle.pcs_top.specs.Statuses.{number_of, status_of}
use Rattle.pcs_top.specs.Texts.{frame_text}
use Rattle.pcs_run_c.specs.Words.{words_in}

-- The words say `decode`, and the input is a header and these whole beats. There was room for the text and the line, and memory.
pub record HasDecoded (words input : List ℕ) (options : SkewOptions) (header : Header) (beats : List (List ℕ)) (number : ℕ) : Type 0 where
  pub says : command_of (words_in words) ≡ Ok (command.Decode options)
  pub whole : OpensWhole input header beats 0
  pub short : length input < 2 ^ 40
  pub room : number ≢ 4
  pub memory : number ≢ 5
  pub notes : number ≢ 12

-- For every transmission of which the beats are such an image, the lanes are aligned at one sent group. Where then no codeword of that
-- alignment has more than fifteen wrong symbols, the number is 0, and the text is exactly the named frames, in order, once each.
abbrev pub WritesNamedFrames : ℕ → ℕ → List (List ℕ) → List ℕ → ℕ → Type 0
WritesNamedFrames period skew beats text number =
    (lead tail : ℕ) (lines : List FrameLine) (image : Image) → HeadlinePremises period skew lead tail lines beats image
    → (o : Order) × (g : ℕ) × AlignsAt (capture period beats) skew image 0 o g
    × (HasAtMostWrong 15 (columns_sent period lead tail lines) (capture period beats) image o g
    → (number ≡ 0) × (text ≡ frame_text (named_frames (columns_sent period lead tail lines) (capture period beats) o g)))

-- For every transmission of which the beats are such an image, the text is exactly the frames in unmarked wides, in order, once each. The
-- number is 0 where the lanes were aligned, and else that of 'not aligned'.
abbrev pub WritesUnmarkedFrames : ℕ → ℕ → List (List ℕ) → List ℕ → ℕ → Type 0
WritesUnmarkedFrames period skew beats text number =
    (lead tail : ℕ) (lines : List FrameLine) (image : Image) → DamagePremises period skew lead tail lines beats image
    → (number ≡ number_of (status_of (outcome_at_end 0 (has_alignment (events (capture period beats) skew 0)))))
    × (text ≡ frame_text (unmarked_frames (columns_sent period lead tail lines) (capture period beats) image skew))

-- of a call, by the header's period and the smaller of the words' skew limit and the header's
abbrev pub OfDecoded : (ℕ → ℕ → List (List ℕ) → List ℕ → ℕ → Type 0) → List ℕ → List ℕ → List ℕ → ℕ → Type 0
OfDecoded Writes words input text number =
    (options : SkewOptions) (header : Header) (beats : List (List ℕ)) → HasDecoded words input options header beats number
    → Writes header.period (skew_limit options.skew header) beats text number

abbrev pub Headline : List ℕ → List ℕ → List ℕ → ℕ → Type 0
Headline = OfDecoded WritesNamedFrames

abbrev pub AnyDamage : List ℕ → List ℕ → List ℕ → ℕ → Type 0
AnyDamage = OfDecoded WritesUnmarkedFrames
