-- What `decode` makes of a capture.
use Rattle.std.specs.Prelude.{ℕ, min, filter_map}
use Rattle.pcs_io.specs.declared.header.Header.{Header}
use Rattle.pcs_drive.specs.CaptureCommand.{BeatsText, CaptureText}
use Rattle.pcs_receive.specs.Events.{events, good, frame_of_event}
use Rattle.pcs_top.specs.EventTexts.{EventText, capture, has_alignment}
use Rattle.pcs_top.specs.Texts.{frame_text}

-- the text of the good frames of beats, for a period and a limit of the skew
abbrev pub good_text : ℕ → ℕ → BeatsText
good_text period skew = record {
  so_far = λ beats. frame_text (good (capture period beats) skew);
  whole = λ beats. frame_text (good (capture period beats) skew);
  is_aligned = λ beats. has_alignment (events (capture period beats) skew 0);
}

-- the same, event by event
abbrev pub told_frames : EventText
told_frames = record {
  so_far = λ es. frame_text (filter_map frame_of_event es);
  whole = λ es. frame_text (filter_map frame_of_event es);
}

-- the smaller of a limit of the skew and the capture's own
abbrev pub skew_limit : ℕ → Header → ℕ
skew_limit most header = min most header.skew

-- what is made by the period of a capture and the smaller of this limit of the skew and the capture's own
abbrev pub by_header : (ℕ → ℕ → BeatsText) → ℕ → CaptureText
by_header text most header = text header.period (skew_limit most header)

-- the text of the good frames of a capture
abbrev pub decoded : ℕ → CaptureText
decoded = by_header good_text
