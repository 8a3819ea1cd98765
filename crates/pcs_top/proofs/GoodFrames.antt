-- The text of good frames, event by event.
use Rattle.std.proofs.Common.{◌≡◌, ℕ, false, List, [], ◌∷◌, ◌++◌, Option, Some, refl, sym, ◌∙◌, ap, subst, append-nil}
use Rattle.std.specs.Prelude.{◌≢◌, filter_map}
use Rattle.std.proofs.lemmas.List.Concat.{flat_map-append}
use Rattle.std.proofs.lemmas.List.Elements.{filter_map-append}
use Rattle.hex.specs.Hex.{encode_lower}
use Rattle.pcs_io.specs.Octets.{AppendsFront}
use Rattle.pcs_receive.specs.Events.{Event, frame, good, frame_of_event}
use Rattle.pcs_receive.specs.declared.event.Event.TheVariants as answer
use Rattle.pcs_receive.specs.declared.event.Event.{Event as Answer}
use Rattle.pcs_receive.specs.Hearings.{IsAnswer}
use Rattle.pcs_receive.specs.State.{State}
use Rattle.pcs_drive.specs.CaptureCommand.{BeatsText}
use Rattle.pcs_drive.specs.Writing.{Wrote, Puts, BreaksOffBefore}
use Rattle.pcs_drive.proofs.WritingLemmas.{front-more, wrote-none}
use Rattle.pcs_top.specs.Decoding.{good_text, told_frames}
use Rattle.pcs_top.specs.EventTexts.{EventText, Meaning, Grows, HasTold, IsListening, HasBegun, listening}
use Rattle.pcs_top.specs.Texts.{frame_text}
use Rattle.pcs_top.proofs.Telling.{listening-start, listening-grows, no-events}

frame_text-append : (xs ys : List (List ℕ)) → frame_text (xs ++ ys) ≡ frame_text xs ++ frame_text ys
unfolding frame_text
frame_text-append = flat_map-append (λ octets. encode_lower octets ++ 10 ∷ [])

frame-line : (octets : List ℕ) → frame_text (octets ∷ []) ≡ encode_lower octets ++ 10 ∷ []
unfolding frame_text
frame-line octets = append-nil (encode_lower octets ++ 10 ∷ [])

no-frames : frame_text [] ≡ []
unfolding frame_text
no-frames = refl

pub frames-grow : Grows told_frames
frames-grow es more = (
  frame_text (filter_map frame_of_event more),
  ap frame_text (filter_map-append frame_of_event es more) ∙ frame_text-append (filter_map frame_of_event es) (filter_map frame_of_event more),
)

one-event : (es : List Event) (e : Event) (lines : List (List ℕ)) → filter_map frame_of_event (e ∷ []) ≡ lines
    → told_frames.so_far (es ++ e ∷ []) ≡ told_frames.so_far es ++ frame_text lines
unfolding frames-grow frame_text
one-event es e lines is = (frames-grow es (e ∷ [])).1 ∙ ap (λ fs. told_frames.so_far es ++ frame_text fs) is

-- the frame that is lent
one-frame : (es : List Event) (e : Event) (octets : List ℕ) (last : Option Event) → last ≡ Some e → last ≡ Some (frame octets)
    → told_frames.so_far (es ++ e ∷ []) ≡ told_frames.so_far es ++ (encode_lower octets ++ 10 ∷ [])
one-frame es e octets last is lent =
    let same : e ≡ frame octets = cc in
    one-event es e (octets ∷ []) (ap (λ x. filter_map frame_of_event (x ∷ [])) same) ∙ ap (λ t. told_frames.so_far es ++ t) (frame-line octets)

-- what an answer other than a frame tells is no frame
quiet : (a : Answer) (e : Event) → a ≢ answer.Frame → IsAnswer a e → filter_map frame_of_event (e ∷ []) ≡ []
unfolding IsAnswer
quiet (answer.Failed fault) e other is = rw is refl
quiet (answer.Aligned order) e other is = rw is refl
quiet (answer.Report r) e other is = rw is refl
quiet answer.Frame e other is = absurd (other refl)
quiet (answer.Dropped why) e other is = rw is refl
quiet (answer.Lost at) e other is = rw is refl
quiet answer.Group e other is = rw is refl
quiet (answer.Column c) e other is = rw is refl

one-other : (es : List Event) (a : Answer) (e : Event) → a ≢ answer.Frame → IsAnswer a e → told_frames.so_far (es ++ e ∷ []) ≡ told_frames.so_far es
one-other es a e other is = one-event es e [] (quiet a e other is) ∙ ap (λ t. told_frames.so_far es ++ t) no-frames ∙ append-nil (told_frames.so_far es)

module _ {T : Type 0} where
  -- tellers of frames keep nothing but their text
  abbrev pub TellsFrames : Meaning T
  TellsFrames teller text es = text ≡ told_frames

  pub tells-frame : (old new : T) (e : Event) (octets : List ℕ) (last : Option Event) (held held_now : Option (List ℕ)) (pending pending_now : List ℕ)
      → last ≡ Some e → last ≡ Some (frame octets) → Puts held pending (encode_lower octets ++ 10 ∷ []) held_now pending_now
      → (text : EventText) (es : List Event) (start : Option (List ℕ)) → HasTold TellsFrames old text es start held pending
      → HasTold TellsFrames new text (es ++ e ∷ []) start held_now pending_now
  tells-frame old new e octets last held held_now pending pending_now is lent puts text es start t = record {
    keeps = t.keeps;
    grows = t.grows;
    wrote =
        let wrote = puts start (told_frames.so_far es) (subst (λ (x : EventText). Wrote start held (x.so_far es) pending) t.keeps t.wrote) in
        subst (λ (x : EventText). Wrote start held_now (x.so_far (es ++ e ∷ [])) pending_now) (sym t.keeps)
        (subst (λ o. Wrote start held_now o pending_now) (sym (one-frame es e octets last is lent)) wrote);
  }

  pub breaks-at-frame : (old : T) (e : Event) (octets : List ℕ) (last : Option Event) (held held_now : Option (List ℕ)) (pending : List ℕ)
      → last ≡ Some e → last ≡ Some (frame octets) → BreaksOffBefore held pending held_now
      → (text : EventText) (es : List Event) (start : Option (List ℕ)) → HasTold TellsFrames old text es start held pending
      → AppendsFront start held_now (text.so_far (es ++ e ∷ []))
  breaks-at-frame old e octets last held held_now pending is lent breaks text es start t =
      let front = breaks start (told_frames.so_far es) (subst (λ (x : EventText). Wrote start held (x.so_far es) pending) t.keeps t.wrote) in
      subst (λ (x : EventText). AppendsFront start held_now (x.so_far (es ++ e ∷ []))) (sym t.keeps)
      (subst (AppendsFront start held_now) (sym (one-frame es e octets last is lent))
      (front-more start held_now (told_frames.so_far es) (encode_lower octets ++ 10 ∷ []) front))

  pub tells-other : (old new : T) (a : Answer) (e : Event) (held : Option (List ℕ)) (pending : List ℕ) → a ≢ answer.Frame → IsAnswer a e
      → (text : EventText) (es : List Event) (start : Option (List ℕ)) → HasTold TellsFrames old text es start held pending
      → HasTold TellsFrames new text (es ++ e ∷ []) start held pending
  tells-other old new a e held pending other is text es start t = record {
    keeps = t.keeps;
    grows = t.grows;
    wrote =
        subst (λ (x : EventText). Wrote start held (x.so_far (es ++ e ∷ [])) pending) (sym t.keeps)
        (subst (λ o. Wrote start held o pending) (sym (one-other es a e other is))
        (subst (λ (x : EventText). Wrote start held (x.so_far es) pending) t.keeps t.wrote));
  }

good-is-told : (period skew : ℕ) → good_text period skew ≡ listening told_frames false period skew
unfolding good
good-is-told period skew = refl

no-good : (period skew : ℕ) (x : State) → HasBegun x period skew false → (good_text period skew).so_far [] ≡ []
no-good period skew x b = ap (λ (t : BeatsText). t.so_far []) (good-is-told period skew) ∙ ap told_frames.so_far (no-events false x period skew b) ∙ no-frames

-- a receiver that was just opened
pub good-start : {T : Type 0} (teller : T) (x : State) (period skew : ℕ) (start : Option (List ℕ)) → HasBegun x period skew false
    → IsListening (TellsFrames {T = T}) x teller false (good_text period skew) []
good-start {T} teller x period skew start b =
    subst (λ text. IsListening (TellsFrames {T = T}) x teller false text []) (sym (good-is-told period skew))
    (listening-start TellsFrames x teller told_frames false period skew b refl frames-grow)

pub good-grows : (period skew : ℕ) (beats more : List (List ℕ))
    → (rest : List ℕ) × ((good_text period skew).so_far (beats ++ more) ≡ (good_text period skew).so_far beats ++ rest)
good-grows period skew beats more =
    let (rest, goes) = listening-grows told_frames false period skew frames-grow beats more in
    let same = λ (bs : List (List ℕ)). ap (λ (t : BeatsText). t.so_far bs) (good-is-told period skew) in
    (rest, same (beats ++ more) ∙ goes ∙ ap (λ t. t ++ rest) (sym (same beats)))

pub good-none : (period skew : ℕ) (x : State) (start : Option (List ℕ)) (pending : List ℕ) → HasBegun x period skew false → pending ≡ []
    → Wrote start start ((good_text period skew).so_far []) pending
good-none period skew x start pending b empty = wrote-none start _ pending (no-good period skew x b) empty
