-- The text of columns, event by event.
use Rattle.std.proofs.Common.{◌≡◌, ℕ, ◌+◌, ◌-◌, ◌≤◌, Bool, true, false, List, [], ◌∷◌, ◌++◌, Option, Some, None, refl, sym, ◌∙◌, ap, subst, append_assoc, append-nil, arith}
use Rattle.std.specs.Prelude.{◌≢◌, filter_map, replicate, reverse}
use Rattle.std.proofs.lemmas.List.{reverse-append, replicate-append-replicate}
use Rattle.std.proofs.lemmas.List.Elements.{filter_map-append}
use Rattle.mac_columns.specs.declared.column.Column.{Column}
use Rattle.mac_columns.specs.declared.column.Column.TheVariants.{Idle}
use Rattle.block66.specs.Blocks.{block_of}
use Rattle.block66.specs.declared.Block.{Block}
use Rattle.rate_match.specs.Thinning.{Call, taken, grouped}
use Rattle.rate_match.specs.Refilling.{RefillStands, idles_behind}
use Rattle.pcs_io.specs.Octets.{AppendsFront}
use Rattle.pcs_receive.specs.Events.{Event}
use Rattle.pcs_receive.specs.declared.event.Event.TheVariants as answer
use Rattle.pcs_receive.specs.declared.event.Event.{Event as Answer}
use Rattle.pcs_receive.specs.Hearings.{IsAnswer}
use Rattle.pcs_receive.specs.State.{State}
use Rattle.pcs_drive.specs.Writing.{Wrote, Puts, BreaksOff, BreaksOffBefore}
use Rattle.pcs_drive.proofs.WritingLemmas.{wrote-none}
use Rattle.pcs_top.specs.ColumnTexts.{call_of, calls_of, refilled, column_lines, told_columns, columns_text}
use Rattle.pcs_top.specs.EventTexts.{EventText, Meaning, Grows, HasTold, IsListening, HasBegun}
use Rattle.pcs_top.specs.Texts.{block_line, column_text}
use Rattle.pcs_top.proofs.PuttingBlocks.{column_text-append, column_text-one}
use Rattle.pcs_drive.proofs.PuttingMore.{puts-none, puts-both, breaks-later, breaks-within}
use Rattle.pcs_top.proofs.Telling.{listening-start, listening-grows, no-events}

pub calls-append : (es more : List Event) → calls_of (es ++ more) ≡ calls_of more ++ calls_of es
unfolding calls_of
calls-append es more = ap reverse (filter_map-append call_of es more) ∙ reverse-append (filter_map call_of es) (filter_map call_of more)

-- with more calls there are more columns
refilled-append : (more h : List Call) → (rest : List Column) × (refilled (more ++ h) ≡ refilled h ++ rest)
refilled-append [] h = ([], sym (append-nil (refilled h)))
refilled-append (taken c ∷ more) h =
    let (rest, is) = refilled-append more h in
    let own = c ∷ replicate (idles_behind (more ++ h) c) Idle in
    (rest ++ own, ap (λ cs. cs ++ own) is ∙ append_assoc (refilled h) rest own)
refilled-append (grouped ∷ more) h = refilled-append more h

pub columns-grow : Grows told_columns
unfolding column_lines
columns-grow es more =
    let (rest, is) = refilled-append (calls_of more) (calls_of es) in
    (column_text rest, ap (λ h. column_text (refilled h)) (calls-append es more) ∙ ap column_text is ∙ column_text-append (refilled (calls_of es)) rest)

-- ---- one event more
calls-more : (es : List Event) (e : Event) (call : Call) → call_of e ≡ Some call → calls_of (es ++ e ∷ []) ≡ call ∷ calls_of es
unfolding calls_of
calls-more es e call is = calls-append es (e ∷ []) ∙ rw is refl

calls-same : (es : List Event) (e : Event) → call_of e ≡ None → calls_of (es ++ e ∷ []) ≡ calls_of es
unfolding calls_of
calls-same es e none = calls-append es (e ∷ []) ∙ rw none refl

-- the lines of a column, and of the idles behind it
one-column : (es : List Event) (e : Event) (c : Column) → call_of e ≡ Some (taken c)
    → column_lines (es ++ e ∷ []) ≡ column_lines es ++ column_text (c ∷ replicate (idles_behind (calls_of es) c) Idle)
unfolding column_lines
one-column es e c is =
    ap (λ h. column_text (refilled h)) (calls-more es e (taken c) is)
    ∙ column_text-append (refilled (calls_of es)) (c ∷ replicate (idles_behind (calls_of es) c) Idle)

one-group : (es : List Event) (e : Event) → call_of e ≡ Some grouped → column_lines (es ++ e ∷ []) ≡ column_lines es
unfolding column_lines
one-group es e is = ap (λ h. column_text (refilled h)) (calls-more es e grouped is)

one-other : (es : List Event) (e : Event) → call_of e ≡ None → column_lines (es ++ e ∷ []) ≡ column_lines es
unfolding column_lines
one-other es e none = ap (λ h. column_text (refilled h)) (calls-same es e none)

no-lines : column_lines [] ≡ []
unfolding column_lines calls_of column_text
no-lines = refl

-- the call that an answer stands for
abbrev pub call_of_answer : Answer → Option Call
call_of_answer answer.Group = Some grouped
call_of_answer (answer.Column c) = Some (taken c)
call_of_answer a = None

same-call : (a : Answer) (e : Event) → IsAnswer a e → call_of e ≡ call_of_answer a
unfolding IsAnswer
same-call (answer.Failed fault) e is = rw is refl
same-call (answer.Aligned order) e is = rw is refl
same-call (answer.Report r) e is = rw is refl
same-call answer.Frame e is = rw is.1 refl
same-call (answer.Dropped why) e is = rw is refl
same-call (answer.Lost at) e is = rw is refl
same-call answer.Group e is = rw is refl
same-call (answer.Column c) e is = rw is refl

other-call : (a : Answer) → a ≢ answer.Group → ((c : Column) → a ≢ answer.Column c) → call_of_answer a ≡ None
other-call (answer.Failed fault) no-group no-column = refl
other-call (answer.Aligned order) no-group no-column = refl
other-call (answer.Report r) no-group no-column = refl
other-call answer.Frame no-group no-column = refl
other-call (answer.Dropped why) no-group no-column = refl
other-call (answer.Lost at) no-group no-column = refl
other-call answer.Group no-group no-column = absurd (no-group refl)
other-call (answer.Column c) no-group no-column = absurd (no-column c refl)

module _ {T : Type 0} (owed : T → ℕ) where
  -- tellers of columns keep their text, and what is owed
  abbrev pub TellsColumns : Meaning T
  TellsColumns teller text es = (text ≡ told_columns) × RefillStands (owed teller) (calls_of es)

  module _ (old new : T) (a : Answer) (e : Event) (is : IsAnswer a e) (held : Option (List ℕ)) (pending : List ℕ) where
    -- no line is put
    quiet : (text : EventText) (es : List Event) (start : Option (List ℕ)) → RefillStands (owed new) (calls_of (es ++ e ∷ []))
        → column_lines (es ++ e ∷ []) ≡ column_lines es → HasTold TellsColumns old text es start held pending
        → HasTold TellsColumns new text (es ++ e ∷ []) start held pending
    quiet text es start stands same t = record {
      keeps = (t.keeps.0, stands);
      grows = t.grows;
      wrote =
          subst (λ (x : EventText). Wrote start held (x.so_far (es ++ e ∷ [])) pending) (sym t.keeps.0)
          (subst (λ lines. Wrote start held lines pending) (sym same)
          (subst (λ (x : EventText). Wrote start held (x.so_far es) pending) t.keeps.0 t.wrote));
    }

    pub tells-group : a ≡ answer.Group → ((h : List Call) → RefillStands (owed old) h → RefillStands (owed new) (grouped ∷ h))
        → (text : EventText) (es : List Event) (start : Option (List ℕ)) → HasTold TellsColumns old text es start held pending
        → HasTold TellsColumns new text (es ++ e ∷ []) start held pending
    tells-group is_group stands text es start t =
        let call : call_of e ≡ Some grouped = same-call a e is ∙ ap call_of_answer is_group in
        quiet text es start (subst (RefillStands (owed new)) (sym (calls-more es e grouped call)) (stands (calls_of es) t.keeps.1)) (one-group es e call) t

    pub tells-other : owed new ≡ owed old → a ≢ answer.Group → ((c : Column) → a ≢ answer.Column c)
        → (text : EventText) (es : List Event) (start : Option (List ℕ)) → HasTold TellsColumns old text es start held pending
        → HasTold TellsColumns new text (es ++ e ∷ []) start held pending
    tells-other same no-group no-column text es start t =
        let call : call_of e ≡ None = same-call a e is ∙ other-call a no-group no-column in
        let stands = subst (λ n. RefillStands n (calls_of es)) (sym same) t.keeps.1 in
        quiet text es start (subst (RefillStands (owed new)) (sym (calls-same es e call)) stands) (one-other es e call) t

    module _ (c : Column) (is_column : a ≡ answer.Column c) (idles : ℕ)
        (answers : (h : List Call) → RefillStands (owed old) h → idles ≡ idles_behind h c) where
      call : call_of e ≡ Some (taken c)
      call = same-call a e is ∙ ap call_of_answer is_column

      line : (text : EventText) (es : List Event) (start : Option (List ℕ)) → HasTold TellsColumns old text es start held pending
          → column_lines es ++ column_text (c ∷ replicate idles Idle) ≡ column_lines (es ++ e ∷ [])
      line text es start t = ap (λ n. column_lines es ++ column_text (c ∷ replicate n Idle)) (answers (calls_of es) t.keeps.1) ∙ sym (one-column es e c call)

      pub tells-column : (held_now : Option (List ℕ)) (pending_now : List ℕ)
          → ((h : List Call) → RefillStands (owed old) h → RefillStands (owed new) (taken c ∷ h))
          → Puts held pending (column_text (c ∷ replicate idles Idle)) held_now pending_now
          → (text : EventText) (es : List Event) (start : Option (List ℕ)) → HasTold TellsColumns old text es start held pending
          → HasTold TellsColumns new text (es ++ e ∷ []) start held_now pending_now
      tells-column held_now pending_now stands puts text es start t = record {
        keeps = (t.keeps.0, subst (RefillStands (owed new)) (sym (calls-more es e (taken c) call)) (stands (calls_of es) t.keeps.1));
        grows = t.grows;
        wrote =
            subst (λ (x : EventText). Wrote start held_now (x.so_far (es ++ e ∷ [])) pending_now) (sym t.keeps.0)
            (subst (λ lines. Wrote start held_now lines pending_now) (line text es start t)
            (puts start (column_lines es) (subst (λ (x : EventText). Wrote start held (x.so_far es) pending) t.keeps.0 t.wrote)));
      }

      pub breaks-at-column : (held_now : Option (List ℕ)) → BreaksOff held pending (column_text (c ∷ replicate idles Idle)) held_now
          → (text : EventText) (es : List Event) (start : Option (List ℕ)) → HasTold TellsColumns old text es start held pending
          → AppendsFront start held_now (text.so_far (es ++ e ∷ []))
      breaks-at-column held_now breaks text es start t =
          subst (λ (x : EventText). AppendsFront start held_now (x.so_far (es ++ e ∷ []))) (sym t.keeps.0)
          (subst (AppendsFront start held_now) (line text es start t)
          (breaks start (column_lines es) (subst (λ (x : EventText). Wrote start held (x.so_far es) pending) t.keeps.0 t.wrote)))

-- ---- a receiver that was just opened
pub columns-start : {T : Type 0} (teller : T) (owed : T → ℕ) (x : State) (period skew : ℕ) (aligned : Bool)
    → RefillStands (owed teller) [] → HasBegun x period skew true → aligned ≡ false
    → IsListening (TellsColumns owed) x teller aligned (columns_text period skew) []
unfolding calls_of
columns-start teller owed x period skew aligned stands b none_yet =
    subst (λ a. IsListening (TellsColumns owed) x teller a (columns_text period skew) []) (sym none_yet)
    (listening-start (TellsColumns owed) x teller told_columns true period skew b (refl, stands) columns-grow)

pub text-grows : (period skew : ℕ) (beats more : List (List ℕ))
    → (rest : List ℕ) × ((columns_text period skew).so_far (beats ++ more) ≡ (columns_text period skew).so_far beats ++ rest)
text-grows period skew beats more = listening-grows told_columns true period skew columns-grow beats more

pub columns-none : (period skew : ℕ) (x : State) (start : Option (List ℕ)) (pending : List ℕ)
    → HasBegun x period skew true → pending ≡ [] → Wrote start start ((columns_text period skew).so_far []) pending
columns-none period skew x start pending b empty = wrote-none start _ pending (ap column_lines (no-events true x period skew b) ∙ no-lines) empty

-- ---- idles put one by one
abbrev pub idle_lines : ℕ → List ℕ
idle_lines count = column_text (replicate count Idle)

pub no-idles : (held : Option (List ℕ)) (pending : List ℕ) → Puts held pending (idle_lines 0) held pending
unfolding column_text
no-idles held pending = puts-none held pending [] refl

module _ (line : List ℕ) (block : Block) (is : line ≡ block_line block) (of_idle : block ≡ block_of Idle) where
  idle-line : column_text (Idle ∷ []) ≡ line
  idle-line = column_text-one Idle ∙ sym (is ∙ ap block_line of_idle)

  idles-both : (i j : ℕ) → idle_lines (i + j) ≡ idle_lines i ++ idle_lines j
  idles-both i j = ap column_text (sym (replicate-append-replicate i j Idle)) ∙ column_text-append (replicate i Idle) (replicate j Idle)

  idles-more : (i : ℕ) → idle_lines (i + 1) ≡ idle_lines i ++ line
  idles-more i = idles-both i 1 ∙ ap (λ t. idle_lines i ++ t) idle-line

  pub puts-idle : (held mid now : Option (List ℕ)) (old between new : List ℕ) (i : ℕ) → Puts held old (idle_lines i) mid between
      → Puts mid between line now new → Puts held old (idle_lines (i + 1)) now new
  puts-idle held mid now old between new i p q =
      subst (λ t. Puts held old t now new) (sym (idles-more i)) (puts-both held mid now old between new (idle_lines i) line p q)

  pub breaks-idle : (held mid now : Option (List ℕ)) (old between : List ℕ) (i count : ℕ) → i ≤ count → Puts held old (idle_lines i) mid between
      → BreaksOffBefore mid between now → BreaksOff held old (idle_lines count) now
  breaks-idle held mid now old between i count low p failed =
      let all : i + (count - i) ≡ count = omega arith in
      subst (λ t. BreaksOff held old t now) (sym (idles-both i (count - i)) ∙ ap idle_lines all)
      (breaks-within held mid now old between (idle_lines i) (idle_lines (count - i)) p failed)

pub all-idles : (held now : Option (List ℕ)) (old new : List ℕ) (i count : ℕ) → i ≡ count → Puts held old (idle_lines i) now new
    → Puts held old (idle_lines count) now new
all-idles held now old new i count all p = subst (λ n. Puts held old (idle_lines n) now new) all p

-- ---- a column and the idles behind it
module _ (c : Column) (block : Block) (line : List ℕ) (is : line ≡ block_line block) (of_column : block ≡ block_of c) (idles : ℕ)
    (held mid now : Option (List ℕ)) (old between : List ℕ) where
  lines : column_text (c ∷ replicate idles Idle) ≡ line ++ idle_lines idles
  lines =
      column_text-append (c ∷ []) (replicate idles Idle)
      ∙ ap (λ t. t ++ idle_lines idles) (column_text-one c ∙ sym (is ∙ ap block_line of_column))

  pub puts-column : (new : List ℕ) → Puts held old line mid between → Puts mid between (idle_lines idles) now new
      → Puts held old (column_text (c ∷ replicate idles Idle)) now new
  puts-column new p q = subst (λ t. Puts held old t now new) (sym lines) (puts-both held mid now old between new line (idle_lines idles) p q)

  pub breaks-behind : Puts held old line mid between → BreaksOff mid between (idle_lines idles) now
      → BreaksOff held old (column_text (c ∷ replicate idles Idle)) now
  breaks-behind p failed = subst (λ t. BreaksOff held old t now) (sym lines) (breaks-later held mid now old between line (idle_lines idles) p failed)
