-- An input in the grammar is turned into its text, and the input decides how a command ends.
use Rattle.std.proofs.Common.{◌≡◌, ℕ, ◌-◌, ◌^◌, ◌<◌, ◌⊎◌, inl, inr, List, [], ◌++◌, length, take, Result, Ok, Err, sym, ◌∙◌, ap, subst, refl, append_assoc, arith, ◌∷◌, ◌+◌, length-append}
use Rattle.std.proofs.lemmas.List.{reverse-append}
use Rattle.mac_columns.specs.declared.column.Column.{Column}
use Rattle.pcs_watch.specs.Watching.{Seen as Watched}
use Rattle.rate_match.specs.Kept.{debt, HasLegalGaps}
use Rattle.rate_match.proofs.Keeping.{legal_gaps-front, legal_gaps-whole}
use Rattle.pcs_io.specs.Faults.{Rose}
use Rattle.pcs_io.specs.Captures.{header_at, levels_header_at}
use Rattle.pcs_io.specs.FrameLines.{FrameLine, frame_line_at}
use Rattle.pcs_io.specs.FrameGrammar.{frame_grammar}
use Rattle.pcs_io.specs.BlockLines.{block_line_at}
use Rattle.pcs_io.specs.BlockGrammar.{block_grammar}
use Rattle.pcs_io.specs.SymbolLines.{symbol_line_at}
use Rattle.pcs_io.specs.SymbolGrammar.{symbol_grammar}
use Rattle.pcs_io.specs.Grammars.{Begins, AreLines}
use Rattle.pcs_io.proofs.LineLaws.{begins-more}
use Rattle.pcs_words.specs.declared.command.Command.{Command}
use Rattle.pcs_words.specs.declared.command.Command.TheVariants as command
use Rattle.pcs_words.specs.declared.command.EncodeOptions.{EncodeOptions}
use Rattle.pcs_words.specs.declared.command.TrialOptions.{TrialOptions}
use Rattle.pcs_words.specs.declared.refusal.Refusal.{Refusal}
use Rattle.pcs_words.specs.declared.refusal.Refusal.TheVariants as refusal
use Rattle.pcs_drive.specs.Seen.{Seen, ReadFailed, WriteFailed}
use Rattle.pcs_drive.specs.LineCommand.{Converted, OrNoMemory}
use Rattle.pcs_drive.specs.CaptureCommand.{CaptureText, FromCapture, FromLevels}
use Rattle.pcs_drive.specs.declared.outcome.Outcome.{Outcome}
use Rattle.pcs_drive.specs.declared.outcome.Outcome.TheVariants.{Done, ReadFault, WriteFault, NoMemory, BadLine, TooTight, TooLong}
use Rattle.pcs_drive.proofs.Completing.{front, all, converted, captured}
use Rattle.pcs_drive.proofs.HeadersStay.{header-stays, levels-stay}
use Rattle.pcs_late.specs.Kr.{kr_text}
use Rattle.pcs_late.specs.Multiplexing.{multiplexed}
use Rattle.pcs_late.specs.Demultiplexing.{demultiplexed}
use Rattle.pcs_late.specs.declared.pcap_outcome.PcapOutcome.{PcapOutcome}
use Rattle.pcs_late.specs.declared.pcap_outcome.PcapOutcome.TheVariants.{Usual}
use Rattle.pcs_late.specs.Laws.{IsSettledPcap}
use Rattle.pcs_late.proofs.FilesDecide.{pcap-decides}
use Rattle.pcs_late.proofs.WholeFiles.{pcap-complete}
use Rattle.pcs_top.specs.Notes.{Heard, Noted}
use Rattle.pcs_top.specs.Texts.{block_text, unblock_text}
use Rattle.pcs_top.specs.LineColumns.{columns_of_line, columns_of_lines}
use Rattle.pcs_top.specs.Encoding.{Encoded, IsTooTight}
use Rattle.pcs_top.specs.Decoding.{decoded}
use Rattle.pcs_top.specs.Reporting.{reported}
use Rattle.pcs_top.specs.ColumnTexts.{columned}
use Rattle.pcs_top.specs.Migrating.{migrated}
use Rattle.pcs_top.specs.Impairing.{impairing}
use Rattle.pcs_top.specs.Trying.{Tried}
use Rattle.pcs_top.specs.Statuses.{ByOutcome, status_of, status_of_pcap}
use Rattle.pcs_top.specs.Top.{Answers, Performs, Runs, IsWholeCapture, IsWholeLevels, InGrammar, NothingFailed, IsComplete}
use Rattle.pcs_top.specs.declared.status.Status.{Status}
use Rattle.pcs_top.specs.declared.status.Status.TheVariants as answer
use Rattle.pcs_top.proofs.Encoding.{columns-append, one-line}
use Rattle.std.proofs.lemmas.Bool.{cases_lt}
use Rattle.pcs_drive.specs.Deciding.{IsSettled, Given, Decides}
use Rattle.pcs_drive.proofs.Deciding.{settled, Stopped, one-stop, stopped-done, stopped-bad, stopped-long, stops, longer, reach, reach-front, lines-decide, files-decide}
use Rattle.pcs_top.specs.Laws.{IsSettled as IsSettledStatus, EncodeDecides, CommandsDecide}

-- no column of an input with legal gaps brings the debt above its limit
module _ (options : EncodeOptions) (lines : List FrameLine) (line : FrameLine) (own : List Column) where
  abbrev before : List Column
  before = columns_of_lines lines

  none-over : (others : List FrameLine) → HasLegalGaps options.period (columns_of_lines ((lines ++ line ∷ []) ++ others))
      → IsTooTight options.period before own (columns_of_line line) → ⊥
  none-over others legal tight =
      let up_to = (before ++ own) ++ tight.column ∷ [] in
      let parts : columns_of_lines ((lines ++ line ∷ []) ++ others) ≡ up_to ++ (tight.rest ++ columns_of_lines others) =
      columns-append (lines ++ line ∷ []) others
      ∙ ap (λ cs. cs ++ columns_of_lines others) (one-line lines line ∙ ap (λ cs. before ++ cs) tight.parts
      ∙ sym (append_assoc before own (tight.column ∷ tight.rest)) ∙ sym (append_assoc (before ++ own) (tight.column ∷ []) tight.rest))
      ∙ append_assoc up_to tight.rest (columns_of_lines others) in
      let front_legal = legal_gaps-front options.period up_to (tight.rest ++ columns_of_lines others) (subst (HasLegalGaps options.period) parts legal) in
      omega (arith, tight.debt, legal_gaps-whole options.period up_to front_legal, ap (debt options.period) (reverse-append (before ++ own) (tight.column ∷ [])))

module _ (options : EncodeOptions) (input : List ℕ) where
  -- these are all lines that are read, and their gaps are legal
  record Legal (outcome : Outcome) : Type 0 where
    pub lines : List FrameLine
    pub legal : HasLegalGaps options.period (columns_of_lines lines)
    pub stopped : Stopped frame_line_at frame_grammar input lines outcome

  -- the gaps of the lines up to this one aren't
  record Tight (outcome : Outcome) : Type 0 where
    pub lines : List FrameLine
    pub line : FrameLine
    pub rest : List ℕ
    pub own : List Column
    pub begins : Begins frame_line_at (reach input) (lines ++ line ∷ []) rest
    pub tight : IsTooTight options.period (columns_of_lines lines) own (columns_of_line line)
    pub is : outcome ≡ TooTight (length lines + 1)

  ended : (seen : Seen) (outcome : Outcome) → Given seen input → Encoded options seen outcome → IsSettled outcome
      → Legal outcome ⊎ Tight outcome
  ended seen Done g e s = inl (record {
    lines = e.1;
    legal = e.5;
    stopped = stopped-done frame_line_at frame_grammar input e.0 e.1 (all seen input e.0 g e.2) e.4 e.3;
  })
  ended seen ReadFault g e s = absurd (s.reads refl)
  ended seen WriteFault g e s = absurd (s.writes refl)
  ended seen (BadLine number kind) g e s = inl (record {
    lines = e.1;
    legal = e.4.legal;
    stopped =
        subst (λ n. Stopped frame_line_at frame_grammar input e.1 (BadLine n kind)) (sym e.2)
        (stopped-bad frame_line_at frame_grammar seen input e.0 e.1 kind g e.3);
  })
  ended seen (TooTight frame) g e s =
      let more = take (2 ^ 40 - length e.0) g.rest in
      let same = reach-front input e.0 g.rest (front seen input e.0 g e.6) e.7 in
      inr (record {
        lines = e.1;
        line = e.2;
        rest = e.3 ++ more;
        own = e.4;
        begins =
            subst (λ os. Begins frame_line_at os (e.1 ++ e.2 ∷ []) (e.3 ++ more)) (sym same)
            (begins-more frame_line_at e.0 (e.1 ++ e.2 ∷ []) e.3 more frame_grammar e.8);
        tight = e.10;
        is = ap (λ n. TooTight n) e.5;
      })
  ended seen TooLong g e s = inl (record { lines = e.1; legal = e.5.legal; stopped = stopped-long frame_line_at frame_grammar seen input e.0 e.1 g e.2 e.4 e.3 })
  ended seen outcome g e s = absurd e

  not-both : (first second : Outcome) → Legal first → Tight second → ⊥
  not-both first second l t =
      let s = l.stopped in
      let more = stops frame_line_at frame_grammar (reach input) l.lines (t.lines ++ t.line ∷ []) s.rest t.rest s.begins s.stop t.begins in
      none-over options t.lines t.line t.own more.0 (subst (λ ls. HasLegalGaps options.period (columns_of_lines ls)) more.1 l.legal) t.tight

  no-earlier : (first second : Outcome) (a : Tight first) (b : Tight second) → length a.lines < length b.lines → ⊥
  no-earlier first second a b low =
      let more = longer frame_line_at frame_grammar (reach input) b.lines (b.line ∷ []) (a.lines ++ a.line ∷ []) b.rest a.rest b.begins a.begins (omega (arith, low, length-append a.lines (a.line ∷ []))) in
      let legal = legal_gaps-front options.period (columns_of_lines b.lines) b.own b.tight.legal in
      none-over options a.lines a.line a.own more.0 (subst (λ ls. HasLegalGaps options.period (columns_of_lines ls)) more.1 legal) a.tight

  one-tight : (first second : Outcome) → Tight first → Tight second → first ≡ second
  one-tight first second a b = elim (cases_lt (length a.lines) (length b.lines)) [
    | inl low ↦ absurd (no-earlier first second a b low)
    | inr high ↦ elim (cases_lt (length b.lines) (length a.lines)) [
      | inl low ↦ absurd (no-earlier second first b a low)
      | inr same ↦ a.is ∙ ap (λ n. TooTight n) (omega (arith, high, same)) ∙ sym b.is
    ]
  ]

  one-of : (first second : Outcome) → Legal first ⊎ Tight first → Legal second ⊎ Tight second → first ≡ second
  one-of first second (inl a) (inl b) = one-stop frame_line_at frame_grammar input a.lines b.lines first second a.stopped b.stopped
  one-of first second (inl a) (inr b) = absurd (not-both first second a b)
  one-of first second (inr a) (inl b) = absurd (not-both second first b a)
  one-of first second (inr a) (inr b) = one-tight first second a b

pub encode-decides : EncodeDecides
encode-decides options input one other first second g h a b s t =
    one-of options input first second (ended options input one first g a s) (ended options input other second h b t)

encoded : (options : EncodeOptions) (seen : Seen) (octets : List ℕ) (lines : List FrameLine) (outcome : Outcome) → Given seen octets
    → AreLines frame_line_at octets lines → HasLegalGaps options.period (columns_of_lines lines) → length octets < 2 ^ 40
    → ¬ ReadFailed seen → ¬ WriteFailed seen
    → Encoded options seen outcome → outcome ≡ Done
encoded options seen octets lines outcome g whole legal short reads writes c =
    let is = settled (Encoded options seen) seen outcome c (λ d. d.2) (λ d. d.2) (λ e. subst (Encoded options seen) e c) reads writes in
    one-of options octets outcome Done (ended options octets seen outcome g c is)
    (inl (record { lines = lines; legal = legal; stopped = stopped-done frame_line_at frame_grammar octets octets lines refl whole short }))

-- the line on the notes changes no status where no write failed
pub noted : (outcome status : Status) (heard : Heard) → ¬ Rose heard.writes_before heard.writes_after → Noted outcome heard status → status ≡ outcome
noted outcome status heard writes (inl done) = done.1 ∙ sym done.0
noted outcome status heard writes (inr (inl same)) = same.0
noted outcome status heard writes (inr (inr failed)) = absurd (writes failed.1)

-- the status of an outcome
by-outcome : (status : Status) (outcome : Outcome) → status ≡ status_of outcome → (outcome ≡ Done) ⊎ (outcome ≡ NoMemory)
    → (status ≡ answer.Done) ⊎ (status ≡ answer.NoMemory)
by-outcome status outcome is (inl done) = inl (is ∙ ap status_of done)
by-outcome status outcome is (inr none) = inr (is ∙ ap status_of none)

by-pcap : (status : Status) (outcome : PcapOutcome) → status ≡ status_of_pcap outcome → (outcome ≡ Usual Done) ⊎ (outcome ≡ Usual NoMemory)
    → (status ≡ answer.Done) ⊎ (status ≡ answer.NoMemory)
by-pcap status outcome is (inl done) = inl (is ∙ ap status_of_pcap done)
by-pcap status outcome is (inr none) = inr (is ∙ ap status_of_pcap none)

-- the same of a command on lines
by-lines : (Table : Seen → Outcome → Type 0) (seen : Seen) (status : Status) → ByOutcome (OrNoMemory Table seen) status
    → ((outcome : Outcome) → Table seen outcome → outcome ≡ Done) → (status ≡ answer.Done) ⊎ (status ≡ answer.NoMemory)
by-lines Table seen status (outcome, is, inl c) done = by-outcome status outcome is (inl (done outcome c))
by-lines Table seen status (outcome, is, inr none) done = by-outcome status outcome is (inr none.0)

-- and of one on captures
by-capture : (text : CaptureText) (seen : Seen) (octets : List ℕ) (status : Status) → Given seen octets
    → IsWholeCapture text octets → length octets < 2 ^ 40 → ¬ ReadFailed seen → ¬ WriteFailed seen → ByOutcome (FromCapture text seen) status
    → (status ≡ answer.Done) ⊎ (status ≡ answer.NoMemory)
by-capture text seen octets status g within short reads writes c =
    by-outcome status c.0 c.1 (captured header_at header-stays text seen octets within.0 within.1 g within.2 within.3 c.0 short reads writes c.2)

-- and of one on files of levels
by-levels : (phase : ℕ) (seen : Seen) (octets : List ℕ) (status : Status) → Given seen octets
    → IsWholeLevels octets → length octets < 2 ^ 40 → ¬ ReadFailed seen → ¬ WriteFailed seen → ByOutcome (FromLevels (demultiplexed phase) seen) status
    → (status ≡ answer.Done) ⊎ (status ≡ answer.NoMemory)
by-levels phase seen octets status g within short reads writes c =
    by-outcome status c.0 c.1
    (captured levels_header_at levels-stay (demultiplexed phase) seen octets within.0 within.1 g within.2 refl c.0 short reads writes c.2)

-- a trial reads nothing
tried : (options : TrialOptions) (seen : Seen) (outcome : Outcome) → ¬ WriteFailed seen → Tried options seen outcome → (outcome ≡ Done) ⊎ (outcome ≡ NoMemory)
tried options seen Done writes c = inl refl
tried options seen WriteFault writes c = absurd (writes c.1)
tried options seen NoMemory writes c = inr refl
tried options seen outcome writes c = absurd c

answers : (watchers : List Watched) (words : Result Command Refusal) (seen : Seen) (heard : Heard) (status : Status) (octets : List ℕ) → Given seen octets
    → InGrammar watchers words octets → length octets < 2 ^ 40 → NothingFailed seen heard → Answers watchers words seen status
    → (status ≡ answer.Done) ⊎ (status ≡ answer.NoMemory)
answers watchers (Err refusal.Memory) seen heard status octets g within short nothing c = absurd within
answers watchers (Err (refusal.Usage cause)) seen heard status octets g within short nothing c = absurd within
answers watchers (Ok command.Blocks) seen heard status octets g within short nothing c =
    by-lines (Converted frame_line_at block_text) seen status c (λ outcome d. converted frame_line_at frame_grammar block_text seen octets within.0 outcome g within.1 short nothing.reads nothing.writes d)
answers watchers (Ok command.Unblock) seen heard status octets g within short nothing c =
    by-lines (Converted block_line_at unblock_text) seen status c (λ outcome d. converted block_line_at block_grammar unblock_text seen octets within.0 outcome g within.1 short nothing.reads nothing.writes d)
answers watchers (Ok (command.Encode options)) seen heard status octets g within short nothing c =
    by-lines (Encoded options) seen status c (λ outcome d. encoded options seen octets within.0 outcome g within.1 within.2 short nothing.reads nothing.writes d)
answers watchers (Ok (command.Decode options)) seen heard status octets g within short nothing c =
    by-capture (decoded options.skew) seen octets status g within short nothing.reads nothing.writes c
answers watchers (Ok (command.Migrate options)) seen heard status octets g within short nothing c =
    by-capture (migrated options.skew) seen octets status g within short nothing.reads nothing.writes c
answers watchers (Ok (command.Report options)) seen heard status octets g within short nothing c =
    by-capture (reported watchers options.skew) seen octets status g within short nothing.reads nothing.writes c
answers watchers (Ok (command.Columns options)) seen heard status octets g within short nothing c =
    by-capture (columned options.skew) seen octets status g within short nothing.reads nothing.writes c
answers watchers (Ok (command.Impair items)) seen heard status octets g within short nothing c =
    by-capture (impairing items) seen octets status g within short nothing.reads nothing.writes c
answers watchers (Ok (command.Trial options)) seen heard status octets g within short nothing c =
    by-outcome status c.0 c.1 (tried options seen c.0 nothing.writes c.2)
answers watchers (Ok (command.Mux options)) seen heard status octets g within short nothing c =
    by-capture (multiplexed options.precode) seen octets status g within short nothing.reads nothing.writes c
answers watchers (Ok (command.Demux options)) seen heard status octets g within short nothing c =
    by-levels options.phase seen octets status g within short nothing.reads nothing.writes c
answers watchers (Ok command.Kr) seen heard status octets g within short nothing c =
    by-lines (Converted symbol_line_at kr_text) seen status c (λ outcome d. converted symbol_line_at symbol_grammar kr_text seen octets within.0 outcome g within.1 short nothing.reads nothing.writes d)
answers watchers (Ok (command.Pcap options)) seen heard status octets g within short nothing c =
    by-pcap status c.0 c.1 (pcap-complete seen octets g short nothing.reads nothing.writes options.gap options.short options.write c.0 within c.2)

pub complete : (watchers : List Watched) (words : Result Command Refusal) (seen : Seen) (heard : Heard) (status : Status)
    → Runs watchers words seen heard status → IsComplete watchers words seen heard status
complete watchers words seen heard status runs octets g within short nothing =
    rw (noted runs.0 status heard nothing.notes runs.2) (performs runs.1)
  where
    performs : Performs watchers words seen runs.0 → (runs.0 ≡ answer.Done) ⊎ (runs.0 ≡ answer.NoMemory)
    performs (inl c) = answers watchers words seen heard runs.0 octets g within short nothing c
    performs (inr none) = inr none.0

-- ---- of every command
tried-decide : (options : TrialOptions) (input : List ℕ) → Decides input (Tried options)
tried-decide options input one other first second g h a b s t = done one first a s ∙ sym (done other second b t)
  where
    done : (seen : Seen) (outcome : Outcome) → Tried options seen outcome → IsSettled outcome → outcome ≡ Done
    done seen Done c s = refl
    done seen WriteFault c s = absurd (s.writes refl)
    done seen NoMemory c s = absurd (s.memory refl)
    done seen outcome c s = absurd c

by-status : (outcome : Outcome) (status : Status) → status ≡ status_of outcome → IsSettledStatus status → IsSettled outcome
by-status outcome status is s = record { reads = λ e. s.reads (is ∙ ap status_of e); writes = λ e. s.writes (is ∙ ap status_of e); memory = λ e. s.memory (is ∙ ap status_of e) }

by-pcap-status : (outcome : PcapOutcome) (status : Status) → status ≡ status_of_pcap outcome → IsSettledStatus status → IsSettledPcap outcome
by-pcap-status outcome status is s = record { reads = λ e. s.reads (is ∙ ap status_of_pcap e); writes = λ e. s.writes (is ∙ ap status_of_pcap e); memory = λ e. s.memory (is ∙ ap status_of_pcap e) }

with-memory : (Table : Seen → Outcome → Type 0) (input : List ℕ) → Decides input Table → Decides input (OrNoMemory Table)
with-memory Table input decide one other first second g h (inl a) (inl b) s t = decide one other first second g h a b s t
with-memory Table input decide one other first second g h (inr none) b s t = absurd (s.memory none.0)
with-memory Table input decide one other first second g h (inl a) (inr none) s t = absurd (t.memory none.0)

module _ (watchers : List Watched) (input : List ℕ) (one other : Seen) (first second : Status)
    (g : Given one input) (h : Given other input) (s : IsSettledStatus first) (t : IsSettledStatus second) where
  one-outcome : (Table : Seen → Outcome → Type 0) → Decides input Table → ByOutcome (Table one) first → ByOutcome (Table other) second → first ≡ second
  one-outcome Table decide (x, is, a) (y, so, b) = is ∙ ap status_of (decide one other x y g h a b (by-status x first is s) (by-status y second so t)) ∙ sym so

  one-of-lines : (Table : Seen → Outcome → Type 0) → Decides input Table → ByOutcome (OrNoMemory Table one) first → ByOutcome (OrNoMemory Table other) second
      → first ≡ second
  one-of-lines Table decide a b = one-outcome (OrNoMemory Table) (with-memory Table input decide) a b

  one-of-captures : (text : CaptureText) → ByOutcome (FromCapture text one) first → ByOutcome (FromCapture text other) second → first ≡ second
  one-of-captures text a b = one-outcome (FromCapture text) (files-decide header_at header-stays text input) a b

  settled-answers : (words : Result Command Refusal) → Answers watchers words one first → Answers watchers words other second → first ≡ second
  settled-answers (Err refusal.Memory) a b = a.0 ∙ sym b.0
  settled-answers (Err (refusal.Usage cause)) a b = a.0 ∙ sym b.0
  settled-answers (Ok command.Blocks) a b = one-of-lines _ (lines-decide frame_line_at frame_grammar block_text input) a b
  settled-answers (Ok command.Unblock) a b = one-of-lines _ (lines-decide block_line_at block_grammar unblock_text input) a b
  settled-answers (Ok command.Kr) a b = one-of-lines _ (lines-decide symbol_line_at symbol_grammar kr_text input) a b
  settled-answers (Ok (command.Encode options)) a b = one-of-lines (Encoded options) (encode-decides options input) a b
  settled-answers (Ok (command.Decode options)) a b = one-of-captures (decoded options.skew) a b
  settled-answers (Ok (command.Report options)) a b = one-of-captures (reported watchers options.skew) a b
  settled-answers (Ok (command.Columns options)) a b = one-of-captures (columned options.skew) a b
  settled-answers (Ok (command.Impair items)) a b = one-of-captures (impairing items) a b
  settled-answers (Ok (command.Trial options)) a b = one-outcome (Tried options) (tried-decide options input) a b
  settled-answers (Ok (command.Migrate options)) a b = one-of-captures (migrated options.skew) a b
  settled-answers (Ok (command.Mux options)) a b = one-of-captures (multiplexed options.precode) a b
  settled-answers (Ok (command.Demux options)) a b = one-outcome _ (files-decide levels_header_at levels-stay (demultiplexed options.phase) input) a b
  settled-answers (Ok (command.Pcap options)) (x, is, a) (y, so, b) =
      is ∙ ap status_of_pcap (pcap-decides options.gap options.short options.write input one other x y g h a b (by-pcap-status x first is s) (by-pcap-status y second so t)) ∙ sym so

pub commands-decide : CommandsDecide
commands-decide watchers words input one other first second g h a b s t = settled-answers watchers input one other first second g h s t words a b
