-- Lines that a task takes, named by the parsers that had them.
use Rattle.std.proofs.Common.{◌≡◌, ℕ, ◌^◌, List, [], ◌∷◌, ◌++◌, map, Option, ap, sym, subst, refl, ◌∙◌, inl}
use Rattle.std.proofs.lemmas.List.{map-append}
use Rattle.pcs_io.specs.Octets.{Told, AppendsFront}
use Rattle.pcs_io.specs.Grammars.{LineAt}
use Rattle.pcs_io.specs.Histories.{ReaderState, Stands, opened}
use Rattle.pcs_io.proofs.Told.{gives-none}
use Rattle.pcs_drive.specs.Writing.{Wrote, Puts, BreaksOff}
use Rattle.pcs_drive.specs.LineTasks.{IsTextOf, TakesLine, PutsLine, BreaksAtLine, by_lines, KeepsLines}
use Rattle.pcs_drive.proofs.Copying.{Copied, opened-near}

-- parsers had these lines, and the task has taken them
abbrev pub Kept : {T P X : Type 0} → (T → List P → Type 0) → (P → X) → T → List X → Type 0
Kept {T} {P} Keeps line task lines = (parsers : List P) × (map line parsers ≡ lines) × Keeps task parsers

module _ {T P X : Type 0} (Keeps : T → List P → Type 0) (line : P → X) where
  pub driven-start : (line_at : List ℕ → LineAt X) (text_of : List X → List ℕ) (task : T) (reader : ReaderState P) (before : Told) (start held : Option (List ℕ)) (pending : List ℕ)
      → Stands line_at reader (opened (2 ^ 40)) → Keeps task [] → Wrote start held (text_of []) pending
      → Copied line_at text_of (Kept Keeps line task) reader before before start held pending
  driven-start line_at text_of task reader before start held pending stands keeps wrote = record {
    octets = [];
    answered = [];
    stands = stands;
    near = opened-near line_at reader stands;
    took = gives-none before;
    wrote = wrote;
    keeps = ([], refl, keeps);
    asked = inl refl;
  }

  -- one parser more
  more-lines : (parsers : List P) (parser : P) (lines : List X) → map line parsers ≡ lines → map line (parsers ++ parser ∷ []) ≡ lines ++ line parser ∷ []
  more-lines parsers parser lines are = map-append line parsers (parser ∷ []) ∙ ap (λ ls. ls ++ line parser ∷ []) are

  pub kept-line : (old new : T) (parser : P) → TakesLine Keeps old new parser → (lines : List X) → Kept Keeps line old lines → Kept Keeps line new (lines ++ line parser ∷ [])
  kept-line old new parser takes lines kept = (kept.0 ++ parser ∷ [], more-lines kept.0 parser lines kept.1, takes kept.0 kept.2)

  module _ (text : List P → List ℕ) (text_of : List X → List ℕ) (same : IsTextOf text line text_of) (old : T) (parser : P) where
    pub put-line : (held_old held_new : Option (List ℕ)) (pending_old pending_new : List ℕ) → PutsLine Keeps text old parser held_old pending_old held_new pending_new
        → (lines : List X) → Kept Keeps line old lines → (start : Option (List ℕ))
        → Wrote start held_old (text_of lines) pending_old → Wrote start held_new (text_of (lines ++ line parser ∷ [])) pending_new
    put-line held_old held_new pending_old pending_new puts lines kept start wrote =
        let before : text kept.0 ≡ text_of lines = same kept.0 ∙ ap text_of kept.1 in
        let after : text (kept.0 ++ parser ∷ []) ≡ text_of (lines ++ line parser ∷ []) = same (kept.0 ++ parser ∷ []) ∙ ap text_of (more-lines kept.0 parser lines kept.1) in
        subst (λ t. Wrote start held_new t pending_new) after (puts kept.0 kept.2 start (subst (λ t. Wrote start held_old t pending_old) (sym before) wrote))

    pub broke-line : (held_old held_new : Option (List ℕ)) (pending_old : List ℕ) → BreaksAtLine Keeps text old parser held_old pending_old held_new
        → (lines : List X) → Kept Keeps line old lines → (start : Option (List ℕ))
        → Wrote start held_old (text_of lines) pending_old → AppendsFront start held_new (text_of (lines ++ line parser ∷ []))
    broke-line held_old held_new pending_old breaks lines kept start wrote =
        let before : text kept.0 ≡ text_of lines = same kept.0 ∙ ap text_of kept.1 in
        let after : text (kept.0 ++ parser ∷ []) ≡ text_of (lines ++ line parser ∷ []) = same (kept.0 ++ parser ∷ []) ∙ ap text_of (more-lines kept.0 parser lines kept.1) in
        subst (AppendsFront start held_new) after (breaks kept.0 kept.2 start (subst (λ t. Wrote start held_old t pending_old) (sym before) wrote))

-- ---- at a parser that has this line
module _ {P X : Type 0} (line : P → X) (parser : P) (x : X) (is : x ≡ line parser) where
  -- the lines of one parser more
  with-line : (parsers : List P) → map line parsers ++ x ∷ [] ≡ map line (parsers ++ parser ∷ [])
  with-line parsers = ap (λ l. map line parsers ++ l ∷ []) is ∙ sym (map-append line parsers (parser ∷ []))

  -- a task whose meaning is one of lines
  module _ {T : Type 0} (Keeps : T → List X → Type 0) where
    pub takes-by : (old new : T) → ((lines : List X) → Keeps old lines → Keeps new (lines ++ x ∷ []))
        → TakesLine (KeepsLines line Keeps) old new parser
    takes-by old new takes parsers keeps = subst (Keeps new) (with-line parsers) (takes (map line parsers) keeps)

    pub puts-by : (text_of : List X → List ℕ) (old : T) (held_old held_new : Option (List ℕ)) (pending_old pending_new : List ℕ)
        → ((lines : List X) → Keeps old lines → (start : Option (List ℕ)) → Wrote start held_old (text_of lines) pending_old
        → Wrote start held_new (text_of (lines ++ x ∷ [])) pending_new)
        → PutsLine (KeepsLines line Keeps) (by_lines line text_of) old parser held_old pending_old held_new pending_new
    puts-by text_of old held_old held_new pending_old pending_new puts parsers keeps start wrote =
        subst (λ lines. Wrote start held_new (text_of lines) pending_new) (with-line parsers) (puts (map line parsers) keeps start wrote)

    pub breaks-by : (text_of : List X → List ℕ) (old : T) (held_old held_new : Option (List ℕ)) (pending_old : List ℕ)
        → ((lines : List X) → Keeps old lines → (start : Option (List ℕ)) → Wrote start held_old (text_of lines) pending_old
        → AppendsFront start held_new (text_of (lines ++ x ∷ [])))
        → BreaksAtLine (KeepsLines line Keeps) (by_lines line text_of) old parser held_old pending_old held_new
    breaks-by text_of old held_old held_new pending_old breaks parsers keeps start wrote =
        subst (λ lines. AppendsFront start held_new (text_of lines)) (with-line parsers) (breaks (map line parsers) keeps start wrote)

  -- a task that puts a piece for each line, whatever lines came before
  module _ (text_of : List X → List ℕ) (piece : X → List ℕ) (each : (lines : List X) (l : X) → text_of (lines ++ l ∷ []) ≡ text_of lines ++ piece l) where
    one-piece : (parsers : List P) → text_of (map line parsers) ++ piece x ≡ text_of (map line (parsers ++ parser ∷ []))
    one-piece parsers = sym (each (map line parsers) x) ∙ ap text_of (with-line parsers)

    module _ {T : Type 0} (Keeps : T → List P → Type 0) (old : T) where
      pub puts-piece : (held_old held_new : Option (List ℕ)) (pending_old pending_new : List ℕ)
          → Puts held_old pending_old (piece x) held_new pending_new
          → PutsLine Keeps (by_lines line text_of) old parser held_old pending_old held_new pending_new
      puts-piece held_old held_new pending_old pending_new puts parsers keeps start wrote =
          subst (λ t. Wrote start held_new t pending_new) (one-piece parsers) (puts start (text_of (map line parsers)) wrote)

      pub breaks-piece : (held_old held_new : Option (List ℕ)) (pending_old : List ℕ)
          → BreaksOff held_old pending_old (piece x) held_new
          → BreaksAtLine Keeps (by_lines line text_of) old parser held_old pending_old held_new
      breaks-piece held_old held_new pending_old breaks parsers keeps start wrote =
          subst (AppendsFront start held_new) (one-piece parsers) (breaks start (text_of (map line parsers)) wrote)
