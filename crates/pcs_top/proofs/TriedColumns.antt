-- What a trial sends, pair by pair and column by column.
use Rattle.std.proofs.Common.{◌≡◌, ℕ, suc, ◌+◌, ◌-◌, ◌*◌, ◌/◌, ◌≤◌, Bool, true, false, List, [], ◌∷◌, ◌++◌, length, take, drop, reverse, Some, None, Ok, Err, refl, sym, ◌∙◌, ap, subst, arith, inl, inr, append_assoc, append-nil, length-append, add-one}
use Rattle.std.specs.Prelude.{Result, slice_get, slice_range, replicate}
use Rattle.std.proofs.lemmas.Bool.{cases_lt, false≢true}
use Rattle.std.proofs.lemmas.List.{get_or_append_left, get_or-append_right, reverse-append, take-append-drop, length-replicate}
use Rattle.bit_lists.specs.Places.{flat}
use Rattle.bit_lists.proofs.ByPlaces.{flat-append, length-for_each}
use Rattle.mac_columns.specs.declared.column.Column.{Column}
use Rattle.mac_columns.specs.declared.column.Column.TheVariants.{Data, End, Idle}
use Rattle.mac_columns.specs.Columns.{data_columns, remainder, body_of, columns_of}
use Rattle.mac_columns.specs.Sending.{Sending as Giving, Stands as Gives, sending as giving, sent as given_one}
use Rattle.lane_impair.specs.Noise.{state_after}
use Rattle.rate_match.specs.Kept.{debt, HasLegalGaps}
use Rattle.rate_match.specs.declared.thin.TooTight.{TooTight}
use Rattle.rate_match.proofs.Keeping.{debt-nil, legal_gaps-nil, legal_gaps-front, legal_gaps-whole}
use Rattle.pcs_send.specs.Transmission.{pair_bits, pair_lanes, pair_beats, begun_columns, sent_columns}
use Rattle.pcs_send.specs.Histories.{Sending, end_column, is_full, is_begun, after_put, put_answer, after_take}
use Rattle.pcs_send.specs.Holding.{State, Stands}
use Rattle.pcs_send.specs.declared.sender.Put.{Put}
use Rattle.pcs_send.specs.declared.sender.Put.TheVariants.{More, PairReady}
use Rattle.pcs_drive.specs.Writing.{Puts}
use Rattle.pcs_drive.proofs.WritingLemmas.{wrote-more, wrote-flushed}
use Rattle.pcs_words.specs.declared.command.TrialOptions.{TrialOptions}
use Rattle.trial_laws.specs.Trial.{next_seed}
use Rattle.pcs_top.specs.Captures.{form_header}
use Rattle.pcs_top.specs.Sending.{HasPut, with_pairs, filled_columns, AreWhole}
use Rattle.pcs_top.specs.Channels.{HasTaken}
use Rattle.pcs_top.specs.Trials.{encoding, with_beats, HasBurst, HasStruck, HasPlaced, HasTried}
use Rattle.pcs_top.specs.declared.channel.Channel.{Channel}
use Rattle.pcs_top.specs.declared.trial.Trying.{Trying}
use Rattle.pcs_top.proofs.Idling.{with_idles}
use Rattle.pcs_top.proofs.Capturing.{idle-pair-sent, filled-full, filled-stands, with_no_pairs, with_one_pair}
use Rattle.pcs_top.proofs.PuttingColumns.{more-put, refused-put, full-put}
use Rattle.pcs_top.proofs.PuttingBlocks.{at-some, at-none}
use Rattle.pcs_top.proofs.Framing.{lead-is, all-whole, none-to-fill, pair-filled, end-is}
use Rattle.pcs_top.proofs.Bursts.{bursts-append}
use Rattle.pcs_top.proofs.TrialEnds.{AreSixteen, sixteen-beats_of}

-- ---- the beats of a pair
sixteen-append : (xs ys : List (List ℕ)) → AreSixteen xs → AreSixteen ys → AreSixteen (xs ++ ys)
sixteen-append xs ys first second b small = elim (cases_lt b (length xs)) [
  | inl low ↦ ap length (get_or_append_left xs ys [] b low) ∙ first b low
  | inr high ↦
      ap length (get_or-append_right xs ys (length xs) b [] refl high) ∙ second (b - length xs) (omega (arith, small, high, length-append xs ys))
]

sixteen-pair : (p : ℕ) (cs : List Column) (t : ℕ) → AreSixteen (pair_beats p cs t)
unfolding pair_beats
sixteen-pair p cs t = sixteen-beats_of (pair_lanes (pair_bits p cs t))

-- the beats of a pair are written behind the others
puts-beats : (options : TrialOptions) (sent pair beats : List (List ℕ)) → pair ≡ beats
    → Puts (with_beats options sent) [] (flat beats) (with_beats options (sent ++ pair)) []
puts-beats options sent pair beats is start text w =
    let header = form_header 1 options.period in
    wrote-flushed start (with_beats options sent) (with_beats options (sent ++ pair)) (text ++ flat beats) (flat beats)
    (wrote-more start (with_beats options sent) text [] (flat beats) w)
    (ap (λ o. header ++ o) (flat-append sent pair) ∙ sym (append_assoc header (flat sent) (flat pair)) ∙ ap (λ o. (header ++ flat sent) ++ flat o) is)

-- a pair with its burst is handed to the channel
pub struck-next : (options : TrialOptions) (pairs lead words later : ℕ) (old new : Channel) (sent pair struck : List (List ℕ))
    → HasStruck options pairs lead words old sent → length pair ≡ 85 → length struck ≡ 85
    → ((seed : ℕ) → words ≡ state_after (31 + (pairs - lead)) seed → later ≡ state_after (31 + (pairs + 1 - lead)) seed)
    → ((seed : ℕ) → words ≡ state_after (31 + (pairs - lead)) seed → HasBurst seed lead pairs pair struck)
    → ((o : TrialOptions) (beats : List (List ℕ)) → HasTaken o old beats → HasTaken o new (beats ++ struck))
    → HasStruck options (pairs + 1) lead later new (sent ++ pair)
struck-next options pairs lead words later old new sent pair struck s size size' draws bursts takes =
    let seed = next_seed options.seed in
    let quiet = 2 * options.period in
    let drawn = s.drawn ∙ ap (λ n. state_after (31 + (pairs - n)) seed) (sym s.quiet) in
    record {
      count = omega (arith, s.count, size, length-append sent pair);
      quiet = s.quiet;
      drawn = draws seed drawn ∙ ap (λ n. state_after (31 + (pairs + 1 - n)) seed) s.quiet;
      beats = s.beats ++ struck;
      bursts = bursts-append seed quiet pairs sent s.beats pair struck s.count size size' s.bursts
          (subst (λ n. HasBurst seed n pairs pair struck) s.quiet (bursts seed drawn));
      taken = takes options s.beats s.taken;
    }

-- what is known of a pair that was taken from a sender and handed to the channel
abbrev pub StruckNext : TrialOptions → State → ℕ → ℕ → ℕ → Channel → List (List ℕ) → Type 0
StruckNext options mid pairs lead words channel sent =
    (pair : List (List ℕ)) × ((h : Sending) → Stands mid h → pair ≡ pair_beats h.period h.placed h.taken)
    × HasStruck options pairs lead words channel (sent ++ pair)

-- ---- pairs of idles
module _ (options : TrialOptions) (old mid : State) (pairs lead words : ℕ) (channel : Channel) (cs : List Column) (owed : ℕ)
    (has : HasPlaced options old pairs lead words channel cs owed) (fills : (h : Sending) → Stands old h → Stands mid (with_idles h (end_column h - length h.placed))) where
  abbrev filled : Sending
  filled = let h = has.placed.history in with_idles h (end_column h - length h.placed)

  pub idle-pair-places : (new : State) (pairs' lead' words' : ℕ) (channel' : Channel) → ((h : Sending) → Stands mid h → Stands new (after_take h))
      → StruckNext options mid pairs' lead' words' channel' has.sent
      → HasPlaced options new pairs' lead' words' channel' (with_pairs options.period cs 1) owed
  idle-pair-places new pairs' lead' words' channel' takes (pair, is, struck) =
      let full = filled-stands old 1 options.period cs owed (Some []) (with_beats options has.sent) [] has.placed mid fills in
      record {
        sent = has.sent ++ pair;
        each = sixteen-append has.sent pair has.each (subst AreSixteen (sym (is filled full)) (sixteen-pair filled.period filled.placed filled.taken));
        placed = idle-pair-sent old 1 options.period cs owed (Some []) (with_beats options has.sent) [] has.placed mid fills (with_beats options (has.sent ++ pair)) new [] takes
            (λ h stands. puts-beats options has.sent pair (pair_beats h.period h.placed h.taken) (is h stands));
        struck = struck;
      }

  -- the pair is full then
  pub idle-pair-full : (ready : Bool) → ((h : Sending) → Stands mid h → ready ≡ is_full h) → ready ≡ false → ⊥
  idle-pair-full ready tells never =
      let full = filled-stands old 1 options.period cs owed (Some []) (with_beats options has.sent) [] has.placed mid fills in
      false≢true (sym never ∙ tells filled full ∙ filled-full old 1 options.period cs owed (Some []) (with_beats options has.sent) [] has.placed)

module _ (options : TrialOptions) (s : State) (pairs lead words : ℕ) (channel : Channel) (cs : List Column) (owed : ℕ) (whole : AreWhole options.period cs) where
  pub idle-pairs-none : HasPlaced options s pairs lead words channel cs owed → HasPlaced options s pairs lead words channel (with_pairs options.period cs 0) owed
  idle-pairs-none has = subst (λ xs. HasPlaced options s pairs lead words channel xs owed) (sym (with_no_pairs options.period cs whole)) has

  pub idle-pairs-next : (n : ℕ) → HasPlaced options s pairs lead words channel (with_pairs options.period (with_pairs options.period cs n) 1) owed
      → HasPlaced options s pairs lead words channel (with_pairs options.period cs (n + 1)) owed
  idle-pairs-next n has = subst (λ xs. HasPlaced options s pairs lead words channel xs owed) (with_one_pair options.period cs n whole) has

-- the lead, before any column
pub lead-tried : (options : TrialOptions) (t : Trying) (count : ℕ) → 1 ≤ options.period → count ≡ 2 * options.period → t.columns ≡ 0
    → HasPlaced options t.sender t.pairs t.lead t.words t.channel (with_pairs options.period [] count) 0 → HasTried options t []
lead-tried options t count least is none has = record {
  places = subst (λ owed. HasPlaced options t.sender t.pairs t.lead t.words t.channel (begun_columns options.period 2 []) owed) (sym (debt-nil options.period))
      (subst (λ xs. HasPlaced options t.sender t.pairs t.lead t.words t.channel xs 0) (ap (with_pairs options.period []) is ∙ lead-is (encoding options) least) has);
  legal = legal_gaps-nil options.period;
  least = least;
  count = none;
}

-- ---- columns
module _ (options : TrialOptions) (old : Trying) (cs : List Column) (has : HasTried options old cs) where
  abbrev sent : List (List ℕ)
  sent = has.places.sent

  abbrev put-of : HasPut old.sender (encoding options) cs (Some []) (with_beats options sent) []
  put-of = record { sent = has.places.placed; legal = has.legal; least = has.least }

  abbrev h : Sending
  h = has.places.placed.history

  module _ (c : Column) (answer : Result Put TooTight) (answers : (h : Sending) → Stands old.sender h → answer ≡ put_answer h c) where
    -- the pair in hand has room for more
    pub more-tried : (new : Trying) → answer ≡ Ok More → ((h : Sending) → Stands old.sender h → Stands new.sender (after_put h c))
        → new.columns ≡ old.columns + 1 → HasStruck options new.pairs new.lead new.words new.channel sent → HasTried options new (cs ++ c ∷ [])
    more-tried new is stands more struck =
        let put = more-put old.sender (encoding options) cs (Some []) (with_beats options sent) [] put-of c new.sender
        (sym is ∙ answers h has.places.placed.stands) (stands h has.places.placed.stands) in
        record {
          places = record { sent = sent; each = has.places.each; placed = put.sent; struck = struck };
          legal = put.legal;
          least = has.least;
          count = omega (arith, more, has.count, length-append cs (c ∷ []));
        }

    -- the pair in hand is full, and is taken
    pub full-tried : (mid : State) (new : Trying) → answer ≡ Ok PairReady → ((h : Sending) → Stands old.sender h → Stands mid (after_put h c))
        → ((h : Sending) → Stands mid h → Stands new.sender (after_take h)) → new.columns ≡ old.columns + 1
        → StruckNext options mid new.pairs new.lead new.words new.channel sent → HasTried options new (cs ++ c ∷ [])
    full-tried mid new is stands takes more (pair, pair-is, struck) =
        let at = stands h has.places.placed.stands in
        let put = full-put old.sender (encoding options) cs (Some []) (with_beats options sent) [] put-of c mid
        (sym is ∙ answers h has.places.placed.stands) at (with_beats options (sent ++ pair)) new.sender [] takes
        (λ x holds. puts-beats options sent pair (pair_beats x.period x.placed x.taken) (pair-is x holds)) in
        let after = after_put h c in
        record {
          places = record {
            sent = sent ++ pair;
            each = sixteen-append sent pair has.places.each (subst AreSixteen (sym (pair-is after at)) (sixteen-pair after.period after.placed after.taken));
            placed = put.sent;
            struck = struck;
          };
          legal = put.legal;
          least = has.least;
          count = omega (arith, more, has.count, length-append cs (c ∷ []));
        }

    -- no column of legal gaps is refused
    pub never-refused : (e : TooTight) → answer ≡ Err e → HasLegalGaps options.period (cs ++ c ∷ []) → ⊥
    never-refused e is legal =
        let over = refused-put old.sender (encoding options) cs (Some []) (with_beats options sent) [] put-of c e (sym is ∙ answers h has.places.placed.stands) in
        omega (arith, over, legal_gaps-whole options.period (cs ++ c ∷ []) legal, ap (debt options.period) (reverse-append cs (c ∷ [])))

  -- ---- the end
  pub none-filled : is_begun h ≡ false → HasPlaced options old.sender old.pairs old.lead old.words old.channel (filled_columns (encoding options) cs) (debt options.period (reverse cs))
  none-filled not = record {
    sent = sent;
    each = has.places.each;
    placed = none-to-fill old.sender (encoding options) cs (Some []) (with_beats options sent) [] put-of not;
    struck = has.places.struck;
  }

  pub last-filled : (new : Trying) → is_begun h ≡ true
      → HasPlaced options new.sender new.pairs new.lead new.words new.channel (with_pairs options.period (begun_columns options.period 2 cs) 1) (debt options.period (reverse cs))
      → HasPlaced options new.sender new.pairs new.lead new.words new.channel (filled_columns (encoding options) cs) (debt options.period (reverse cs))
  last-filled new begun filled = record {
    sent = filled.sent;
    each = filled.each;
    placed = pair-filled old.sender (encoding options) cs (Some []) (with_beats options sent) [] put-of new.sender (with_beats options filled.sent) [] begun filled.placed;
    struck = filled.struck;
  }

  pub whole-filled : AreWhole options.period (filled_columns (encoding options) cs)
  whole-filled = all-whole old.sender (encoding options) cs (Some []) (with_beats options sent) [] put-of

pub end-columns : (options : TrialOptions) (cs : List Column) (count : ℕ) → 1 ≤ options.period → options.period ≡ count
    → AreWhole options.period (filled_columns (encoding options) cs)
    → with_pairs options.period (filled_columns (encoding options) cs) count ≡ sent_columns options.period 2 1 cs
end-columns options cs count least is whole = end-is (encoding options) cs count least (omega (arith, is)) whole

-- ---- the columns of a frame
pub record FrameTried (columns left : List Column) (first now : Trying) : Type 0 where
  pub given : ℕ
  pub stands : Gives left (record { columns = columns; given = given })
  pub tried : (options : TrialOptions) (cs : List Column) → HasTried options first cs → HasLegalGaps options.period (cs ++ columns)
      → HasTried options now (cs ++ take given columns)

pub frame-first : (columns left : List Column) (t : Trying) → Gives left (giving columns) → FrameTried columns left t t
frame-first columns left t stands = record {
  given = 0;
  stands = stands;
  tried = λ options cs has legal. subst (HasTried options t) (sym (append-nil cs)) has;
}

module _ (columns left : List Column) (first mid : Trying) (f : FrameTried columns left first mid) where
  abbrev history : Giving
  history = record { columns = columns; given = f.given }

  pub frame-last : ((h : Giving) → Gives left h → None ≡ slice_get h.columns h.given)
      → (options : TrialOptions) (cs : List Column) → HasTried options first cs → HasLegalGaps options.period (cs ++ columns) → HasTried options mid (cs ++ columns)
  frame-last none options cs has legal =
      subst (λ xs. HasTried options mid (cs ++ xs)) (at-none columns f.given (none history f.stands)) (f.tried options cs has legal)

  pub frame-next : (column : Column) → ((h : Giving) → Gives left h → Some column ≡ slice_get h.columns h.given) → (right : List Column) (now : Trying)
      → ((h : Giving) → Gives left h → Gives right (given_one h (Some column)))
      → ((options : TrialOptions) (cs : List Column) → HasTried options mid cs → HasLegalGaps options.period (cs ++ column ∷ []) → HasTried options now (cs ++ column ∷ []))
      → FrameTried columns right first now
  frame-next column at right now on more =
      let next : take (suc f.given) columns ≡ take f.given columns ++ column ∷ [] = at-some columns f.given column (at history f.stands) in
      let rest = drop (suc f.given) columns in
      let behind : (cs : List Column) → (cs ++ take f.given columns) ++ column ∷ [] ≡ cs ++ take (suc f.given) columns =
      λ cs. append_assoc cs (take f.given columns) (column ∷ []) ∙ ap (λ xs. cs ++ xs) (sym next) in
      let all : (cs : List Column) → cs ++ columns ≡ ((cs ++ take f.given columns) ++ column ∷ []) ++ rest =
      λ cs. ap (λ xs. cs ++ xs) (sym (take-append-drop (suc f.given) columns)) ∙ sym (append_assoc cs (take (suc f.given) columns) rest)
      ∙ ap (λ xs. xs ++ rest) (sym (behind cs)) in
      record {
        given = f.given + 1;
        stands = on history f.stands;
        tried = λ options cs has legal.
            subst (HasTried options now) (behind cs ∙ ap (λ n. cs ++ take n columns) (sym (add-one f.given)))
            (more options (cs ++ take f.given columns) (f.tried options cs has legal)
            (legal_gaps-front options.period ((cs ++ take f.given columns) ++ column ∷ []) rest (subst (HasLegalGaps options.period) (all cs) legal)));
      }

-- how many columns are given
pub length-left : (frame : List ℕ) (gap : ℕ) (left : List Column) → Gives left (giving (columns_of frame gap)) → length left ≡ 2 + length frame / 8 + gap
unfolding Gives columns_of body_of
length-left frame gap left is =
    let rest = replicate gap Idle in
    ap length is ∙ ap suc (length-append (data_columns frame) (End (remainder frame) ∷ rest))
    ∙ omega (arith, length-for_each (length frame / 8) (λ k. Data (slice_range frame (8 * k) (8 * k + 8))), length-replicate {A = Column} gap Idle)
