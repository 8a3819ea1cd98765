-- The frames of a trial, sent one by one, and what all of it comes to.
use Rattle.std.proofs.Common.{◌≡◌, ℕ, suc, ◌+◌, ◌-◌, ◌*◌, ◌/◌, ◌^◌, ◌≤◌, Bool, List, [], ◌++◌, length, Some, refl, sym, ◌∙◌, ap, subst, arith, append_assoc, append-nil}
use Rattle.std.specs.Prelude.{sum_by}
use Rattle.std.proofs.lemmas.Nat.{mod_below}
use Rattle.std.proofs.lemmas.List.Sums.{sum_by-cons}
use Rattle.bit_lists.proofs.ByPlaces.{flat-nil}
use Rattle.mac_columns.specs.declared.column.Column.{Column}
use Rattle.mac_columns.specs.Columns.{columns_of}
use Rattle.lane_impair.specs.Noise.{state_after, word}
use Rattle.rate_match.specs.Kept.{HasLegalGaps}
use Rattle.rate_match.proofs.Keeping.{legal_gaps-front}
use Rattle.pcs_send.specs.Histories.{sending}
use Rattle.pcs_send.specs.Holding.{State, Stands}
use Rattle.pcs_words.specs.declared.command.TrialOptions.{TrialOptions}
use Rattle.trial_laws.specs.Counting.{Counted, given_frames}
use Rattle.trial_laws.specs.TrialFrames.{frame_of, gap_of, behind_frame, trial_frames}
use Rattle.trial_laws.specs.Trial.{next_seed, limit_of, made_columns, made_frames, trial_columns, trial_capture, trial_summary, corrected, are_same}
use Rattle.trial_laws.specs.declared.summary.Summary.{Summary}
use Rattle.trial_laws.proofs.Comparing.{next-made, none-made}
use Rattle.trial_laws.proofs.LegalGaps.{length_of-most, length-frame_of, trial_gaps_are_legal}
use Rattle.pcs_receive.specs.Events.{Event, events, good}
use Rattle.pcs_top.specs.Captures.{form_header}
use Rattle.pcs_top.specs.Channels.{HasTaken, events_heard, all_damaged}
use Rattle.pcs_top.specs.Trials.{with_beats, HasPlaced, HasTried, HasMade, HasEnded}
use Rattle.pcs_top.specs.declared.channel.Channel.{Channel}
use Rattle.pcs_top.specs.declared.trial.Trying.{Trying}
use Rattle.pcs_top.proofs.Framing.{header-sent}
use Rattle.pcs_top.proofs.Bursts.{no-bursts}
use Rattle.pcs_top.proofs.TrialEnds.{sent-is, pairs-are, received}

-- ---- before all
pub nothing-placed : (options : TrialOptions) (sender : State) (lead words : ℕ) (channel : Channel) → Stands sender (sending options.period)
    → lead ≡ 2 * options.period → words ≡ state_after 31 (next_seed options.seed) → HasTaken options channel []
    → HasPlaced options sender 0 lead words channel [] 0
nothing-placed options sender lead words channel stands quiet drawn taken =
    let header = form_header 1 options.period in
    let first : 31 ≡ 31 + (0 - 2 * options.period) = omega arith in
    record {
      sent = [];
      each = λ b low. absurd (omega (arith, low));
      placed = header-sent sender 1 options.period (Some []) (with_beats options []) [] header stands refl (record {
        written = header;
        appended = ap (λ o. header ++ o) flat-nil ∙ append-nil header;
        joined = sym (append-nil header);
      });
      struck = record {
        count = omega arith;
        quiet = quiet;
        drawn = drawn ∙ ap (λ n. state_after n (next_seed options.seed)) first;
        beats = [];
        bursts = no-bursts (next_seed options.seed) (2 * options.period);
        taken = taken;
      };
    }

-- ---- frames
next-columns : (state n : ℕ) → made_columns state (suc n) ≡ columns_of (frame_of state) (gap_of state) ++ made_columns (behind_frame state) n
unfolding trial_frames
next-columns state n = refl

no-columns : (state : ℕ) → made_columns state 0 ≡ []
unfolding trial_frames
no-columns state = refl

-- a frame and its gap are short
pub frame-short : (state gap : ℕ) (frame : List ℕ) → frame ≡ frame_of state → gap ≡ gap_of state → (length frame ≤ 1088) × (gap ≤ 64)
unfolding gap_of
frame-short state gap frame is gap-is =
    let most = length_of-most state in
    (omega (arith, ap length is, length-frame_of state, most), omega (arith, gap-is, most, mod_below (word 0 state / 2 ^ 10) 8 (omega arith)))

-- Some frames were put, and the others are those that a generator in this state makes.
pub record FramesTried (options : TrialOptions) (t : Trying) (state left : ℕ) : Type 0 where
  pub columns : List Column
  pub tried : HasTried options t columns
  pub all : made_columns options.seed options.count ≡ columns ++ made_columns state left
  pub octets : sum_by length (made_frames options.seed options.count) ≡ t.octets + sum_by length (made_frames state left)

pub frames-first : (options : TrialOptions) (t : Trying) (state left : ℕ) → HasTried options t [] → t.octets ≡ 0 → state ≡ options.seed → left ≡ options.count
    → FramesTried options t state left
frames-first options t state left tried none is count = rw (is, count) (record { columns = []; tried = tried; all = refl; octets = omega (arith, none) })

pub frames-next : (options : TrialOptions) (old mid new : Trying) (state later left rest gap : ℕ) (frame : List ℕ) → FramesTried options old state left
    → left ≡ suc rest → frame ≡ frame_of state → gap ≡ gap_of state → later ≡ behind_frame state → mid ≡ record old { octets = old.octets + length frame }
    → ((cs : List Column) → HasTried options mid cs → HasLegalGaps options.period (cs ++ columns_of frame gap) → HasTried options new (cs ++ columns_of frame gap))
    → new.octets ≡ mid.octets → FramesTried options new later rest
frames-next options old mid new state later left rest gap frame f more frame-is gap-is later-is mid-is puts same =
    let own = columns_of frame gap in
    let next : made_columns state left ≡ own ++ made_columns later rest =
    ap (made_columns state) more ∙ next-columns state rest
    ∙ sym (ap (λ x. columns_of x gap ++ made_columns later rest) frame-is ∙ ap (λ n. columns_of (frame_of state) n ++ made_columns later rest) gap-is
    ∙ ap (λ s. columns_of (frame_of state) (gap_of state) ++ made_columns s rest) later-is) in
    let all = f.all ∙ ap (λ xs. f.columns ++ xs) next ∙ sym (append_assoc f.columns own (made_columns later rest)) in
    let legal = legal_gaps-front options.period (f.columns ++ own) (made_columns later rest)
    (subst (HasLegalGaps options.period) all (trial_gaps_are_legal options.seed options.count options.period f.tried.least)) in
    let had : HasTried options (record old { octets = old.octets + length frame }) f.columns =
    record { places = f.tried.places; legal = f.tried.legal; least = f.tried.least; count = f.tried.count } in
    let sum : sum_by length (made_frames state left) ≡ length frame + sum_by length (made_frames later rest) =
    ap (λ n. sum_by length (made_frames state n)) more ∙ ap (sum_by length) (next-made state rest)
    ∙ sum_by-cons length (frame_of state) (made_frames (behind_frame state) rest)
    ∙ sym (ap (λ x. length x + sum_by length (made_frames later rest)) frame-is ∙ ap (λ s. length (frame_of state) + sum_by length (made_frames s rest)) later-is) in
    record {
      columns = f.columns ++ own;
      tried = puts f.columns (subst (λ t. HasTried options t f.columns) (sym mid-is) had) legal;
      all = all;
      octets = omega (arith, f.octets, sum, same, ap (λ (t : Trying). t.octets) mid-is);
    }

pub frames-last : (options : TrialOptions) (t : Trying) (state left : ℕ) → FramesTried options t state left → left ≡ 0 → HasMade options t
frames-last options t state left f none =
    let all : made_columns options.seed options.count ≡ f.columns =
    f.all ∙ ap (λ n. f.columns ++ made_columns state n) none ∙ ap (λ xs. f.columns ++ xs) (no-columns state) ∙ append-nil f.columns in
    let rest : sum_by length (made_frames state left) ≡ 0 =
    ap (λ n. sum_by length (made_frames state n)) none ∙ ap (sum_by length) (none-made state) in
    record { tried = subst (HasTried options t) (sym all) f.tried; octets = omega (arith, f.octets, rest) }

-- ---- the end
pub ended : (options : TrialOptions) (sender : State) (pairs lead words owed : ℕ) (channel : Channel) (t : Trying)
    → HasPlaced options sender pairs lead words channel (trial_columns options.seed options.count options.period) owed
    → ((o : TrialOptions) (beats : List (List ℕ)) → HasTaken o channel beats → Counted o.seed o.count t.channel.counts (events_heard o (all_damaged o beats)))
    → t.pairs ≡ pairs → t.octets ≡ sum_by length (made_frames options.seed options.count) → t.columns ≡ length (made_columns options.seed options.count)
    → HasEnded options t
ended options sender pairs lead words owed channel t has finishes same octets columns =
    let all = trial_columns options.seed options.count options.period in
    let s = has.struck in
    record {
      octets = octets;
      columns = columns;
      pairs = same ∙ pairs-are options all has.sent has.each has.placed.wrote pairs s.count;
      counted = received options has.sent s.beats t.channel.counts (sent-is options all has.sent has.each has.placed.wrote) s.bursts (finishes options s.beats s.taken);
    }

-- the summary of what was counted
pub summary-is : (options : TrialOptions) (t : Trying) (fixed back : ℕ) (equal : Bool) → HasEnded options t → fixed ≡ t.channel.counts.corrected
    → back ≡ t.channel.counts.back
    → ((seed count : ℕ) (es : List Event) → Counted seed count t.channel.counts es → equal ≡ are_same (given_frames es) (made_frames seed count))
    → ◌≡◌ {A = Summary} (record { frames = options.count; octets = t.octets; columns = t.columns; pairs = t.pairs; corrected = fixed; back = back; equal = equal })
    (trial_summary options.seed options.count options.period)
unfolding trial_summary corrected good
summary-is options t fixed back equal e fixed-is back-is equal-is =
    let first = fixed-is ∙ e.counted.corrected in
    let second = back-is ∙ e.counted.back in
    let third = equal-is options.seed options.count (events (trial_capture options.seed options.count options.period) (limit_of options.period) 0) e.counted in
    λ i. record { frames = options.count; octets = e.octets i; columns = e.columns i; pairs = e.pairs i; corrected = first i; back = second i; equal = third i }
