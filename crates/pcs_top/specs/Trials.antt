-- How far a trial has come. Its sender does what that of `encode` does with a lead of two periods and a tail of one, so the records of
-- `encode` tell what it has placed, as if its beats were written into a sink that held nothing.
use Rattle.std.specs.Prelude.{◌≡◌, ℕ, ◌+◌, ◌-◌, ◌*◌, ◌/◌, ◌%◌, ◌<◌, ◌≤◌, false, List, [], ◌++◌, length, reverse, sum_by, slice_index, slice_index_or, Option, Some}
use Rattle.std.specs.Int.{bit_at}
use Rattle.bit_lists.specs.Bits.{bit_of}
use Rattle.bit_lists.specs.Places.{flat}
use Rattle.mac_columns.specs.declared.column.Column.{Column}
use Rattle.lane_impair.specs.Noise.{state_after}
use Rattle.rate_match.specs.Kept.{debt, HasLegalGaps}
use Rattle.pcs_send.specs.Transmission.{begun_columns}
use Rattle.pcs_send.specs.Holding.{State as Sender, is_ready}
use Rattle.pcs_words.specs.declared.command.EncodeOptions.{EncodeOptions}
use Rattle.pcs_words.specs.declared.command.TrialOptions.{TrialOptions}
use Rattle.trial_laws.specs.Counting.{Counted}
use Rattle.trial_laws.specs.Damage.{strikes}
use Rattle.trial_laws.specs.Trial.{next_seed, made_columns, made_frames, trial_pairs, trial_capture, limit_of}
use Rattle.pcs_receive.specs.Events.{events}
use Rattle.pcs_top.specs.Captures.{form_header}
use Rattle.pcs_top.specs.Sending.{HasSent}
use Rattle.pcs_top.specs.Channels.{HasTaken}
use Rattle.pcs_top.specs.declared.channel.Channel.{Channel}
use Rattle.pcs_top.specs.declared.trial.Trying.{Trying}

abbrev pub encoding : TrialOptions → EncodeOptions
encoding options = record { form = 1; period = options.period; lead = 2; tail = 1 }

-- what the sink holds where these beats were written
abbrev pub with_beats : TrialOptions → List (List ℕ) → Option (List ℕ)
with_beats options sent = Some (form_header 1 options.period ++ flat sent)

-- bit n of lane l of beats
abbrev pub lane_bit : List (List ℕ) → ℕ → ℕ → ℕ
lane_bit beats l n = bit_at (slice_index (slice_index_or beats (n / 8) []) l) (n % 8)

-- The beats of pair t as they are sent, and with its burst.
abbrev pub HasBurst : ℕ → ℕ → ℕ → List (List ℕ) → List (List ℕ) → Type 0
HasBurst seed first t sent pair =
    (l n : ℕ) → l < 16 → n < 680 → lane_bit pair l n ≡ (lane_bit sent l n + bit_of (strikes seed first l (680 * t + n))) % 2

-- The beats of all pairs so far as they are sent, and with their bursts.
pub record HaveBursts (seed first : ℕ) (sent beats : List (List ℕ)) : Type 0 where
  pub count : length beats ≡ length sent
  pub bits : (l n : ℕ) → l < 16 → n < 8 * length sent → lane_bit beats l n ≡ (lane_bit sent l n + bit_of (strikes seed first l n)) % 2

-- These beats were taken from the sender, a pair at a time. With the bursts behind the lead they were handed to the channel.
pub record HasStruck (options : TrialOptions) (pairs lead words : ℕ) (channel : Channel) (sent : List (List ℕ)) : Type 0 where
  pub count : length sent ≡ 85 * pairs
  pub quiet : lead ≡ 2 * options.period
  pub drawn : words ≡ state_after (31 + (pairs - 2 * options.period)) (next_seed options.seed)
  pub beats : List (List ℕ)
  pub bursts : HaveBursts (next_seed options.seed) (2 * options.period) sent beats
  pub taken : HasTaken options channel beats

abbrev pub Strikes : TrialOptions → Trying → List (List ℕ) → Type 0
Strikes options t sent = HasStruck options t.pairs t.lead t.words t.channel sent

-- some beats were taken
abbrev pub IsTrying : Trying → Type 0
IsTrying t = (options : TrialOptions) × (sent : List (List ℕ)) × Strikes options t sent

-- The sender has placed these columns and is left with this debt, and the beats of all their whole pairs were taken, damaged and received.
pub record HasPlaced (options : TrialOptions) (sender : Sender) (pairs lead words : ℕ) (channel : Channel) (columns : List Column) (owed : ℕ) : Type 0 where
  pub sent : List (List ℕ)
  pub each : (b : ℕ) → b < length sent → length (slice_index_or sent b []) ≡ 16
  pub placed : HasSent sender 1 options.period columns owed (Some []) (with_beats options sent) []
  pub struck : HasStruck options pairs lead words channel sent

abbrev pub Places : TrialOptions → Trying → List Column → ℕ → Type 0
Places options t columns owed = HasPlaced options t.sender t.pairs t.lead t.words t.channel columns owed

-- These columns of frames and gaps were put, behind the lead, and had legal gaps.
pub record HasTried (options : TrialOptions) (t : Trying) (columns : List Column) : Type 0 where
  pub places : Places options t (begun_columns options.period 2 columns) (debt options.period (reverse columns))
  pub legal : HasLegalGaps options.period columns
  pub least : 1 ≤ options.period
  pub count : t.columns ≡ length columns

-- Nothing was sent yet.
pub record HasBegun (options : TrialOptions) (t : Trying) : Type 0 where
  pub places : Places options t [] 0
  pub waits : is_ready t.sender ≡ false
  pub none : (t.octets ≡ 0) × (t.columns ≡ 0) × (t.pairs ≡ 0)

-- All frames were put.
pub record HasMade (options : TrialOptions) (t : Trying) : Type 0 where
  pub tried : HasTried options t (made_columns options.seed options.count)
  pub octets : t.octets ≡ sum_by length (made_frames options.seed options.count)

-- All of it was sent and received.
pub record HasEnded (options : TrialOptions) (t : Trying) : Type 0 where
  pub octets : t.octets ≡ sum_by length (made_frames options.seed options.count)
  pub columns : t.columns ≡ length (made_columns options.seed options.count)
  pub pairs : t.pairs ≡ trial_pairs options.seed options.count options.period
  pub counted : Counted options.seed options.count t.channel.counts
      (events (trial_capture options.seed options.count options.period) (limit_of options.period) 0)
