-- What the functions behind the sender of a trial tell each other: which beats were damaged, which of them were received, and what was counted.
use Rattle.std.specs.Prelude.{◌≡◌, ℕ, ◌*◌, ◌≤◌, true, false, List, length}
use Rattle.bit_lists.specs.Places.{for_each}
use Rattle.lane_impair.specs.declared.item.Item.{Item}
use Rattle.lane_impair.specs.Impairments.{beat_count, impaired, is_ready}
use Rattle.lane_impair.specs.Histories.{Impairing, lanes_of, beat_at}
use Rattle.lane_impair.specs.Standing.{State as Impairer, Stands as ImpairerStands}
use Rattle.pcs_receive.specs.Events.{Event, events}
use Rattle.pcs_receive.specs.State.{State as Receiver, Stands as ReceiverStands, IsDrained}
use Rattle.pcs_words.specs.declared.command.TrialOptions.{TrialOptions}
use Rattle.trial_laws.specs.Counting.{Counted}
use Rattle.trial_laws.specs.Damage.{trial_items}
use Rattle.trial_laws.specs.Trial.{next_seed, limit_of}
use Rattle.trial_laws.specs.declared.counts.Counts.{Counts}
use Rattle.pcs_top.specs.EventTexts.{capture, hearing}
use Rattle.pcs_top.specs.Giving.{AllCome}
use Rattle.pcs_top.specs.declared.channel.Channel.{Channel}

-- the items of the damage
abbrev pub items_of : TrialOptions → List Item
items_of options = trial_items (next_seed options.seed) (limit_of options.period)

-- the first n beats of what the items make of these
abbrev pub damaged_beats : TrialOptions → List (List ℕ) → ℕ → List (List ℕ)
damaged_beats options beats n = for_each n (beat_at (impaired (lanes_of beats) (items_of options)))

-- and all of them
abbrev pub all_damaged : TrialOptions → List (List ℕ) → List (List ℕ)
all_damaged options beats = damaged_beats options beats (beat_count (lanes_of beats) (items_of options))

-- the events of beats that are received
abbrev pub events_heard : TrialOptions → List (List ℕ) → List Event
events_heard options beats = events (capture options.period beats) (limit_of options.period) 0

-- A further beat can be taken, and what was counted is no more than the beats so far can bring.
pub record IsHearing (receiver : Receiver) (counts : Counts) : Type 0 where
  pub drained : IsDrained receiver
  pub corrected : counts.corrected ≤ 83130 * receiver.aligner.beats
  pub back : counts.back ≤ 163 * receiver.aligner.beats

-- The receiver has taken these beats and given all of their events, and these were counted.
pub record HasHeard (options : TrialOptions) (receiver : Receiver) (counts : Counts) (beats : List (List ℕ)) : Type 0 where
  pub stands : ReceiverStands receiver (hearing false options.period (limit_of options.period) beats (length (events_heard options beats)))
  pub counted : Counted options.seed options.count counts (events_heard options beats)
  pub taken : receiver.aligner.beats ≡ length beats
  pub waits : IsHearing receiver counts

-- The impairer stands for these calls, and the receiver has taken the beats that it has given.
pub record HasPassed (options : TrialOptions) (h : Impairing) (impairer : Impairer) (receiver : Receiver) (counts : Counts) : Type 0 where
  pub items : h.items ≡ items_of options
  pub stands : ImpairerStands impairer h
  pub come : AllCome h h.given
  pub heard : HasHeard options receiver counts (damaged_beats options h.beats h.given)

abbrev pub Passes : TrialOptions → Impairing → Channel → Type 0
Passes options h channel = HasPassed options h channel.impairer channel.receiver channel.counts

-- the calls of an impairer that has taken these beats
abbrev pub taking : TrialOptions → List (List ℕ) → ℕ → Impairing
taking options beats given = record { items = items_of options; beats = beats; given = given; finished = false }

-- The channel has taken these beats, and received all that is ready of them when they are damaged.
pub record HasTaken (options : TrialOptions) (channel : Channel) (beats : List (List ℕ)) : Type 0 where
  pub given : ℕ
  pub passed : Passes options (taking options beats given) channel
  pub last : is_ready (lanes_of beats) (items_of options) given ≡ false
  pub drained : channel.impairer.drained ≡ true

-- it stands for no more than so many beats
abbrev pub IsTaking : Channel → ℕ → Type 0
IsTaking channel most = (options : TrialOptions) × (beats : List (List ℕ)) × HasTaken options channel beats × (length beats ≤ most)
