use Rattle.std.proofs.Common.{◌≡◌, ℕ, ◌+◌, ◌*◌, ◌≤◌, List, [], ◌∷◌, ◌++◌}
use Rattle.pcs_receive.specs.State.{left_count}
use Rattle.pcs_words.specs.declared.command.TrialOptions.{TrialOptions}
use Rattle.pcs_top.specs.Channels.{HasHeard}
use Rattle.pcs_top.proofs.CountedEvents.{Counting}
use Rattle.pcs_top.proofs.channel.hear.Given as goal

abbrev pub invariant-loop-event : goal.invariant-loop-event
invariant-loop-event l = record {
  counting : (options : TrialOptions) (beats : List (List ℕ)) → HasHeard options l.fn.receiver l.fn.counts beats
      → Counting options l.receiver l.counts (beats ++ l.fn.beat ∷ []);
  corrected : l.counts.corrected + 510 * left_count l.receiver ≤ 83130 * l.receiver.aligner.beats;
  back : l.counts.back + left_count l.receiver ≤ 163 * l.receiver.aligner.beats;
  beats : l.receiver.aligner.beats ≡ l.fn.receiver.aligner.beats + 1;
}

abbrev pub decreases-loop-event : goal.decreases-loop-event
decreases-loop-event l = left_count l.receiver
