use Rattle.std.proofs.Common.{ℕ, List, ◌++◌, take}
use Rattle.pcs_words.specs.declared.command.TrialOptions.{TrialOptions}
use Rattle.pcs_top.specs.Channels.{HasTaken}
use Rattle.pcs_top.proofs.channel.Channel.take_pair.Given as goal

abbrev pub invariant-loop-b : goal.invariant-loop-b
invariant-loop-b l = record {
  taken : (options : TrialOptions) (beats : List (List ℕ)) → HasTaken options l.fn.self beats → HasTaken options l.self (beats ++ take l.b l.fn.pair);
}
