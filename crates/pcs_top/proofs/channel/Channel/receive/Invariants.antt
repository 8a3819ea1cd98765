use Rattle.std.proofs.Common.{◌≡◌, ℕ, ◌-◌}
use Rattle.lane_impair.specs.Histories.{Impairing}
use Rattle.pcs_words.specs.declared.command.TrialOptions.{TrialOptions}
use Rattle.pcs_top.specs.Giving.{with_given}
use Rattle.pcs_top.specs.Channels.{Passes}
use Rattle.pcs_top.proofs.channel.Channel.receive.Given as goal

abbrev pub invariant-loop-beat : goal.invariant-loop-beat
invariant-loop-beat l = record {
  gives : (options : TrialOptions) (h : Impairing) → Passes options h l.fn.self → (given : ℕ) × Passes options (with_given h given) l.self;
  taken : l.self.impairer.taken ≡ l.fn.self.impairer.taken;
  finished : l.self.impairer.finished ≡ l.fn.self.impairer.finished;
}

abbrev pub decreases-loop-beat : goal.decreases-loop-beat
decreases-loop-beat l = l.self.impairer.ready - l.self.impairer.rows.given
