use Rattle.std.proofs.Common.{◌≡◌, ◌+◌, ◌≤◌, ℕ, List, false}
use Rattle.mac_columns.specs.declared.column.Column.{Column}
use Rattle.pcs_send.specs.Holding.{is_ready}
use Rattle.pcs_words.specs.declared.command.TrialOptions.{TrialOptions}
use Rattle.pcs_top.specs.Sending.{with_pairs, AreWhole}
use Rattle.pcs_top.specs.Trials.{IsTrying, Places}
use Rattle.pcs_top.proofs.trial.Trying.send_idle_pairs.Given as goal

abbrev pub invariant-loop-i : goal.invariant-loop-i
invariant-loop-i l = record {
  places : (options : TrialOptions) (cs : List Column) (owed : ℕ) → Places options l.fn.self cs owed → AreWhole options.period cs
      → Places options l.self (with_pairs options.period cs l.i) owed;
  trying : IsTrying l.self;
  waits : is_ready l.self.sender ≡ false;
  octets : l.self.octets ≡ l.fn.self.octets;
  columns : l.self.columns ≡ l.fn.self.columns;
  few : l.self.pairs ≤ l.fn.self.pairs + l.i;
}
