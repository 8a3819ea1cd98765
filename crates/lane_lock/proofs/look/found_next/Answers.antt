use Rattle.std.proofs.Common.{sym, ap, ◌∙◌}
use Rattle.std.specs.Prelude.{option_map}
use Rattle.lane_lock.specs.Seen.{row_at, row_of}
use Rattle.lane_lock.proofs.Founds.{quiet-found}
use Rattle.lane_lock.proofs.look.found_next.Goals as goal

pub returns-then-is_unmarked-clause-found : goal.returns-then-is_unmarked-clause-found
returns-then-is_unmarked-clause-found c =
    quiet-found c.args.found (option_map row_of c.args.before) (row_of c.args.octets.now) c.args.taken c.args.from c.args.period
    (ap (λ bs. row_at bs 0) (sym c.line_of-line.ensures) ∙ c.is_unmarked.ensures c.if-is_unmarked.true)
