use Rattle.std.proofs.Common.{rules, tests}
use Rattle.register.specs.Views.{held}
use Rattle.ledger.specs.Later.{changes_among}
use Rattle.shifts.proofs.Firsts.{found_by, pipelines_given}
use Rattle.shifts.proofs.totals.first_changed.Goals as goal

pub returns : goal.returns
returns c =
    found_by (changes_among (held c.args.lines.now.shelf) c.args.named.now) _ _ c.find.result c.find.ensures.ran (pipelines_given (cc) (cc) (cc)) (λ x b q k. search (rules, tests))
