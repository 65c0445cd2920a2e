use Rattle.std.proofs.Common.{◌≡◌, sym, ◌∙◌, rules, arith}
use Rattle.std.proofs.iter.runs.Made.{chains}
use Rattle.std.specs.List.{count_by}
use Rattle.register.specs.Views.{held}
use Rattle.ledger.specs.Table.{is_absent}
use Rattle.shifts.proofs.Sums.{absent_is_count}
use Rattle.shifts.proofs.writes.count_absent.Goals as goal

pub returns : goal.returns
returns c =
    let counted : c.count.result ≡ count_by (is_absent (held c.args.lines.now.shelf)) c.args.named.now = search (rules, chains) in
    let absent = counted ∙ sym (absent_is_count _ c.args.named.now) in
    grind (arith, absent, rules)
