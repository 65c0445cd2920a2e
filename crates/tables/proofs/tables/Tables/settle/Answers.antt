use Rattle.std.proofs.Common.{sym, ap, ◌∙◌, rules}
use Rattle.register.specs.Views.{held}
use Rattle.ledger.specs.Table.{unread}
use Rattle.tables.proofs.ByKind.{by_kind}
use Rattle.tables.proofs.Readings.{all_read}
use Rattle.tables.specs.States.{both, state_of}
use Rattle.ledger.specs.declared.records.Stage.TheVariants.{Ended}
use Rattle.ledger.specs.declared.records.DayKind.TheVariants.{Ordinary, Critical}
use Rattle.tables.proofs.tables.Tables.settle.Goals as goal

pub settle_by-requires : goal.settle_by-requires
settle_by-requires g c =
    let read = all_read (held c.args.self.now.accounts.shelf) (ap unread (sym c.all.ensures) ∙ sym c.first_unread.ensures ∙ c.in_default.is) in
    search rules

pub settle_by-requires-in-Critical : goal.settle_by-requires-in-Critical
settle_by-requires-in-Critical g c =
    let read = all_read (held c.args.self.now.accounts.shelf) (ap unread (sym c.all.ensures) ∙ sym c.first_unread.ensures ∙ c.in_default.is) in
    search rules

pub returns-in-Ordinary-clause-after : goal.returns-in-Ordinary-clause-after
returns-in-Ordinary-clause-after g c =
    let by = by_kind (both (g.O.DayRule.answers c.args.rules.now.ordinary.now) (g.C.DayRule.answers c.args.rules.now.critical.now)) Ordinary (state_of c.args.self.now) (c.requires.ended ∙ ap Ended c.in-Ordinary.is) in
    let mine = c.settle_by.ensures ∙ sym by in
    search rules

pub returns-in-Critical-clause-after : goal.returns-in-Critical-clause-after
returns-in-Critical-clause-after g c =
    let by = by_kind (both (g.O.DayRule.answers c.args.rules.now.ordinary.now) (g.C.DayRule.answers c.args.rules.now.critical.now)) Critical (state_of c.args.self.now) (c.requires.ended ∙ ap Ended c.in-Critical.is) in
    let mine = c.settle_by-in-Critical.ensures ∙ sym by in
    search rules
