use Rattle.std.proofs.Common.{leb, List, ◌++◌, map, ap, ◌∙◌, ap₂, rules}
use Rattle.tariff.specs.Each.{each}
use Rattle.register.specs.Keys.{rising}
use Rattle.calls.specs.declared.fields.Line.{Line}
use Rattle.calls.specs.Limits.{line_within}
use Rattle.ledger.specs.declared.records.Account.{Account}
use Rattle.ledger.specs.declared.records.Row.{Row}
use Rattle.ledger.specs.State.{line_key, standing, of_account}
use Rattle.ledger.specs.Terms.{DayTerms, account_after_day, row_after_day}
use Rattle.tables.specs.States.{state_of}
use Rattle.tables.proofs.tables.Tables.settle_by.Goals as goal

pub settle_all-requires : goal.settle_all-requires
settle_all-requires g c =
    let s = state_of c.args.self.now in
    let ready = c.requires.ready in
    let same = c.all.ensures in
    record {
      accounts_within = ready.accounts_within;
      read = c.requires.read;
      deliverable = ap (λ ls. each (λ a. leb (standing (of_account a.number) ls) 8000000) s.accounts) same ∙ ready.accounts_deliverable;
      lines_rise = ap (rising line_key) same ∙ ready.lines_rise;
      lines_within = ap (each line_within) same ∙ ready.lines_within;
      space = c.requires.space;
    }

pub returns : goal.returns
returns g c =
    let s = state_of c.args.self.now in
    let rule = g.R.DayRule.answers c.args.rule.now in
    let renewed : DayTerms → List Line → List Account = λ t ls. map (λ a. account_after_day rule t (standing (of_account a.number) ls) a) s.accounts in
    let written : DayTerms → List Line → List Row = λ t ls. s.rows ++ map (λ a. row_after_day rule t (standing (of_account a.number) ls) a) s.accounts in
    let accounts = c.settle_all.ensures.accounts ∙ ap₂ renewed c.requires.day c.all.ensures in
    let rows = c.settle_all.ensures.rows ∙ ap₂ written c.requires.day c.all.ensures in
    search rules
