use Rattle.std.proofs.Common.{◌++◌, map, ap, ◌∙◌, rules}
use Rattle.ledger.specs.Terms.{account_after_close, row_after_close}
use Rattle.tables.specs.States.{state_of}
use Rattle.tables.proofs.Terms.{closed_by}
use Rattle.tables.proofs.tables.Tables.close.Goals as goal

pub returns-clause-after : goal.returns-clause-after
returns-clause-after c =
    let s = state_of c.args.self.now in
    let month = c.calendar_month-month.result in
    let day = c.days-2.result in
    let prices = c.month_prices-prices.result in
    let terms = closed_by s month day prices c.calendar_month-month.ensures.year c.calendar_month-month.ensures.number c.days-2.ensures c.month_prices-prices.ensures.gas_cost c.month_prices-prices.ensures.average in
    let accounts = c.close_all.ensures.accounts ∙ ap (λ t. map (account_after_close t) s.accounts) terms in
    let rows = c.close_all.ensures.rows ∙ ap (λ t. s.rows ++ map (row_after_close t) s.accounts) terms in
    search rules
