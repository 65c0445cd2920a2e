use Rattle.std.proofs.Common.{sym, ap, ◌∙◌}
use Rattle.ledger.specs.State.{price_on}
use Rattle.tables.specs.States.{state_of}
use Rattle.tables.proofs.Terms.{today_priced}
use Rattle.tables.proofs.tables.Tables.gas_day.Goals as goal

pub price_of-requires-2 : goal.price_of-requires-2
price_of-requires-2 c =
    let s = state_of c.args.self.now in
    (today_priced s c.requires.ready c.in_ok-price.price (ap (λ k. price_on k s.prices) (sym c.from.ensures) ∙ sym c.look.ensures ∙ c.in_ok-price.was)).0

pub price_of-requires-3 : goal.price_of-requires-3
price_of-requires-3 c =
    let s = state_of c.args.self.now in
    (today_priced s c.requires.ready c.in_ok-price.price (ap (λ k. price_on k s.prices) (sym c.from.ensures) ∙ sym c.look.ensures ∙ c.in_ok-price.was)).1
