-- An account that was found is known by its own number.
use Rattle.std.proofs.Common.{◌≡◌, ℕ, true, List, is_some, Some, None, Ok, Option, ap, ◌∙◌}
use Rattle.ledger.specs.declared.records.Account.{Account}
use Rattle.ledger.specs.State.{number, known, account_at}
use Rattle.ledger.proofs.Found.{at_key}
use Rattle.tables.specs.States.{known_account}

pub told : (n : ℕ) (o : Option Account) (a : Account) → known_account n o ≡ Ok a → o ≡ Some a
told n None a e = absurd (cc)
told n (Some b) a e = cc

pub found_known : (n : ℕ) (accounts : List Account) (a : Account) → known_account n (account_at n accounts) ≡ Ok a → known a.number accounts ≡ true
found_known n accounts a e =
    let there = told n (account_at n accounts) a e in
    ap is_some (ap (λ m. account_at m accounts) (at_key number n accounts a there) ∙ there)
