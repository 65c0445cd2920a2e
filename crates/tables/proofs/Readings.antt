-- Where no account is found without a reading, each has its own.
use Rattle.std.proofs.Common.{◌≡◌, Bool, true, false, cond, not, List, [], ◌∷◌, Some, None, Option, refl}
use Rattle.std.proofs.lemmas.Bool.{and_from}
use Rattle.tariff.specs.Each.{each}
use Rattle.ledger.specs.declared.records.Account.{Account}
use Rattle.ledger.specs.Table.{has_reading, unread}

passed : (a : Account) (b : Bool) (rest : Option Account) → cond (not b) (Some a) rest ≡ None → (b ≡ true) × (rest ≡ None)
passed a true rest none = (refl, none)
passed a false rest none = (cc, cc)

pub all_read : (accounts : List Account) → unread accounts ≡ None → each has_reading accounts ≡ true
all_read [] none = refl
all_read (a ∷ accounts) none = let p = passed a (has_reading a) (unread accounts) none in and_from _ _ p.0 (all_read accounts p.1)
