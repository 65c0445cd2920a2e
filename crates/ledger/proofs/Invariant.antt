-- What holds of the book and the gas count together, and what it gives.
use Rattle.std.proofs.Common.{◌≡◌, ℕ, ◌+◌, ◌<◌, ◌≤◌, Bool, true, false, ◌||◌, [], refl}
use Rattle.std.specs.List.{AllByRecursion}
use Rattle.std.proofs.lemmas.Bool.{false≢true}
use Rattle.ledger.specs.declared.records.Row.{Row}
use Rattle.ledger.specs.declared.records.Stage.{Stage}
use Rattle.ledger.specs.State.{State}
use Rattle.ledger.specs.Table.{is_nominating, is_ended}
use Rattle.ledger.specs.Runs.{fresh_book}
use Rattle.ledger.specs.Count.{Count, counted, nothing}
use Rattle.ledger.specs.Claim.{Even}
use Rattle.ledger.proofs.Lines.{LinesAgree, lines_none}
use Rattle.ledger.proofs.Accounts.{AccountsAgree}

-- a gas day is open
abbrev pub in_day : Stage → Bool
in_day t = is_nominating t || is_ended t

abbrev pub InRange : Row → Type 0
InRange r = (0 < r.supplier) × (r.supplier < 65536)

-- each part speaks of components, so that a call which leaves those leaves the part as it is
pub record Holds (k : Count) (s : State) : Type 0 where
  pub loss : s.loss ≡ k.loss
  pub accounts : AccountsAgree k.opened k.supplier k.reading s.accounts
  pub lines : LinesAgree k.supplier k.lines s.lines
  pub empty : in_day s.stage ≡ false → s.lines ≡ []
  pub noted : is_ended s.stage ≡ true → (sup p : ℕ) → p < 9 → counted k.supplier k.lines sup p ≡ k.noted sup p
  pub day : in_day s.stage ≡ true → s.settled + 1 ≤ 31
  pub unopened : (n : ℕ) → k.opened n ≡ false → k.opening n ≡ 0
  pub even : (n : ℕ) → Even k s.accounts s.rows n
  pub rows : AllByRecursion InRange s.rows

pub holds_fresh : (a l p r : ℕ) → Holds nothing (fresh_book a l p r)
holds_fresh a l p r = record {
  loss = refl;
  accounts = record { ordered = refl; sound = tt; known_if = λ n. refl; suppliers = λ n. refl; readings = λ n. refl };
  lines = lines_none (λ _. 0);
  empty = λ _. refl;
  noted = λ e. absurd (false≢true e);
  day = λ e. absurd (false≢true e);
  unopened = λ n e. refl;
  even = λ n. refl;
  rows = tt;
}
