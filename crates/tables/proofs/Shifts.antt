-- What a reallocation that is not refused tells.
use Rattle.std.proofs.Common.{◌≡◌, ℕ, false, List, [], length, Some, None, Ok, Err, Option, refl, arith}
use Rattle.calls.specs.declared.fields.Line.{Line}
use Rattle.calls.specs.declared.refusal.Refusal.{Refusal}
use Rattle.calls.specs.declared.refusal.Refusal.TheVariants.{NoSpace}
use Rattle.ledger.specs.State.{State}
use Rattle.ledger.specs.Table.{or_else, first_repeated, no_room, count_absent}
use Rattle.ledger.proofs.Accepted.{off}
use Rattle.ledger.proofs.Steps.{unnamed}
use Rattle.tables.specs.States.{names_unknown, repeats, lacks_room, shift_verdict, allowed_by}

second : (a b c : Option Refusal) → or_else a (or_else b c) ≡ None → b ≡ None
second None None c e = refl
second None (Some r) c e = absurd (let bad : ◌≡◌ {A = ℕ} 0 1 = cc in omega arith)
second (Some r) b c e = absurd (let bad : ◌≡◌ {A = ℕ} 0 1 = cc in omega arith)

past : (a b : Option Refusal) → or_else a b ≡ None → b ≡ None
past None b e = e
past (Some r) b e = absurd (let bad : ◌≡◌ {A = ℕ} 0 1 = cc in omega arith)

-- what is allowed is refused by nothing, and what is refused is refused by that
pub allowed : (v : Option Refusal) {u : Unit {0}} → allowed_by v ≡ Ok u → v ≡ None
allowed None e = refl
allowed (Some r) e = absurd (cc)

pub refused : (v : Option Refusal) (r : Refusal) → allowed_by v ≡ Err r → v ≡ Some r
refused None r e = absurd (cc)
refused (Some q) r e = cc

module _ (s : State) (supplier minute : ℕ) (named : List Line) (e : shift_verdict s supplier minute named ≡ None) where
  pub unrepeated : first_repeated [] named ≡ None
  unrepeated = unnamed (first_repeated [] named) (second (names_unknown s named) (repeats named) _ e)

  pub finds_room : no_room (length s.lines) (count_absent s.lines named) s.line_room ≡ false
  finds_room = off _ NoSpace (second (repeats named) (lacks_room s named) _ (past (names_unknown s named) _ e))
