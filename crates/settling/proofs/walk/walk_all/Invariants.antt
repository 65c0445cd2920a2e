use Rattle.std.proofs.Common.{◌≡◌, drop}
use Rattle.register.specs.Views.{held, room}
use Rattle.ledger.specs.State.{standing, of_account}
use Rattle.settling.proofs.InPlace.{Done}
use Rattle.settling.proofs.Runs.{Left}
use Rattle.settling.proofs.walk.walk_all.Given as goal

-- the accounts so far are done, and the lines of all others are still ahead
abbrev pub invariant-loop-place : goal.invariant-loop-place
invariant-loop-place g l = record {
  done : Done (λ a. g.W.Walk.renewed l.walk (standing (of_account a.number) l.lines.lines.now) a) (λ a. g.W.Walk.written l.walk (standing (of_account a.number) l.lines.lines.now) a) l.place
      (held l.initial.accounts.shelf) (held l.accounts.shelf) (held l.initial.rows) (held l.rows);
  accounts_sized : room l.accounts.shelf ≡ room l.initial.accounts.shelf;
  rows_sized : room l.rows ≡ room l.initial.rows;
  left : Left l.ahead.lines.now l.lines.lines.now (drop l.place (held l.initial.accounts.shelf));
}
