-- A day that has ended is settled by the rule of its kind.
use Rattle.std.proofs.Common.{◌≡◌, ◌+◌, [], ◌++◌, map, ap}
use Rattle.ledger.specs.declared.records.DayKind.{DayKind}
use Rattle.ledger.specs.declared.records.Stage.TheVariants.{Between, Ended}
use Rattle.ledger.specs.State.{State}
use Rattle.ledger.specs.Rows.{Rules, rule_for, settled_account, settled_row}
use Rattle.ledger.specs.Terms.{day_settled_by}
use Rattle.ledger.specs.Effects.{begun_kind, settled_day}

pub by_kind : (rules : Rules) (kind : DayKind) (s : State) → s.stage ≡ Ended kind → settled_day rules s ≡ day_settled_by (rule_for kind rules) s
by_kind rules kind s ended =
    let on : DayKind → State = λ k. record s {
      stage = Between;
      settled = s.settled + 1;
      accounts = map (settled_account rules k s) s.accounts;
      lines = [];
      rows = s.rows ++ map (settled_row rules k s) s.accounts;
    } in
    ap on (ap begun_kind ended)
