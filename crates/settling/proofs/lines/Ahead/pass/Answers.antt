use Rattle.std.proofs.Common.{◌≡◌, ◌-◌, length, take, drop, ap, ◌∙◌, arith}
use Rattle.std.proofs.lemmas.List.{at_drop_all, length-drop, take_all}
use Rattle.tariff.specs.Each.{each}
use Rattle.register.specs.Keys.{rising}
use Rattle.register.proofs.Rising.{rising_drop}
use Rattle.calls.specs.Limits.{blank_line, line_within}
use Rattle.ledger.specs.State.{line_key, standing, of_account}
use Rattle.settling.proofs.Passing.{each_drop}
use Rattle.settling.proofs.Runs.{none_past}
use Rattle.settling.proofs.lines.Ahead.pass.Goals as goal
use Rattle.settling.proofs.lines.Ahead.pass.Goals.{else-loop-line-test, then-loop-line-test+then-line-number}

pub invariant_of-self : goal.invariant_of-self
invariant_of-self c =
    let ls = c.args.self.now.lines.now in
    let k = c.loop-line.passed in
    let later : take (length ls - k) (drop k ls) ≡ drop k ls = take_all (length ls - k) (drop k ls) (omega (arith, length-drop k ls)) in
    record {
      rise = ap (rising line_key) later ∙ rising_drop line_key k ls c.args.self.now.rise;
      within = ap (each line_within) later ∙ each_drop line_within k ls c.args.self.now.within;
    }

pub returns-clause-therms : goal.returns-clause-therms
returns-clause-therms c =
    let n = c.args.number in
    let ls = c.args.self.now.lines.now in
    let i = c.loop-line.line-index in
    let kept = c.loop-line.invariant.1 in
    elim c.loop-line-test.branch [
      | else-loop-line-test w ↦
          let none = at_drop_all (standing (of_account n)) ls i w.loop-line-test.false in
          omega arith
      | then-loop-line-test+then-line-number w ↦
          let none = none_past n ls i blank_line c.args.self.now.rise c.args.self.now.within w.loop-line-test.true w.if-line-number.true in
          omega arith
    ]
