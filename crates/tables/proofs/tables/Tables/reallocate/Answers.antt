use Rattle.std.proofs.Common.{◌≡◌, ◌≤◌, ℕ, List, Result, length, None, Err, sym, ap, ◌∙◌, rules}
use Rattle.calls.specs.declared.fields.Line.{Line}
use Rattle.calls.specs.declared.refusal.Refusal.{Refusal}
use Rattle.register.specs.Views.{held, room}
use Rattle.ledger.proofs.Rooms.{roomy}
use Rattle.ledger.specs.State.{State}
use Rattle.ledger.specs.Effects.{with_lines, put_lines}
use Rattle.ledger.specs.Runs.{answer_by, after_by}
use Rattle.tables.specs.States.{state_of, shift_verdict}
use Rattle.tables.proofs.Shifts.{allowed, refused, unrepeated, finds_room}
use Rattle.tables.proofs.tables.Tables.reallocate.Goals as goal

pub put_all-requires : goal.put_all-requires
put_all-requires c =
    let t = c.args.self.now in
    let s = state_of t in
    let call = c.args.c.now in
    let named = c.named_lines-named.result.now in
    let e : shift_verdict s call.supplier call.minute named ≡ None = allowed _ (sym c.check_shift.ensures ∙ c.in_ok-check_shift.was) in
    let within : length (held t.lines.shelf) ≤ room t.lines.shelf = search rules in
    record { space = roomy _ _ _ (finds_room s call.supplier call.minute named e) within; unrepeated = unrepeated s call.supplier call.minute named e }

-- the lines that are looked at are those that the call names
pub returns-in_err-check_shift-clause-after : goal.returns-in_err-check_shift-clause-after
returns-in_err-check_shift-clause-after c =
    let s = state_of c.args.self.now in
    let call = c.args.c.now in
    let left : List Line → State = λ named. after_by (shift_verdict s call.supplier call.minute named) (with_lines (put_lines named s.lines) s) s in
    let named = c.named_lines-named.result.now in
    sym (ap (λ v. after_by v (with_lines (put_lines named s.lines) s) s) (refused _ c.in_err-check_shift.field-0.0 (sym c.check_shift.ensures ∙ c.in_err-check_shift.was)))
    ∙ ap left c.named_lines-named.ensures

pub returns-in_err-check_shift-clause-answer : goal.returns-in_err-check_shift-clause-answer
returns-in_err-check_shift-clause-answer c =
    let s = state_of c.args.self.now in
    let call = c.args.c.now in
    let answer : List Line → Result ℕ Refusal = λ named. answer_by (shift_verdict s call.supplier call.minute named) 0 in
    let r = c.in_err-check_shift.field-0.0 in
    let is : c.from_residual.result ≡ Err r = search rules in
    is ∙ sym (ap (λ v. answer_by v 0) (refused _ r (sym c.check_shift.ensures ∙ c.in_err-check_shift.was))) ∙ ap answer c.named_lines-named.ensures

pub returns-clause-after : goal.returns-clause-after
returns-clause-after c =
    let s = state_of c.args.self.now in
    let call = c.args.c.now in
    let named = c.named_lines-named.result.now in
    let left : List Line → State = λ named. after_by (shift_verdict s call.supplier call.minute named) (with_lines (put_lines named s.lines) s) s in
    let e : shift_verdict s call.supplier call.minute named ≡ None = allowed _ (sym c.check_shift.ensures ∙ c.in_ok-check_shift.was) in
    (let wrote = c.put_all.ensures in search rules) ∙ sym (ap (λ v. after_by v (with_lines (put_lines named s.lines) s) s) e) ∙ ap left c.named_lines-named.ensures

pub returns-clause-answer : goal.returns-clause-answer
returns-clause-answer c =
    let s = state_of c.args.self.now in
    let call = c.args.c.now in
    let named = c.named_lines-named.result.now in
    let answer : List Line → Result ℕ Refusal = λ named. answer_by (shift_verdict s call.supplier call.minute named) 0 in
    let e : shift_verdict s call.supplier call.minute named ≡ None = allowed _ (sym c.check_shift.ensures ∙ c.in_ok-check_shift.was) in
    sym (ap (λ v. answer_by v 0) e) ∙ ap answer c.named_lines-named.ensures
