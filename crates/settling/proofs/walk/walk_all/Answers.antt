use Rattle.std.proofs.Common.{◌≡◌, ℕ, ◌<◌, Bool, leb, length, get_or, None, refl, ap, ◌∙◌, arith, length-append}
use Rattle.std.proofs.lemmas.Bool.{leb-true}
use Rattle.register.specs.Views.{held}
use Rattle.ledger.specs.declared.records.Account.{Account}
use Rattle.ledger.specs.declared.records.Row.{Row}
use Rattle.ledger.specs.State.{standing, of_account}
use Rattle.settling.proofs.InPlace.{begun, here, more, all_wrote}
use Rattle.settling.proofs.Passing.{each_at}
use Rattle.settling.proofs.Runs.{left_here, left_more, all_left}
use Rattle.settling.proofs.walk.walk_all.Goals as goal

-- where no account stands
abbrev no_account : Account
no_account = record { number = 0; supplier = 0; capacity = 0; storage = 0; reading = None }

pub loop-place-init : goal.loop-place-init
loop-place-init g c =
    let start = held c.args.accounts.now.shelf in
    record { done = begun _ _ start (held c.args.rows.now); accounts_sized = refl; rows_sized = refl; left = all_left c.args.lines.lines.now start }

pub pass-therms-requires : goal.pass-therms-requires
pass-therms-requires g c =
    let ls = c.args.lines.lines.now in
    let i = c.loop-place.place in
    let start = held c.args.accounts.now.shelf in
    let x = get_or c.all.result.now i no_account in
    let stood : x ≡ get_or start i no_account = ap (λ l. get_or l i no_account) c.all.ensures ∙ here c.loop-place.invariant.done no_account in
    let h : i < length start = omega (arith, ap length c.all-place-end.ensures) in
    let whole = left_here c.loop-place.ahead.lines.now ls start i x no_account h stood c.loop-place.invariant.left in
    let most = leb-true _ _ (each_at (λ a. leb (standing (of_account a.number) ls) 8000000) start i x no_account h stood c.requires.deliverable) in
    record { deliverable = omega arith }

pub one-row-requires : goal.one-row-requires
one-row-requires g c =
    let ls = c.args.lines.lines.now in
    let i = c.loop-place.place in
    let start = held c.args.accounts.now.shelf in
    let x = get_or c.all.result.now i no_account in
    let stood : x ≡ get_or start i no_account = ap (λ l. get_or l i no_account) c.all.ensures ∙ here c.loop-place.invariant.done no_account in
    let h : i < length start = omega (arith, ap length c.all-place-end.ensures) in
    let whole = left_here c.loop-place.ahead.lines.now ls start i x no_account h stood c.loop-place.invariant.left in
    let test : ℕ → Account → Bool = g.W.Walk.ready c.args.walk.now in
    ap (λ t. test t x) (c.pass-therms.ensures.therms ∙ whole) ∙ each_at (λ a. test (standing (of_account a.number) ls) a) start i x no_account h stood c.requires.ready

pub loop-place-preserved : goal.loop-place-preserved
loop-place-preserved g c =
    let d = c.loop-place.invariant.done in
    let ls = c.args.lines.lines.now in
    let i = c.loop-place.place in
    let start = held c.args.accounts.now.shelf in
    let x = get_or c.all.result.now i no_account in
    let stood : x ≡ get_or start i no_account = ap (λ l. get_or l i no_account) c.all.ensures ∙ here d no_account in
    let h : i < length start = omega (arith, ap length c.all-place-end.ensures) in
    let whole = c.pass-therms.ensures.therms ∙ left_here c.loop-place.ahead.lines.now ls start i x no_account h stood c.loop-place.invariant.left in
    let f : ℕ → Account → Account = g.W.Walk.renewed c.args.walk.now in
    let r : ℕ → Account → Row = g.W.Walk.written c.args.walk.now in
    let by : Account → ℕ = λ a. standing (of_account a.number) ls in
    record {
      done =
          more d c.one-row.new.account no_account c.one-row.result (held c.renew.new.self.shelf) (held c.append.new.self) h
          (c.one-row.ensures.account ∙ ap (λ t. f t x) whole ∙ ap (λ a. f (by a) a) stood)
          (c.one-row.ensures.row ∙ ap (λ t. r t x) whole ∙ ap (λ a. r (by a) a) stood)
          c.renew.ensures.after c.append.ensures.after (ap length c.append.ensures.after ∙ length-append _ _);
      accounts_sized = c.renew.ensures.sized ∙ c.loop-place.invariant.accounts_sized;
      rows_sized = c.append.ensures.sized ∙ c.loop-place.invariant.rows_sized;
      left = left_more c.loop-place.ahead.lines.now c.pass-therms.new.self.lines.now ls start i x no_account h stood c.args.accounts.now.rises c.pass-therms.ensures.later c.loop-place.invariant.left;
    }

pub returns-clause-rows : goal.returns-clause-rows
returns-clause-rows g c = all_wrote c.loop-place.invariant.done (omega (arith, ap length c.all-place-end.ensures))
