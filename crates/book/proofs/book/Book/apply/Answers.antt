use Rattle.std.proofs.Common.{◌∷◌, sym, subst, subst₂}
use Rattle.ledger.specs.Runs.{History, Leads, met}
use Rattle.ledger.specs.Ready.{Led}
use Rattle.ledger.proofs.Led.{leads_on, led_on, upheld}
use Rattle.ledger.proofs.Refusing.{by_the_table}
use Rattle.tables.specs.States.{state_of, both}
use Rattle.book.proofs.Standing.{book_ready}
use Rattle.book.proofs.book.Book.apply.Goals as goal

pub decide-requires : goal.decide-requires
decide-requires g c = book_ready c.args.self.now

-- both rules keep their law, so the book's history goes on
pub invariant_of-self : goal.invariant_of-self
invariant_of-self g c =
    let s = state_of c.args.self.now.tables in
    let o = c.args.ordinary.now in
    let r = c.args.critical.now in
    let led = led_on (both (g.O.DayRule.answers o) (g.C.DayRule.answers r)) (g.met.O.DayRule.keeps o) (g.met.C.DayRule.keeps r) s c.args.call.now c.args.self.now.led in
    record { led = subst Led (sym c.decide.ensures.after) led }

pub returns : goal.returns
returns g c =
    let s = state_of c.args.self.now.tables in
    let call = c.args.call.now in
    let o = c.args.ordinary.now in
    let r = c.args.critical.now in
    let rules = both (g.O.DayRule.answers o) (g.C.DayRule.answers r) in
    let on : (h : History) → Leads h s → Leads (met call rules c.decide.result ∷ h) (state_of c.decide.new.tables) =
    λ h l. subst₂ (λ x t. Leads (met call rules x ∷ h) t) (sym c.decide.ensures.answer) (sym c.decide.ensures.after)
    (leads_on rules (g.met.O.DayRule.keeps o) (g.met.C.DayRule.keeps r) h s call l) in
    let led = led_on rules (g.met.O.DayRule.keeps o) (g.met.C.DayRule.keeps r) s call c.args.self.now.led in
    record {
      after = c.decide.ensures.after;
      answer = c.decide.ensures.answer;
      table = by_the_table s call;
      unchanged = c.decide.ensures.unchanged;
      law = λ h l. upheld _ _ (on h l);
      led = subst Led (sym c.decide.ensures.after) led;
    }
