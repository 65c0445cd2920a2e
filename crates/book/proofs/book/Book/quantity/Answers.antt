use Rattle.std.proofs.Common.{◌≡◌, true, Some, sym, ◌∙◌}
use Rattle.std.proofs.lemmas.Bool.{leb-true}
use Rattle.register.specs.Views.{held}
use Rattle.ledger.specs.State.{number, account_at}
use Rattle.ledger.specs.Safety.{account_within}
use Rattle.ledger.proofs.Found.{all_at}
use Rattle.ledger.proofs.Steps.{each_all}
use Rattle.tables.proofs.Known.{told}
use Rattle.book.proofs.Standing.{book_ready}
use Rattle.book.proofs.book.Book.quantity.Goals as goal

pub filling_delivery-requires : goal.filling_delivery-requires
filling_delivery-requires c =
    let accounts = held c.args.self.now.tables.accounts.shelf in
    let n = c.args.request.now.account in
    let e : account_at n accounts ≡ Some c.in_ok-account.account = told n (account_at n accounts) c.in_ok-account.account (sym c.account.ensures ∙ c.in_ok-account.was) in
    record {
      request = sym c.within_limits.ensures ∙ c.if-not-within_limits.false;
      loss = leb-true _ _ (book_ready c.args.self.now).loss_within;
      account = all_at number (λ a. account_within a ≡ true) n accounts c.in_ok-account.account (each_all account_within accounts (book_ready c.args.self.now).accounts_within) e;
    }
