use Rattle.std.proofs.Common.{length, ap, ◌∙◌, arith}
use Rattle.std.proofs.lemmas.Bool.{leb-true}
use Rattle.tariff.specs.Each.{each}
use Rattle.ledger.specs.Ready.{cents_bounded}
use Rattle.book.proofs.Standing.{book_ready}
use Rattle.book.proofs.book.Book.statement.Goals as goal

pub statement_of-requires : goal.statement_of-requires
statement_of-requires c =
    let ready = book_ready c.args.self.now in
    let same = c.all.ensures in
    let few = leb-true _ _ ready.rows_few in
    record { bounded = ap (each cents_bounded) same ∙ ready.rows_bounded; few = omega (arith, ap length same) }
