use Rattle.std.proofs.Common.{rules}
use Rattle.book.proofs.Standing.{book_ready}
use Rattle.book.proofs.book.Book.date.Goals as goal

pub overflow_add-self : goal.overflow_add-self
overflow_add-self c = let ready = book_ready c.args.self.now in search rules

pub calendar_month-requires : goal.calendar_month-requires
calendar_month-requires c = record { ready = book_ready c.args.self.now; opened = search rules }
