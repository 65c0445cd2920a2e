-- What a book's invariant gives its calls.
use Rattle.ledger.specs.Ready.{Ready}
use Rattle.ledger.proofs.Led.{ready}
use Rattle.book.specs.declared.book.Book.{Book}
use Rattle.book.specs.Books.{state_of}

pub book_ready : (b : Book) → Ready (state_of b)
book_ready b = ready b.led
