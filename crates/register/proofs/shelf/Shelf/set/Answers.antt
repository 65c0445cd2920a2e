use Rattle.std.proofs.Common.{◌+◌, length, sym, ap, ◌∙◌, if◌then◌else◌, arith}
use Rattle.std.proofs.lemmas.Bool.{leb-true, leb-false, lt-ltb, le-ltb}
use Rattle.register.specs.Keys.{put, rising}
use Rattle.register.specs.Places.{taken_if}
use Rattle.register.specs.Views.{held, room}
use Rattle.register.proofs.AtKeys.{put_found, put_sought, rising_put, fits_missing, fits_found, rising_set}
use Rattle.register.proofs.shelf.Shelf.set.Goals as goal

pub returns-in-Ok-clause-rises : goal.returns-in-Ok-clause-rises
returns-in-Ok-clause-rises g c =
    let key = g.T.Keyed.key in
    let stands = c.in-Ok.ensures in
    ap (rising key) c.replace.ensures.after ∙ rising_set key c.args.item (held c.args.self.now) c.in-Ok.place c.requires.rises stands.0 (stands.1 c.args.item ∙ c.key.ensures)

pub returns-in-Ok-clause-answer : goal.returns-in-Ok-clause-answer
returns-in-Ok-clause-answer g c =
    let stands = c.in-Ok.ensures in
    sym (ap taken_if (fits_found g.T.Keyed.key (room c.args.self.now) c.args.item (held c.args.self.now) c.in-Ok.place c.requires.rises stands.0 (stands.1 c.args.item ∙ c.key.ensures)))

pub returns-in-Ok-clause-after : goal.returns-in-Ok-clause-after
returns-in-Ok-clause-after g c =
    let key = g.T.Keyed.key in
    let xs = held c.args.self.now in
    let item = c.args.item in
    let stands = c.in-Ok.ensures in
    let same = stands.1 item ∙ c.key.ensures in
    let fit = fits_found key (room c.args.self.now) item xs c.in-Ok.place c.requires.rises stands.0 same in
    c.replace.ensures.after ∙ sym (put_found key item xs c.in-Ok.place c.requires.rises stands.0 same) ∙ sym (ap (λ b. if b then put key item xs else xs) fit)

pub returns-in-Err-clause-answer : goal.returns-in-Err-clause-answer
returns-in-Err-clause-answer g c =
    let xs = held c.args.self.now in
    let n = room c.args.self.now in
    let full = leb-false (length xs + 1) n (sym c.if-not-has_room.ensures) in
    let unfit = fits_missing g.T.Keyed.key c.key.result n c.in-Err.field-0 c.args.item xs c.key.ensures c.in-Err.ensures ∙ le-ltb (length xs) n (omega arith) in
    sym (ap taken_if unfit)

pub returns-in-Err-clause-after : goal.returns-in-Err-clause-after
returns-in-Err-clause-after g c =
    let xs = held c.args.self.now in
    let n = room c.args.self.now in
    let full = leb-false (length xs + 1) n (sym c.if-not-has_room.ensures) in
    let unfit = fits_missing g.T.Keyed.key c.key.result n c.in-Err.field-0 c.args.item xs c.key.ensures c.in-Err.ensures ∙ le-ltb (length xs) n (omega arith) in
    sym (ap (λ b. if b then put g.T.Keyed.key c.args.item xs else xs) unfit)

pub returns-in-Err-2-clause-rises : goal.returns-in-Err-2-clause-rises
returns-in-Err-2-clause-rises g c =
    let key = g.T.Keyed.key in
    let xs = held c.args.self.now in
    ap (rising key) (c.insert.ensures.after ∙ sym (put_sought key c.key.result c.in-Err.field-0 _ c.args.item xs c.key.ensures c.in-Err.ensures (omega arith))) ∙ rising_put key c.args.item xs c.requires.rises

pub returns-in-Err-2-clause-answer : goal.returns-in-Err-2-clause-answer
returns-in-Err-2-clause-answer g c =
    let xs = held c.args.self.now in
    let n = room c.args.self.now in
    let free = leb-true (length xs + 1) n (sym c.if-not-has_room.ensures) in
    let fit = fits_missing g.T.Keyed.key c.key.result n c.in-Err.field-0 c.args.item xs c.key.ensures c.in-Err.ensures ∙ lt-ltb (length xs) n (omega arith) in
    sym (ap taken_if fit)

pub returns-in-Err-2-clause-after : goal.returns-in-Err-2-clause-after
returns-in-Err-2-clause-after g c =
    let key = g.T.Keyed.key in
    let xs = held c.args.self.now in
    let n = room c.args.self.now in
    let free = leb-true (length xs + 1) n (sym c.if-not-has_room.ensures) in
    let fit = fits_missing key c.key.result n c.in-Err.field-0 c.args.item xs c.key.ensures c.in-Err.ensures ∙ lt-ltb (length xs) n (omega arith) in
    c.insert.ensures.after ∙ sym (put_sought key c.key.result c.in-Err.field-0 _ c.args.item xs c.key.ensures c.in-Err.ensures (omega arith)) ∙ sym (ap (λ b. if b then put key c.args.item xs else xs) fit)
