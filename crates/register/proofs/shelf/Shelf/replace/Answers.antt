use Rattle.register.proofs.Rooms.{take_set_front}
use Rattle.register.proofs.shelf.Shelf.replace.Goals as goal

pub returns-clause-after : goal.returns-clause-after
returns-clause-after g c = take_set_front c.args.self.now.count c.args.self.now.items.now c.args.place c.args.item
