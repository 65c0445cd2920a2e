use Rattle.std.proofs.Common.{arith}
use Rattle.register.proofs.Rooms.{brought}
use Rattle.register.specs.Views.{held}
use Rattle.register.proofs.shelf.Shelf.insert.Goals as goal

pub returns-clause-after : goal.returns-clause-after
returns-clause-after g c =
    let shelf = c.append.new.self in
    brought shelf.items.now (held c.args.self.now) c.args.before shelf.count c.args.item c.requires.before_within shelf.within c.append.ensures.after c.rotate_right.new.self _ (omega arith) c.rotate_right.ensures.after
