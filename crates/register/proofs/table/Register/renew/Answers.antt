use Rattle.std.proofs.Common.{ap, ◌∙◌}
use Rattle.register.specs.Keys.{rising}
use Rattle.register.specs.Views.{held}
use Rattle.register.proofs.AtKeys.{rising_set}
use Rattle.register.proofs.table.Register.renew.Goals as goal

pub invariant_of-self : goal.invariant_of-self
invariant_of-self g c =
    let key = g.T.Keyed.key in
    record { rises = ap (rising key) c.replace.ensures.after ∙ rising_set key c.args.item (held c.args.self.now.shelf) c.args.place c.args.self.now.rises c.requires.held_there c.requires.same_key }
