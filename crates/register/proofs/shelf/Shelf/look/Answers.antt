use Rattle.std.proofs.Common.{sym, ◌∙◌, arith}
use Rattle.register.specs.Views.{held}
use Rattle.register.proofs.AtKeys.{looked, looked_in_vain}
use Rattle.register.proofs.shelf.Shelf.look.Goals as goal

pub returns-in_err-place : goal.returns-in_err-place
returns-in_err-place g c =
    c.from_residual.ensures ∙ sym (looked_in_vain g.T.Keyed.key c.args.key (held c.args.self.now) c.place_of.result c.place_of.ensures (sym c.ok.ensures.value ∙ c.in_err-place.was))

pub returns : goal.returns
returns g c =
    looked g.T.Keyed.key c.args.key (held c.args.self.now) c.place_of.result c.in_ok-place.place _ c.get.result c.requires.rises c.place_of.ensures (sym c.ok.ensures.value ∙ c.in_ok-place.was) (omega arith) c.get.ensures
