use Rattle.std.proofs.Common.{◌+◌, ◌-◌, ◌*◌, ◌/◌, min, ap, ◌∙◌}
use Rattle.book.proofs.Filling.{serves}
use Rattle.book.proofs.request.DeliveryRequest.filling_delivery.Goals as goal

pub returns : goal.returns
returns c =
    let loss = c.args.loss in
    let q = c.args.self.now in
    serves loss q c.args.account.now c.requires.loss c.requires.request c.min.result
    (c.min.ensures ∙ ap (λ t. min ((q.used + t) * 10000 / (10000 - loss)) 8000000) c.min-can_take.ensures)
