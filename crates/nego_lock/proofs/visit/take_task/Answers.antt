use Rattle.nego_lock.proofs.Visiting.{visit-received}
use Rattle.nego_lock.proofs.visit.take_task.Goals as goal

pub returns-in-Ok-clause-did : goal.returns-in-Ok-clause-did
returns-in-Ok-clause-did g c =
    visit-received g.F.Offer.Offer.tree g.F.Field.named (g.F.Field.around c.args.state.now.site) c.args.state.now.state c.receive.new.self.state c.args.state.now.history c.receive.new.self.history
    (g.F.Field.tree c.args.field.now) c.reserve.new.self.state c.reserve.new.self.history c.requires.tree c.in_ok-reserve.ensures.state c.in_ok-reserve.ensures.history
    c.args.task c.in-Ok.ensures.lawful c.in-Ok.ensures.state c.in-Ok.ensures.history
