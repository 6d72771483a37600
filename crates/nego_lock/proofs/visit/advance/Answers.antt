use Rattle.nego_lock.proofs.Visiting.{visit-settle}
use Rattle.nego_lock.proofs.visit.advance.Goals as goal

pub returns-clause-did : goal.returns-clause-did
returns-clause-did g c =
    visit-settle g.F.Offer.Offer.tree g.F.Field.named (g.F.Field.around c.args.state.now.site) c.args.state.now.state c.advance.new.self.state c.args.state.now.history c.advance.new.self.history
    c.args.step c.in_ok-out.out c.requires.step c.requires.lawful c.requires.kind c.in_ok-advance.ensures.did c.in_ok-out.ensures.answer
