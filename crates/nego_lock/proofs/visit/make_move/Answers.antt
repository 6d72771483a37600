use Rattle.std.proofs.Common.{◌∙◌, sym, rules}
use Rattle.nego_node.specs.declared.moves.Move.TheVariants.{Try, Split, Ask}
use Rattle.nego_lock.proofs.Visiting.{may-move, visit-try, visit-split, visit-ask}
use Rattle.nego_lock.proofs.visit.make_move.Goals as goal

pub tried-requires-clause-lawful : goal.tried-requires-clause-lawful
tried-requires-clause-lawful g c κs within =
    may-move (g.F.Field.around c.args.state.now.site) c.args.state.now.state c.args.step Try c.requires.lawful c.in-Try.is (search rules)

pub split_into-requires-clause-lawful : goal.split_into-requires-clause-lawful
split_into-requires-clause-lawful g c κs within =
    may-move (g.F.Field.around c.args.state.now.site) c.args.state.now.state c.args.step Split c.requires.lawful c.in-Split.is (search rules)

pub advance-requires-clause-lawful : goal.advance-requires-clause-lawful
advance-requires-clause-lawful g c κs within =
    may-move (g.F.Field.around c.args.state.now.site) c.args.state.now.state c.args.step (Ask c.in-Ask.side) c.requires.lawful c.in-Ask.is (search rules)

pub returns-in_ok-out-in-Try-clause-did : goal.returns-in_ok-out-in-Try-clause-did
returns-in_ok-out-in-Try-clause-did g c =
    let may = may-move (g.F.Field.around c.args.state.now.site) c.args.state.now.state c.args.step Try c.requires.lawful c.in-Try.is (search rules) in
    visit-try g.F.Offer.Offer.tree g.F.Field.named (g.F.Field.around c.args.state.now.site) c.args.state.now.state c.tried.new.self.state c.args.state.now.history c.tried.new.self.history
    c.in_ok-out-in-Try.out (sym c.in-Try.is ∙ c.requires.step) may c.in_ok-tried-in-Try.ensures.did c.in_ok-out-in-Try.ensures.answer

pub returns-in_ok-left-in-Split-clause-did : goal.returns-in_ok-left-in-Split-clause-did
returns-in_ok-left-in-Split-clause-did g c =
    let names = c.in_ok-left-in-Split.ensures.names in
    visit-split g.F.Offer.Offer.tree g.F.Field.named (g.F.Field.around c.args.state.now.site) c.args.state.now.state c.split_into.new.self.state c.args.state.now.history c.split_into.new.self.history
    c.in_ok-left-in-Split.left c.in_ok-left-in-Split.right (sym c.in-Split.is ∙ c.requires.step) c.in_ok-left-in-Split.ensures.did names.0 names.1

pub returns-in_ok-out-in-Ask-clause-did : goal.returns-in_ok-out-in-Ask-clause-did
returns-in_ok-out-in-Ask-clause-did g c =
    visit-ask g.F.Offer.Offer.tree g.F.Field.named (g.F.Field.around c.args.state.now.site) c.args.state.now.state c.advance.new.self.state c.args.state.now.history c.advance.new.self.history
    c.args.step c.in-Ask.side c.in_ok-out-in-Ask.out c.requires.step c.in-Ask.is c.in_ok-advance-in-Ask.ensures.did c.in_ok-out-in-Ask.ensures.task
