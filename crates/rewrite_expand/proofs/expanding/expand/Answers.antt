use Rattle.std.proofs.Common.{map}
use Rattle.std.proofs.lemmas.Result.{IfOk-weaker}
use Rattle.fol_core.specs.View.{term_of}
use Rattle.rewrite_expand.specs.View.{expansion_of}
use Rattle.rewrite_expand.proofs.InPreorder.{are_whole}
use Rattle.rewrite_expand.proofs.Sound.{refuted_by_whole, result_there}
use Rattle.rewrite_expand.proofs.expanding.expand.Goals as goal

pub returns-clause-tree : goal.returns-clause-tree
returns-clause-tree c =
    IfOk-weaker _ _ _ (λ e is. are_whole (expansion_of e) c.args.n_places c.args.axiom_place c.args.literal_place c.args.positive c.args.head_left (map term_of c.args.terms.now) is)
    c.rewriting_steps.ensures

pub returns-clause-refutes : goal.returns-clause-refutes
returns-clause-refutes c =
    IfOk-weaker _ _ _ (λ e is. refuted_by_whole (expansion_of e) c.args.n_places c.args.axiom_place c.args.literal_place c.args.positive c.args.head_left (map term_of c.args.terms.now) is)
    c.rewriting_steps.ensures

pub returns-clause-result : goal.returns-clause-result
returns-clause-result c =
    IfOk-weaker _ _ _ (λ e is. result_there (expansion_of e) c.args.n_places c.args.axiom_place c.args.literal_place c.args.positive c.args.head_left (map term_of c.args.terms.now) is)
    c.rewriting_steps.ensures
