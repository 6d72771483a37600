use Rattle.nego_core.proofs.Here.{begun}
use Rattle.nego_core.proofs.play.Play.open.Goals as goal

pub returns-clause-nodes : goal.returns-clause-nodes
returns-clause-nodes g c =
    record {
      node = c.begin.result;
      of_site = c.begin.ensures.site;
      is_new = begun c.begin.result c.args.round c.name-name.result _ c.begin.ensures.state c.begin.ensures.history c.name-name.ensures;
      becomes = c.in_ok-push.ensures.items;
    }
