use Rattle.fof_parse.proofs.Apart.{not_both_ways, one_way}
use Rattle.fof_parse.proofs.Either.{problem_or_refusal, good_has_problem}
use Rattle.fof_parse.proofs.law.one_answer.Goals as goal

pub returns : goal.returns
returns c =
    record {
      some = λ bytes. problem_or_refusal bytes;
      not_both = λ bytes problem p r. not_both_ways bytes problem r.0 r.1 p r.2;
      one_refusal = λ bytes e d. one_way bytes e d;
      good = λ bytes g. good_has_problem bytes g;
    }
