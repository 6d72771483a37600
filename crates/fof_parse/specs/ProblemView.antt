-- The plain problem that a `Problem` or its `Contents` stand for.
use Rattle.fof_parse.specs.Problem.{PlainProblem}
use Rattle.fof_parse.specs.ProblemParts.{plain_parts}
use Rattle.fof_parse.specs.declared.contents.Contents.{Contents}
use Rattle.fof_parse.specs.declared.problem.Problem.{Problem}

abbrev pub plain_contents : Contents → PlainProblem
plain_contents c = plain_parts c.symbols c.statements c.axioms c.conjecture

abbrev pub plain_problem : Problem → PlainProblem
plain_problem p = plain_parts p.symbols p.statements p.axioms p.conjecture
