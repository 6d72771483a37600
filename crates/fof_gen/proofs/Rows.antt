-- Worked problems, computed.
use Rattle.std.proofs.Common.{◌≡◌, [], ◌∷◌, length, refl}
use Rattle.std.specs.Prelude.{codes}
use Rattle.std.specs.Fmt.{digits}
use Rattle.fof_gen.specs.Generated.{problem_lines, problem_text}

lines_of_two : problem_lines 2
    ≡ codes "fof(s,axiom,p0(a))."
    ∷ codes "fof(r0,axiom,![X]:(p0(X)=>p1(X)))."
    ∷ codes "fof(r1,axiom,![X]:(p1(X)=>p2(X)))."
    ∷ codes "fof(g,conjecture,p2(a))."
    ∷ []
unfolding digits
lines_of_two = refl

least_length : length (problem_text 1) ≡ 80
unfolding digits
least_length = refl

greatest_length : length (problem_text 100) ≡ 3819
unfolding digits
greatest_length = refl
