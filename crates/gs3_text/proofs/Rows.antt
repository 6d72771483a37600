-- The definitions at whole texts.
use Rattle.std.proofs.Common.{ℕ, List, [], ◌∷◌, codes, refl, lit<}
use Rattle.std.specs.Fmt.{digits}
use Rattle.gs3_rules.specs.Rules.{Rule, close, beta}
use Rattle.gs3_rules.specs.Refutes.{ProofTree, by, Premises, no_premises, premise}
use Rattle.gs3_text.specs.ProofText.{AreLinesOf}

leaf : Rule → Premises
leaf rule = premise (by rule no_premises) no_premises

abbrev chain : ProofTree
chain = by (beta 1) (premise (by (close 0 3) no_premises) (premise (by (close 3 2) no_premises) no_premises))

abbrev with_comments : List (List ℕ)
with_comments = codes "% depth 1" ∷ codes "gs3 1" ∷ codes "beta 1" ∷ codes "%" ∷ codes "close 0 3" ∷ codes "close 3 2" ∷ codes "% end" ∷ []

-- a proof with lines that begin with `%` around and between
are_lines : AreLinesOf [] with_comments chain
unfolding digits
are_lines = record {
  whole = (refl, (refl, (refl, (refl, (refl, (refl, (refl, tt)))))));
  said = refl;
  shaped = (refl, ((refl, tt), ((refl, tt), tt)));
  spellable = ((lit< tt, tt), (((lit< tt, lit< tt), tt), (((lit< tt, lit< tt), tt), tt)));
}
