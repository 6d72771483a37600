-- Parts of a formula that are read and built, from their parts.
use Rattle.std.proofs.Common.{◌≡◌, ℕ, List, [], ◌∷◌, ◌++◌, Option, Some, None, Bor, refl, ap, subst, ◌∙◌}
use Rattle.std.proofs.lemmas.List.{map-append}
use Rattle.fol_core.specs.Syntax.{PlainFormula}
use Rattle.fol_core.specs.Syntax as syntax
use Rattle.fof_parse.specs.declared.token.Operator.{Operator}
use Rattle.fof_parse.specs.declared.token.Quantifier.{Quantifier as Quantor}
use Rattle.fof_parse.specs.declared.token.Equality.{Equality as Equation}
use Rattle.fof_parse.specs.declared.token.Bracket.TheVariants.{Round, Square}
use Rattle.fof_parse.specs.declared.token.Mark.TheVariants.{Open, Close}
use Rattle.fof_parse.specs.Token.{Token}
use Rattle.fof_parse.specs.Grammar.{Symbol, Term, applied, Terms, atom, equality, negation, quantified}
use Rattle.fof_parse.specs.Problem.{plain_binary, plain_quantified}
use Rattle.fof_parse.specs.Reader.Reading.{◌>>=◌, after_mark, one_token, negation_lead, group_lead, quantifier_lead, lead_of, equality_of, variable_of, atom_of, next_operator}
use Rattle.fof_parse.specs.Reader.Parsing.{ReadsTerm, ReadsUnit, ReadsBound, ReadsScope, ReadsFormula, Parsed}
use Rattle.fof_parse.specs.Reader.Building.{State, names, Built}
use Rattle.fof_parse.proofs.Formulas.{reads_atom, reads_equation, reads_negation, reads_group, reads_quantified, reads_variable}
use Rattle.fof_parse.proofs.Means.{negation_built, quantified_built, FormulaSoFar, next_unit}

-- `vs` are the variables in scope
module _ (vs : List (List ℕ)) (old new : State) where
  pub atom_parsed : (ts mid : List Token) (f : Symbol) (us : Terms) (t : Term) (a : PlainFormula) → one_token lead_of ts ≡ None → ReadsTerm ts (Some (t, mid)) → t ≡ applied f us → one_token equality_of mid ≡ None
      → Built vs old new (atom f us) a → Parsed (ReadsUnit ts) vs old new a mid
  atom_parsed ts mid f us t a lead h e none b =
      record { sentence = atom f us; reads = reads_atom ts t mid (Some (atom f us)) (Some (atom f us, mid)) lead h none (ap atom_of e) refl; built = b }

  pub equation_parsed : (ts mid us rest : List Token) (e : Equation) (t u : Term) (a : PlainFormula) → one_token lead_of ts ≡ None → ReadsTerm ts (Some (t, mid)) → one_token equality_of mid ≡ Some (e, us)
      → ReadsTerm us (Some (u, rest)) → Built vs old new (equality e t u) a → Parsed (ReadsUnit ts) vs old new a rest
  equation_parsed ts mid us rest e t u a lead h some k b =
      record { sentence = equality e t u; reads = reads_equation ts t mid e us (Some (u, rest)) (Some (equality e t u, rest)) lead h some k refl; built = b }

  pub negation_parsed : (ts us rest : List Token) (a b : PlainFormula) → one_token lead_of ts ≡ Some (negation_lead, us) → Parsed (ReadsUnit us) vs old new b rest → a ≡ syntax.not b
      → Parsed (ReadsUnit ts) vs old new a rest
  negation_parsed ts us rest a b lead p e = record {
    sentence = negation p.sentence;
    reads = reads_negation ts us (Some (p.sentence, rest)) (Some (negation p.sentence, rest)) lead p.reads refl;
    built = negation_built vs old new p.sentence a b p.built e;
  }

  pub group_parsed : (ts us mid rest : List Token) (a : PlainFormula) → one_token lead_of ts ≡ Some (group_lead, us) → Parsed (ReadsFormula us) vs old new a mid → after_mark (Close Round) mid ≡ Some rest
      → Parsed (ReadsUnit ts) vs old new a rest
  group_parsed ts us mid rest a lead p close = record {
    sentence = p.sentence;
    reads = reads_group ts us (Some (p.sentence, mid)) (Some (p.sentence, rest)) lead p.reads (ap (λ o. o >>= λ xs. Some (p.sentence, xs)) close);
    built = p.built;
  }

  pub unclosed_group : (ts us mid : List Token) (a : PlainFormula) → one_token lead_of ts ≡ Some (group_lead, us) → Parsed (ReadsFormula us) vs old new a mid → after_mark (Close Round) mid ≡ None → ReadsUnit ts None
  unclosed_group ts us mid a lead p close =
      reads_group ts us (Some (p.sentence, mid)) None lead p.reads (ap (λ o. o >>= λ xs. Some (p.sentence, xs)) close)

  pub quantified_parsed : (ts us ws rest : List Token) (q : Quantor) (a : PlainFormula) → one_token lead_of ts ≡ Some (quantifier_lead q, us) → after_mark (Open Square) us ≡ Some ws
      → Parsed (ReadsScope q ws) vs old new a rest → Parsed (ReadsUnit ts) vs old new a rest
  quantified_parsed ts us ws rest q a lead square p =
      record { sentence = p.sentence; reads = reads_quantified ts us ws q (Some (p.sentence, rest)) lead square p.reads; built = p.built }

  pub scope_parsed : (ts us rest : List Token) (q : Quantor) (w : List ℕ) (ws : List (List ℕ)) (a b : PlainFormula) → one_token variable_of ts ≡ Some (w, us) → ws ≡ vs ++ w ∷ []
      → Parsed (ReadsBound q us) ws old new b rest → a ≡ plain_quantified q b → Parsed (ReadsScope q ts) vs old new a rest
  scope_parsed ts us rest q w ws a b some scope p e = record {
    sentence = quantified q w p.sentence;
    reads = reads_variable q ts w us (Some (p.sentence, rest)) (Some (quantified q w p.sentence, rest)) some p.reads refl;
    built = quantified_built vs old new q w p.sentence a b (subst (λ xs. Built xs old new p.sentence b) scope p.built) e;
  }

pub names_more : (scope new : List (Bor (List ℕ))) (w : Bor (List ℕ)) → new ≡ scope ++ w ∷ [] → names new ≡ names scope ++ w.now ∷ []
names_more scope new w e = ap names e ∙ map-append (λ (w : Bor (List ℕ)). w.now) scope (w ∷ [])

pub next_parsed : (ts : List Token) (vs ws : List (List ℕ)) (old now new : State) (by : Option Operator) (a b c : PlainFormula) (rest : List Token) (op : Operator) (us behind : List Token) → FormulaSoFar ts vs old now by a rest
    → next_operator by rest ≡ Some (op, us) → ws ≡ vs → Parsed (ReadsUnit us) ws now new b behind → c ≡ plain_binary op a b → FormulaSoFar ts vs old new (Some op) c behind
next_parsed ts vs ws old now new by a b c rest op us behind s next e p d =
    next_unit ts vs old now new by a b c rest op us behind s next (subst (λ xs. Parsed (ReadsUnit us) xs now new b behind) e p) d
