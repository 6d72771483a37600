-- A step done on the first open list keeps what the steps after it have to refute, and where they stop.
use Rattle.std.proofs.Math.Seq.{drop-cons}
use Rattle.std.proofs.Common.{◌≡◌, ◌<◌, ◌+◌, length, get_or, drop, add-one, inl, inr, ℕ, suc, List, [], ◌∷◌, Option, Some, None, Result, Ok, Err, refl, ap, sym, ◌∙◌, subst, arith, OnOk}
use Rattle.fol_core.specs.Syntax.{PlainFormula}
use Rattle.gs3_rules.specs.Rules.{Rule}
use Rattle.gs3_rules.specs.Refutes.{RefutedBy, preorder}
use Rattle.gs3_rules.specs.InTurn.{RefuteInTurn, StopAt}
use Rattle.gs3_rules.proofs.InTurn.{refuted_in_turn, refuted_or_stops, stops_where_fails}
use Rattle.gs3_kernel.specs.Steps.{DoesStep}
use Rattle.gs3_kernel.specs.OpenLists.{left_of, open_lists}
use Rattle.gs3_rules.specs.Apply.{rule_of, rules_of}
use Rattle.gs3_rules.specs.declared.step.Step.{Step as CodeStep}
use Rattle.gs3_kernel.specs.Check.{Checks}
use Rattle.gs3_kernel.specs.declared.checking.CheckError.{CheckError}
use Rattle.gs3_kernel.specs.declared.checking.CheckError.TheVariants.{Wrong, OutOfMemory}
use Rattle.gs3_kernel.specs.declared.open.Open.{Open}

-- What the steps do from the beginning, they do from here on, this many steps later.
pub record Reaches (begun : List (List PlainFormula)) (all : List Rule) (left : List (List PlainFormula)) (rules : List Rule) (at : ℕ) : Type 0 where
  pub refute : RefuteInTurn left rules → RefuteInTurn begun all
  pub stop : (n : ℕ) → StopAt left rules n → StopAt begun all (at + n)

pub reaches_none : (lists : List (List PlainFormula)) (rules : List Rule) → Reaches lists rules lists rules 0
reaches_none lists rules = record { refute = λ h. h; stop = λ n s. subst (λ m. StopAt lists rules m) (omega arith) s }

turn_refutes : (lists : List (List PlainFormula)) (rule : Rule) (rules : List Rule) (next : Option Open)
    → DoesStep lists rule (Some next) → RefuteInTurn (left_of next) rules → RefuteInTurn lists (rule ∷ rules)
turn_refutes [] rule rules next d h = absurd d
turn_refutes (list ∷ lists) rule rules next d h = (d.0, d.1, subst (λ x. RefuteInTurn x rules) d.2 h)

turn_stops : (lists : List (List PlainFormula)) (rule : Rule) (rules : List Rule) (next : Option Open) (n : ℕ)
    → DoesStep lists rule (Some next) → StopAt (left_of next) rules n → StopAt lists (rule ∷ rules) (suc n)
turn_stops [] rule rules next n d s = absurd d
turn_stops (list ∷ lists) rule rules next n d s = inr (d.0, d.1, n, refl, subst (λ x. StopAt x rules n) d.2 s)

pub reaches_more : (begun : List (List PlainFormula)) (all : List Rule) (lists : List (List PlainFormula)) (rule : Rule) (rules : List Rule) (at : ℕ) (next : Option Open)
    → Reaches begun all lists (rule ∷ rules) at → DoesStep lists rule (Some next) → Reaches begun all (left_of next) rules (at + 1)
reaches_more begun all lists rule rules at next r d = record {
  refute = λ h. r.refute (turn_refutes lists rule rules next d h);
  stop = λ n s. subst (λ m. StopAt begun all m) (omega arith) (r.stop (suc n) (turn_stops lists rule rules next n d s));
}

pub fails_now : (lists : List (List PlainFormula)) (rule : Rule) (rules : List Rule) → DoesStep lists rule None → StopAt lists (rule ∷ rules) 0
fails_now [] rule rules d = absurd d
fails_now (list ∷ lists) rule rules d = inl (refl, d)

pub stops_here : (begun : List (List PlainFormula)) (all : List Rule) (left : List (List PlainFormula)) (rules : List Rule) (at : ℕ)
    → Reaches begun all left rules at → StopAt left rules 0 → StopAt begun all at
stops_here begun all left rules at r s = subst (λ m. StopAt begun all m) (omega arith) (r.stop 0 s)

same_place : {A : Type 0} (r : Result A CheckError) (m n : ℕ) → r ≡ Err (Wrong m) → r ≡ Err (Wrong n) → m ≡ n
same_place r m n e f = cc

not_wrong : {A : Type 0} (r : Result A CheckError) (a : A) (n : ℕ) → r ≡ Ok a → r ≡ Err (Wrong n) → ⊥
not_wrong r a n e f = cc

no_place : {A : Type 0} (r : Result A CheckError) (n : ℕ) → r ≡ Err OutOfMemory → r ≡ Err (Wrong n) → ⊥
no_place r n e f = cc

pub refused : (list : List PlainFormula) (rules : List Rule) (at : ℕ) (r : Result (Unit {0}) CheckError)
    → r ≡ Err (Wrong at) → StopAt (list ∷ []) rules at → Checks list rules r
refused list rules at r e s = record {
  refuted = subst (λ x. OnOk x (RefutedBy list rules)) (sym e) tt;
  not_refuted = λ n f h. refuted_or_stops (list ∷ []) rules at ((refuted_in_turn list rules).0 h) s;
  stops = λ n f. subst (λ m. StopAt (list ∷ []) rules m) (same_place r at n e f) s;
  fails = λ tree shape steps n f. stops_where_fails tree list n shape
      (subst (λ m. StopAt (list ∷ []) (preorder tree) m) (same_place r at n e f) (subst (λ x. StopAt (list ∷ []) x at) (sym steps) s));
}

pub accepted : (list : List PlainFormula) (rules : List Rule) (r : Result (Unit {0}) CheckError)
    → r ≡ Ok tt → RefuteInTurn (list ∷ []) rules → Checks list rules r
accepted list rules r e h = record {
  refuted = subst (λ x. OnOk x (RefutedBy list rules)) (sym e) ((refuted_in_turn list rules).1 h);
  not_refuted = λ n f g. not_wrong r tt n e f;
  stops = λ n f. absurd (not_wrong r tt n e f);
  fails = λ tree shape steps n f. absurd (not_wrong r tt n e f);
}

pub ran_out : (list : List PlainFormula) (rules : List Rule) (r : Result (Unit {0}) CheckError) → r ≡ Err OutOfMemory → Checks list rules r
ran_out list rules r e = record {
  refuted = subst (λ x. OnOk x (RefutedBy list rules)) (sym e) tt;
  not_refuted = λ n f g. no_place r n e f;
  stops = λ n f. absurd (no_place r n e f);
  fails = λ tree shape steps n f. absurd (no_place r n e f);
}

module _ (begun : List (List PlainFormula)) (all : List Rule) (left : Option Open) (rules : List Rule) (at : ℕ) (reaches : Reaches begun all (left_of left) rules at) where
  -- a step is left, and no list
  pub too_many : (rule : Rule) (rest : List Rule) → left ≡ None → rules ≡ rule ∷ rest → StopAt begun all at
  too_many rule rest none e =
      stops_here begun all (left_of left) rules at reaches (subst (λ o. StopAt (left_of o) rules 0) (sym none) (subst (λ rs. StopAt [] rs 0) (sym e) refl))

  -- a list is left, and no step
  pub too_few : (state : Open) → left ≡ Some state → rules ≡ [] → StopAt begun all at
  too_few state some e =
      stops_here begun all (left_of left) rules at reaches (subst (λ o. StopAt (left_of o) rules 0) (sym some) (subst (λ rs. StopAt (open_lists state) rs 0) (sym e) refl))

  -- the step is none on the first list
  pub fails_here : (state : Open) (rule : Rule) (rest : List Rule) (next : Option (Option Open)) → left ≡ Some state → rules ≡ rule ∷ rest
      → DoesStep (open_lists state) rule next → next ≡ None → StopAt begun all at
  fails_here state rule rest next some e does none =
      stops_here begun all (left_of left) rules at reaches (subst (λ o. StopAt (left_of o) rules 0) (sym some)
      (subst (λ rs. StopAt (open_lists state) rs 0) (sym e) (fails_now (open_lists state) rule rest (subst (λ n. DoesStep (open_lists state) rule n) none does))))

  pub goes_on : (state : Open) (rule : Rule) (rest : List Rule) (next : Option (Option Open)) (then_left : Option Open) → left ≡ Some state → rules ≡ rule ∷ rest
      → DoesStep (open_lists state) rule next → next ≡ Some then_left → Reaches begun all (left_of then_left) rest (at + 1)
  goes_on state rule rest next then_left some e does more =
      reaches_more begun all (open_lists state) rule rest at then_left
      (subst (λ rs. Reaches begun all (open_lists state) rs at) e (subst (λ o. Reaches begun all (left_of o) rules at) some reaches))
      (subst (λ n. DoesStep (open_lists state) rule n) more does)

  -- neither is left
  pub all_done : left ≡ None → rules ≡ [] → RefuteInTurn begun all
  all_done none e =
      reaches.refute (subst (λ o. RefuteInTurn (left_of o) rules) (sym none) (subst (λ rs. RefuteInTurn [] rs) (sym e) tt))

-- the rules from the step i on
pub rules_from : (steps : List CodeStep) (i : ℕ) (s : CodeStep) → i < length steps → s ≡ get_or steps i s → rules_of (drop i steps) ≡ rule_of s ∷ rules_of (drop (i + 1) steps)
rules_from steps i s h e =
    ap rules_of (drop-cons steps i s h) ∙ ap (λ x. rule_of x ∷ rules_of (drop (suc i) steps)) (sym e)
    ∙ ap (λ j. rule_of s ∷ rules_of (drop j steps)) (sym (add-one i))
