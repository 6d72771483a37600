-- What a comparison comes to, from what its parts come to.
use Rattle.std.proofs.Common.{◌≡◌, ◌<◌, List, [], ◌∷◌, ◌++◌, Option, Some, None, MatchOption, Result, Ok, Err, IfOk, refl, ap, sym, ◌∙◌, subst}
use Rattle.free_terms.specs.Free.{Name, FreeTerm, metavar}
use Rattle.unify.specs.Offers.{Offer, Binding}
use Rattle.unify.specs.View.{binding_of}
use Rattle.unify.specs.Work.{Pairs, pair_of, pairs_of, IsHead, IsMetavar, Binds, Reduces, load, parts, AgainstMeans, SplitMeans, StepMeans}
use Rattle.unify.specs.declared.work.Pair.{Pair}
use Rattle.unify.specs.declared.work.Step.{Step}
use Rattle.unify.specs.declared.work.Step.TheVariants as step
use Rattle.unify.specs.Memo.{GoesOn, Remembers, StillRemembers}
use Rattle.unify.specs.declared.memo.Memo.{Memo}
use Rattle.unify.proofs.Remembered.{nothing_more, goes_less, goes_means, remembers_step}
use Rattle.unify.proofs.Reduce.{reduces_on, clashes_on, binds_on, reduce_same, reduce_parts, reduce_clash, reduce_no_parts, reduce_bind, reduce_bind_right, less_parts}

as_binding : (s : Offer) (old new : Pairs) (b : Binding) (x : Name) (t : FreeTerm) → b.name ≡ x → b.term ≡ t
    → Binds s old new (record { name = x; term = t }) → Binds s old new b
as_binding s old new b x t e f p = subst (Binds s old new) (λ i. record { name = sym e i; term = sym f i }) p

pub left_goes : (s : Offer) (w : Pairs) (a b : FreeTerm) (x : Name) (k : FreeTerm) (st : Step) → IsHead s a (metavar x) → IsHead s b k
    → AgainstMeans s x k st → GoesOn s w (a, b) w st
left_goes s w a b x k step.Agreed l m p = nothing_more s w a b (reduce_same s [] a b (metavar x) k l m (sym p))
left_goes s w a b x k step.Clash l m p = reduce_clash s [] a b (metavar x) k l m p
left_goes s w a b x k (step.Bind c) l m p = (refl, as_binding s _ _ (binding_of c) x k p.0 p.1 (reduce_bind s [] a b x k l m p.2))

pub right_goes : (s : Offer) (w : Pairs) (a b : FreeTerm) (x : Name) (k : FreeTerm) (st : Step) → IsHead s a k → IsHead s b (metavar x)
    → AgainstMeans s x k st → GoesOn s w (a, b) w st
right_goes s w a b x k step.Agreed l m p = nothing_more s w a b (reduce_same s [] a b k (metavar x) l m p)
right_goes s w a b x k step.Clash l m p = reduce_clash s [] a b k (metavar x) l m (λ r e q. p r e (sym q))
right_goes s w a b x k (step.Bind c) l m p = (refl, as_binding s _ _ (binding_of c) x k p.0 p.1 (reduce_bind_right s [] a b x k l m p.2))

split_parts : (s : Offer) (w new : Pairs) (a b h k : FreeTerm) (o : Option Pairs) → parts h k ≡ o → IsHead s a h → IsHead s b k
    → MatchOption o ⊥ (λ ps. new ≡ w ++ ps) → GoesOn s w (a, b) new step.Agreed
split_parts s w new a b h k None e l m p = absurd p
split_parts s w new a b h k (Some ps) e l m p = (ps, p, reduce_parts s [] a b h k ps l m e, less_parts s [] a b h k ps l e)

pub split_goes : (s : Offer) (w new : Pairs) (a b h k : FreeTerm) (st : Step) → IsHead s a h → IsHead s b k → (IsMetavar h → ⊥) → (IsMetavar k → ⊥)
    → SplitMeans h k w new st → GoesOn s w (a, b) new st
split_goes s w new a b h k step.Agreed l m nh nk p = split_parts s w new a b h k (parts h k) refl l m p
split_goes s w new a b h k step.Clash l m nh nk p = reduce_no_parts s [] a b h k l m nh nk p
split_goes s w new a b h k (step.Bind c) l m nh nk p = absurd p

-- the same of what may have failed
pub if_ok : {E : Type 0} {P Q : Step → Type 0} (r : Result Step E) → ((st : Step) → P st → Q st) → IfOk r P → IfOk r Q
if_ok (Ok st) f p = f st p
if_ok (Err e) f p = tt

-- the pairs with one more
pub pairs_with : (ps : List Pair) (p : Pair) → pairs_of (ps ++ p ∷ []) ≡ pairs_of ps ++ pair_of p ∷ []
pairs_with [] p = refl
pairs_with (q ∷ ps) p = ap (λ z. pair_of q ∷ z) (pairs_with ps p)

-- a step after what the pairs had come to
pub means_on : (s : Offer) (old mid new : Pairs) (st : Step) → Reduces s old mid → StepMeans s mid new st → StepMeans s old new st
means_on s old mid new step.Agreed a p = reduces_on s old mid new a p
means_on s old mid new step.Clash a p = clashes_on s old mid a p
means_on s old mid new (step.Bind b) a p = binds_on s old mid new (binding_of b) a p

-- the last pair was taken, and its comparison told a step
pub popped : (s : Offer) (old : Pairs) (items rest : List Pair) (p : Pair) (new : Pairs) (told st : Step) → Reduces s old (pairs_of items)
    → items ≡ rest ++ p ∷ [] → told ≡ st → GoesOn s (pairs_of rest) (pair_of p) new told → StepMeans s old new st
popped s old items rest p new told st a e is g =
    means_on s old (pairs_of items) new st a
    (subst (λ z. StepMeans s z new st) (sym (ap pairs_of e ∙ pairs_with rest p))
    (goes_means s (pairs_of rest) new (pair_of p) st (subst (GoesOn s (pairs_of rest) (pair_of p) new) is g)))

pub popped_less : (s : Offer) (items rest : List Pair) (p : Pair) (new : Pairs) (told : Step) → items ≡ rest ++ p ∷ [] → told ≡ step.Agreed
    → GoesOn s (pairs_of rest) (pair_of p) new told → load s new < load s (pairs_of items)
popped_less s items rest p new told e is g =
    subst (λ z. load s new < load s z) (sym (ap pairs_of e ∙ pairs_with rest p))
    (goes_less s (pairs_of rest) new (pair_of p) (subst (GoesOn s (pairs_of rest) (pair_of p) new) is g))

pub popped_memo : (s : Offer) (rest : List Pair) (p : Pair) (new : Pairs) (memo : Memo) (told st : Step) → told ≡ st
    → GoesOn s (pairs_of rest) (pair_of p) new told → Remembers s (pairs_of rest ++ pair_of p ∷ []) memo → StillRemembers s new memo st
popped_memo s rest p new memo told st is g k =
    remembers_step s (pairs_of rest) new (pair_of p) memo st k (subst (GoesOn s (pairs_of rest) (pair_of p) new) is g)
