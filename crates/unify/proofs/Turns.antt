-- The turns of unification: what a step leaves of the offer and the pairs.
use Rattle.std.proofs.Common.{◌≡◌, ◌<◌, List, [], ◌∷◌, ◌++◌, length, None, refl, ap, sym, ◌∙◌, subst, arith}
use Rattle.free_terms.specs.Free.{FreeTerms}
use Rattle.free_terms.specs.View.{name_of, terms_of}
use Rattle.free_terms.specs.declared.term.FTerm.{FTerm}
use Rattle.unify.specs.Offers.{value_of, Offer, IsOffer, IsMostGeneral, Unifies}
use Rattle.unify.specs.Memo.{Remembers, StillRemembers}
use Rattle.unify.specs.View.{binding_of, offer_of}
use Rattle.unify.specs.declared.memo.Memo.{Memo}
use Rattle.unify.specs.Work.{Pairs, pairs_of, zipped, StepMeans, NoneIfAgreed}
use Rattle.unify.specs.declared.bindings.Binding.{Binding}
use Rattle.unify.specs.declared.work.Pair.{Pair}
use Rattle.unify.specs.declared.work.Step.{Step}
use Rattle.unify.specs.declared.work.Step.TheVariants as step
use Rattle.unify.proofs.Partial.{IsPartial, unbound, partial_start, partial_reduces, partial_binds, partial_done, partial_clash, less_unbound}
use Rattle.unify.proofs.Resolved.{count_terms}

pub offer_with : (s : List Binding) (b : Binding) → offer_of (s ++ b ∷ []) ≡ offer_of s ++ binding_of b ∷ []
offer_with [] b = refl
offer_with (c ∷ s) b = ap (λ z. binding_of c ∷ z) (offer_with s b)

-- the first pairs, as they were pushed
pub begun : (given seen : List Binding) (us vs : FreeTerms) (none work : List Pair) → IsOffer (offer_of given) → seen ≡ given → none ≡ []
    → pairs_of work ≡ pairs_of none ++ zipped us vs → IsPartial (offer_of given) (zipped us vs) (offer_of seen) (pairs_of work)
begun given seen us vs none work o same e p =
    subst (λ s. IsPartial (offer_of given) (zipped us vs) (offer_of s) (pairs_of work)) (sym same)
    (subst (IsPartial (offer_of given) (zipped us vs) (offer_of given)) (sym (p ∙ ap (λ z. pairs_of z ++ zipped us vs) e)) (partial_start (offer_of given) (zipped us vs) o))

pub bound_turn : (given : Offer) (start : Pairs) (s after : List Binding) (old new : Pairs) (told : Step) (b : Binding) → IsPartial given start (offer_of s) old
    → StepMeans (offer_of s) old new told → told ≡ step.Bind b → after ≡ s ++ b ∷ [] → IsPartial given start (offer_of after) new
bound_turn given start s after old new told b p m is e =
    subst (λ z. IsPartial given start z new) (sym (ap offer_of e ∙ offer_with s b))
    (partial_binds given start (offer_of s) old new (binding_of b) p (subst (StepMeans (offer_of s) old new) is m))

pub bound_less : (given : Offer) (start : Pairs) (s after : List Binding) (old new : Pairs) (told : Step) (b : Binding) → IsPartial given start (offer_of s) old
    → StepMeans (offer_of s) old new told → told ≡ step.Bind b → after ≡ s ++ b ∷ [] → unbound given start (offer_of after) < unbound given start (offer_of s)
bound_less given start s after old new told b p m is e =
    let less = less_unbound given start (offer_of s) old new (binding_of b) p (subst (StepMeans (offer_of s) old new) is m) in
    let same = ap (unbound given start) (ap offer_of e ∙ offer_with s b) in
    omega (arith, less, same)

-- the name that is bound next is open
pub open_turn : (s seen : List Binding) (old new : Pairs) (told : Step) (b : Binding) → StepMeans (offer_of s) old new told → told ≡ step.Bind b → seen ≡ s
    → value_of (offer_of seen) (name_of b.name) ≡ None
open_turn s seen old new told b m is e =
    subst (λ z. value_of (offer_of z) (name_of b.name) ≡ None) (sym e) (subst (StepMeans (offer_of s) old new) is m).unbound

pub memo_turn : (s after : List Binding) (new : Pairs) (memo : Memo) (told : Step) (b : Binding) → StillRemembers (offer_of s) new memo told → told ≡ step.Bind b
    → after ≡ s ++ b ∷ [] → Remembers (offer_of after) new memo
memo_turn s after new memo told b k is e =
    subst (λ z. Remembers z new memo) (sym (ap offer_of e ∙ offer_with s b)) (subst (StillRemembers (offer_of s) new memo) is k)

pub clash_turn : (given : Offer) (us vs : FreeTerms) (s : Offer) (old new : Pairs) (told : Step) → IsPartial given (zipped us vs) s old
    → StepMeans s old new told → told ≡ step.Clash → Unifies given us vs None
clash_turn given us vs s old new told p m is = partial_clash given us vs s old p (subst (StepMeans s old new) is m)

pub agreed_turn : (given : Offer) (us vs : List FTerm) (s found : List Binding) (old new : Pairs) (told : Step) → length us ≡ length vs
    → IsPartial given (zipped (terms_of us) (terms_of vs)) (offer_of s) old → StepMeans (offer_of s) old new told → NoneIfAgreed new told → told ≡ step.Agreed
    → found ≡ s → IsMostGeneral given (terms_of us) (terms_of vs) (offer_of found)
agreed_turn given us vs s found old new told len p m none is same =
    let done = partial_reduces given (zipped (terms_of us) (terms_of vs)) (offer_of s) old new p (subst (StepMeans (offer_of s) old new) is m) in
    let empty : new ≡ [] = subst (NoneIfAgreed new) is none in
    subst (λ z. IsMostGeneral given (terms_of us) (terms_of vs) (offer_of z)) (sym same)
    (partial_done given (terms_of us) (terms_of vs) (offer_of s) (count_terms us ∙ len ∙ sym (count_terms vs)) (subst (IsPartial given (zipped (terms_of us) (terms_of vs)) (offer_of s)) empty done))
