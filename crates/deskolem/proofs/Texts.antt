-- The bytes and the nesting of a closed term, by those that are counted of the term under the offer.
use Rattle.std.proofs.Common.{◌≡◌, ◌+◌, ◌≤◌, ℕ, suc, max, List, [], ◌∷◌, ◌++◌, Result, Ok, Err, refl, ap, ap₂, sym, ◌∙◌, subst, arith}
use Rattle.fol_core.specs.Symbol.{Symbol}
use Rattle.fol_core.specs.Spelling.{depth, depth_of_all}
use Rattle.gs3_rules.specs.Rules.{Rule, gamma}
use Rattle.free_terms.specs.Free.{Name, FreeTerm, FreeTerms, bound, metavar, skolem, app, no_terms, terms}
use Rattle.unify.specs.Measure.{HasExtent, in_parentheses, text_length, arguments_length, text_depth, arguments_depth}
use Rattle.unify.specs.Offers.{Offer, resolved}
use Rattle.unify.specs.declared.measuring.Extent.{Extent}
use Rattle.unify.specs.declared.measuring.Lengths.{Lengths}
use Rattle.translation.specs.Counting.{digits_of, term_bytes, arguments_bytes, rest_bytes, symbol_bytes}
use Rattle.translation.specs.Translation.{closed_of, closed_all, term_under}
use Rattle.translation.proofs.InTurn.{bytes_of_both, nesting_of_both}
use Rattle.deskolem.specs.Sums.{AreLengths, IsSum, Adds, most_counted}
use Rattle.deskolem.specs.declared.answer.GsError.{GsError}
use Rattle.deskolem.specs.declared.answer.GsError.TheVariants.{Bytes, Nesting, OutOfMemory}
use Rattle.deskolem.specs.declared.count.Count.{Count}
use Rattle.deskolem.proofs.Spanned.{zero_bytes}
use Rattle.gs3_text.specs.declared.limit.TheConstants.{MAX_PROOF_BYTES}

module _ (fs : List Symbol) (ys : List Name) (l : Lengths) (are : AreLengths fs ys l) where
  mutual
    pub closed_length : (t : FreeTerm) → text_length l t ≡ term_bytes (symbol_bytes fs) (closed_of ys t)
    closed_length (bound n) = refl
    closed_length (metavar x) = are.other ∙ sym zero_bytes
    closed_length (skolem x us) = are.skolems x
    closed_length (app f us) = ap₂ (λ m n. m + n) (are.symbols f) (closed_arguments us)

    closed_arguments : (us : FreeTerms) → in_parentheses (arguments_length l us) ≡ arguments_bytes (symbol_bytes fs) (closed_all ys us)
    closed_arguments no_terms = refl
    closed_arguments (terms u us) = ap₂ (λ m n. suc (suc (m + n))) (closed_length u) (closed_rest us)

    closed_rest : (us : FreeTerms) → arguments_length l us ≡ rest_bytes (symbol_bytes fs) (closed_all ys us)
    closed_rest no_terms = refl
    closed_rest (terms u us) = ap₂ (λ m n. suc (m + n)) (closed_length u) (closed_rest us)

mutual
  pub closed_depth : (ys : List Name) (t : FreeTerm) → text_depth t ≡ depth (closed_of ys t)
  closed_depth ys (bound n) = refl
  closed_depth ys (metavar x) = refl
  closed_depth ys (skolem x us) = refl
  closed_depth ys (app f us) = ap suc (closed_depths ys us)

  closed_depths : (ys : List Name) (us : FreeTerms) → arguments_depth us ≡ depth_of_all (closed_all ys us)
  closed_depths ys no_terms = refl
  closed_depths ys (terms u us) = ap₂ (λ m n. max m n) (closed_depth ys u) (closed_depths ys us)

pub sum_as : (so_far : Count) (n m d e limit : ℕ) (r : Result Count GsError) → n ≡ m → d ≡ e → IsSum so_far n d limit r → IsSum so_far m e limit r
sum_as so_far n m d e limit r same level is = subst (λ k. IsSum so_far m k limit r) level (subst (λ k. IsSum so_far k d limit r) same is)

pub gamma_sum : (fs : List Symbol) (ys : List Name) (l : Lengths) → AreLengths fs ys l → (s : Offer) (so_far : Count) (place : ℕ) (t : FreeTerm) (e : Extent) (limit : ℕ) (r : Result Count GsError)
    → HasExtent s l most_counted t e → limit ≤ MAX_PROOF_BYTES → IsSum so_far (8 + digits_of place + e.length) e.depth limit r
    → Adds fs so_far (gamma place (term_under s ys t) ∷ []) limit r
gamma_sum fs ys l are s so_far place t e limit (Ok c) has le is =
    let text = closed_length fs ys l are (resolved s t) in
    let deep = closed_depth ys (resolved s t) in
    (omega (arith, text, has.0, is.0, is.2, le), omega (arith, deep, has.1, is.1), is.2)
gamma_sum fs ys l are s so_far place t e limit (Err Bytes) has le is =
    let text = closed_length fs ys l are (resolved s t) in
    omega (arith, text, has.0, is, le)
gamma_sum fs ys l are s so_far place t e limit (Err Nesting) has le is = absurd is
gamma_sum fs ys l are s so_far place t e limit (Err OutOfMemory) has le is = tt

-- steps behind others
pub both_added : (fs : List Symbol) (so_far c : Count) (xs ys : List Rule) (limit : ℕ) (r : Result Count GsError) → Adds fs so_far xs limit (Ok c) → Adds fs c ys limit r → Adds fs so_far (xs ++ ys) limit r
both_added fs so_far c xs ys limit (Ok d) first then_ =
    (omega (arith, bytes_of_both fs xs ys, first.0, then_.0), omega (arith, nesting_of_both xs ys, first.1, then_.1), then_.2)
both_added fs so_far c xs ys limit (Err Bytes) first then_ = omega (arith, bytes_of_both fs xs ys, first.0, then_)
both_added fs so_far c xs ys limit (Err Nesting) first then_ = absurd then_
both_added fs so_far c xs ys limit (Err OutOfMemory) first then_ = tt

-- where the first steps are too long, all are
pub first_refused : (fs : List Symbol) (so_far : Count) (xs ys : List Rule) (limit : ℕ) (e : GsError) → Adds fs so_far xs limit (Err e) → Adds fs so_far (xs ++ ys) limit (Err e)
first_refused fs so_far xs ys limit Bytes h = omega (arith, bytes_of_both fs xs ys, h)
first_refused fs so_far xs ys limit Nesting h = absurd h
first_refused fs so_far xs ys limit OutOfMemory h = tt
