-- A list that has grown at its end.
use Rattle.std.proofs.Common.{◌≡◌, ℕ, List, [], ◌++◌, length, take, ap, sym, ◌∙◌, append_assoc, append-nil}
use Rattle.std.proofs.Math.Seq.{take-append_seam}
use Rattle.fol_core.specs.Spelling.{IsGrown}

pub grown_none : (old : List ℕ) → IsGrown old old
grown_none old = record { more = []; is = sym (append-nil old) }

pub grown_by : (old new more : List ℕ) → new ≡ old ++ more → IsGrown old new
grown_by old new more e = record { more = more; is = e }

pub grown_on : (old mid new : List ℕ) → IsGrown old mid → IsGrown mid new → IsGrown old new
grown_on old mid new a b =
    record { more = a.more ++ b.more; is = b.is ∙ ap (λ x. x ++ b.more) a.is ∙ append_assoc old a.more b.more }

pub cut_back : (old new : List ℕ) → IsGrown old new → take (length old) new ≡ old
cut_back old new g = ap (take (length old)) g.is ∙ take-append_seam old g.more

pub ruleset growing = (grown_none, grown_by, grown_on, cut_back)
