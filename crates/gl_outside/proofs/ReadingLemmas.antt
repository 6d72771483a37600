-- What is known of bytes that were read up to a limit.
use Rattle.std.proofs.Common.{◌≡◌, ℕ, ◌<◌, ◌≤◌, List, [], ◌++◌, length, take, Option, Some, None, IfSome, min, ap, ◌∙◌, arith}
use Rattle.std.specs.Option.{option_map}
use Rattle.std.proofs.lemmas.List.{length-take, take_all}

-- fewer bytes than the limit are all that there were
pub whole : (known : Option (List ℕ)) (limit : ℕ) (old new : List ℕ) → old ≡ [] → IfSome (option_map (take limit) known) (λ bytes. new ≡ old ++ bytes)
    → length new < limit → IfSome known (λ bytes. new ≡ bytes)
whole None limit old new empty read short = tt
whole (Some bytes) limit old new empty read short =
    let front : new ≡ take limit bytes = read ∙ ap (λ xs. xs ++ take limit bytes) empty in
    let count : length new ≡ min limit (length bytes) = ap length front ∙ length-take limit bytes in
    let few : length bytes ≤ limit = omega arith in
    front ∙ take_all limit bytes few
