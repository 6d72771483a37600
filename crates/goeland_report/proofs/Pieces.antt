-- Texts that are appended piece by piece.
use Rattle.std.proofs.Common.{◌≡◌, List, ℕ, [], ◌∷◌, ◌++◌, ap, sym, ◌∙◌, append_assoc, append-nil}
use Rattle.std.proofs.lemmas.Grind.{flat_map-append}
use Rattle.gs3_text.specs.ProofText.{text_of}

abbrev feed : List ℕ
feed = 10 ∷ []

two_pieces : (x y old one new : List ℕ) → one ≡ old ++ x → new ≡ one ++ y → new ≡ old ++ (x ++ y)
two_pieces x y old one new a b = b ∙ ap (λ w. w ++ y) a ∙ append_assoc old x y

pub three_pieces : (x y z old one two new : List ℕ) → one ≡ old ++ x → two ≡ one ++ y → new ≡ two ++ z → new ≡ old ++ ((x ++ y) ++ z)
three_pieces x y z old one two new a b c = two_pieces (x ++ y) z old two new (two_pieces x y old one two a b) c

-- the last piece ends with a line feed
pub three_in_line : (x y z old one two new : List ℕ) → one ≡ old ++ x → two ≡ one ++ y → new ≡ two ++ (z ++ feed) → new ≡ old ++ (((x ++ y) ++ z) ++ feed)
three_in_line x y z old one two new a b c =
    three_pieces x y (z ++ feed) old one two new a b c ∙ ap (λ w. old ++ w) (sym (append_assoc (x ++ y) z feed))

-- further lines behind those of a text
lines_more : (lines more : List (List ℕ)) (old new : List ℕ) → old ≡ text_of lines → new ≡ old ++ text_of more → new ≡ text_of (lines ++ more)
lines_more lines more old new a b = b ∙ ap (λ w. w ++ text_of more) a ∙ sym (flat_map-append (λ line. line ++ feed) lines more)

line_more : (lines : List (List ℕ)) (line old new : List ℕ) → old ≡ text_of lines → new ≡ old ++ (line ++ feed) → new ≡ text_of (lines ++ line ∷ [])
line_more lines line old new a b = lines_more lines (line ∷ []) old new a (b ∙ ap (λ w. old ++ w) (sym (append-nil (line ++ feed))))

-- the lines before a proof
pub head_text : (a b c d : List ℕ) (asked : List (List ℕ)) (s0 s1 s2 s3 s4 s5 s6 : List ℕ) → s0 ≡ [] → s1 ≡ s0 ++ (a ++ feed) → s2 ≡ s1 ++ b → s3 ≡ s2 ++ feed
    → s4 ≡ s3 ++ (c ++ feed) → s5 ≡ s4 ++ text_of asked → s6 ≡ s5 ++ (d ++ feed) → s6 ≡ text_of (a ∷ b ∷ c ∷ (asked ++ d ∷ []))
head_text a b c d asked s0 s1 s2 s3 s4 s5 s6 e0 e1 e2 e3 e4 e5 e6 =
    let t1 = line_more [] a s0 s1 e0 e1 in
    let t3 = line_more (a ∷ []) b s1 s3 t1 (two_pieces b feed s1 s2 s3 e2 e3) in
    let t4 = line_more (a ∷ b ∷ []) c s3 s4 t3 e4 in
    let t5 = lines_more (a ∷ b ∷ c ∷ []) asked s4 s5 t4 e5 in
    line_more (a ∷ b ∷ c ∷ asked) d s5 s6 t5 e6
