-- What stands around a proof leaves it one of the same tree.
use Rattle.std.proofs.Common.{◌≡◌, ℕ, Bool, true, false, cond, eqb, List, [], ◌∷◌, ◌++◌, Option, None, Some, ap, subst, refl, sym, ◌∙◌, append-nil}
use Rattle.std.specs.Prelude.{codes, decimal}
use Rattle.std.specs.List.{AllByRecursion, filter}
use Rattle.std.proofs.lemmas.Bool.{or_from, false_from_ne_true, eqb-true}
use Rattle.std.proofs.lemmas.Grind.{flat_map-append}
use Rattle.std.proofs.lemmas.List.Elements.{filter-append}
use Rattle.fol_core.specs.Symbol.{Symbol}
use Rattle.fol_core.specs.Spelling.{is_between}
use Rattle.gs3_rules.specs.Refutes.{ProofTree}
use Rattle.gs3_text.specs.ProofText.{ProofText, text_of, says, IsLine, has_feed}
use Rattle.gs3_text.proofs.Feeds.{IsLine-append}
use Rattle.history_text.specs.Lines.{NodeHistory}
use Rattle.history_text.proofs.Comments.{decimal_is_line, history_is_whole, history_is_silent}
use Rattle.tab_tree.specs.declared.words.Engine.{Engine}
use Rattle.tab_tree.specs.declared.words.Engine.TheVariants.{Plain, Agents, Board}
use Rattle.goeland_report.specs.Outcome.{Proof}
use Rattle.goeland_report.specs.Output.{printed_byte, file_text, status_word, status_line, engine_line, asked_lines, start_line, end_line, head_lines}

all_of_both : {X : Type 0} (P : X → Type 0) (xs ys : List X) → AllByRecursion P xs → AllByRecursion P ys → AllByRecursion P (xs ++ ys)
all_of_both P [] ys p q = q
all_of_both P (x ∷ xs) ys p q = (p.0, all_of_both P xs ys p.1 q)

-- lines that begin with `%` around a proof's text
commented : (functions : List Symbol) (front back : List (List ℕ)) (text : List ℕ) (t : ProofTree) → AllByRecursion IsLine front → filter says front ≡ [] → AllByRecursion IsLine back → filter says back ≡ []
    → ProofText functions text t → ProofText functions (text_of front ++ (text ++ text_of back)) t
commented functions front back text t f f' b b' p =
    record {
      lines = front ++ (p.lines ++ back);
      text =
          ap (λ x. text_of front ++ (x ++ text_of back)) p.text ∙ ap (λ y. text_of front ++ y) (sym (flat_map-append (λ line. line ++ 10 ∷ []) p.lines back))
          ∙ sym (flat_map-append (λ line. line ++ 10 ∷ []) front (p.lines ++ back));
      of_tree =
          record {
            whole = all_of_both IsLine front (p.lines ++ back) f (all_of_both IsLine p.lines back p.of_tree.whole b);
            said =
                filter-append says front (p.lines ++ back) ∙ ap (λ x. x ++ filter says (p.lines ++ back)) f' ∙ filter-append says p.lines back ∙ ap (λ x. filter says p.lines ++ x) b'
                ∙ append-nil (filter says p.lines) ∙ p.of_tree.said;
            shaped = p.of_tree.shaped;
            spellable = p.of_tree.spellable;
          };
    }

no_feed : (c : ℕ) → (c ≡ 10 → ⊥) → eqb c 10 ≡ false
no_feed c h = false_from_ne_true _ (λ e. h (eqb-true c 10 e))

either_is_no_feed : (b : Bool) (c : ℕ) → is_between 32 126 c ≡ b → eqb (cond b c 63) 10 ≡ false
either_is_no_feed true c e = no_feed c (λ is. let at : is_between 32 126 10 ≡ true = ap (is_between 32 126) (sym is) ∙ e in cc)
either_is_no_feed false c e = refl

printed_is_no_feed : (c : ℕ) → eqb (printed_byte c) 10 ≡ false
printed_is_no_feed c = either_is_no_feed (is_between 32 126 c) c refl

file_is_line : (file : List ℕ) → IsLine (file_text file)
file_is_line [] = refl
file_is_line (c ∷ file) = or_from (eqb (printed_byte c) 10) (has_feed (file_text file)) (printed_is_no_feed c) (file_is_line file)

with_file : (words file : List ℕ) → IsLine words → IsLine (words ++ file_text file)
with_file words file p = IsLine-append words (file_text file) p (file_is_line file)

word_is_line : (theorem : Bool) → IsLine (status_word theorem)
word_is_line true = refl
word_is_line false = refl

status_is_line : (theorem : Bool) (file : List ℕ) → IsLine (status_line (status_word theorem) file)
status_is_line theorem file =
    IsLine-append (codes "% SZS status " ++ status_word theorem) (codes " for " ++ file_text file)
    (IsLine-append (codes "% SZS status ") (status_word theorem) refl (word_is_line theorem)) (with_file (codes " for ") file refl)

engine_is_line : (engine : Engine) → IsLine (engine_line engine)
engine_is_line Plain = refl
engine_is_line Agents = refl
engine_is_line Board = refl

module _ {O : Type 0} (text : O → List ℕ) (line : (s : O) → IsLine (text s)) where
  asked_are_whole : (history : Option (List (NodeHistory O))) → AllByRecursion IsLine (asked_lines text history)
  asked_are_whole None = tt
  asked_are_whole (Some nodes) = history_is_whole text line nodes

  asked_are_silent : (history : Option (List (NodeHistory O))) → filter says (asked_lines text history) ≡ []
  asked_are_silent None = refl
  asked_are_silent (Some nodes) = history_is_silent text nodes

  head_is_whole : (file : List ℕ) (p : Proof O) → AllByRecursion IsLine (head_lines text file p)
  head_is_whole file p = (
    status_is_line p.theorem file,
    (
      IsLine-append (codes "% depth ") (decimal p.depth) refl (decimal_is_line p.depth),
      (
        engine_is_line p.engine,
        all_of_both IsLine (asked_lines text p.history) (start_line file ∷ []) (asked_are_whole p.history) (with_file (codes "% SZS output start Proof for ") file refl, tt),
      ),
    ),
  )

  head_is_silent : (file : List ℕ) (p : Proof O) → filter says (head_lines text file p) ≡ []
  head_is_silent file p =
      filter-append says (asked_lines text p.history) (start_line file ∷ []) ∙ ap (λ x. x ++ filter says (start_line file ∷ [])) (asked_are_silent p.history)

  -- the whole text of a proof's report
  pub printed_proof : (file : List ℕ) (p : Proof O) (first second : List ℕ) → first ≡ text_of (head_lines text file p) → second ≡ p.text ++ (end_line file ++ 10 ∷ [])
      → (functions : List Symbol) (tree : ProofTree) → ProofText functions p.text tree → ProofText functions (first ++ second) tree
  printed_proof file p first second is_first is_second functions tree of_tree =
      let whole = commented functions (head_lines text file p) (end_line file ∷ []) p.text tree (head_is_whole file p) (head_is_silent file p) (with_file (codes "% SZS output end Proof for ") file refl, tt) refl of_tree in
      let same : text_of (head_lines text file p) ++ (p.text ++ text_of (end_line file ∷ [])) ≡ first ++ second = ap (λ e. text_of (head_lines text file p) ++ (p.text ++ e)) (append-nil (end_line file ++ 10 ∷ [])) ∙ ap (λ s. text_of (head_lines text file p) ++ s) (sym is_second) ∙ ap (λ f. f ++ second) (sym is_first) in
      subst (λ bytes. ProofText functions bytes tree) same whole
