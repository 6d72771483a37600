-- Each line of a history is one line that begins with `%`, where the text of each offer is one line.
use Rattle.std.proofs.Common.{◌≡◌, ℕ, zero, suc, ◌+◌, ◌/◌, ◌%◌, ◌≤◌, Bool, true, false, cond, eqb, nat_lt, List, [], ◌∷◌, ◌++◌, refl, arith}
use Rattle.std.specs.Prelude.{codes, decimal, ◌==◌}
use Rattle.std.specs.Fmt.{digits, digits_onto, digit_glyph}
use Rattle.std.specs.List.{AllByRecursion, filter, flat_map, join_by}
use Rattle.std.proofs.lemmas.Bool.{or_from, false_from_ne_true, eqb-true}
use Rattle.nego_node.specs.declared.tasks.Task.{Task}
use Rattle.nego_node.specs.declared.tasks.Side.{Side}
use Rattle.nego_node.specs.declared.tasks.Side.TheVariants.{Left, Right}
use Rattle.nego_node.specs.declared.answers.Answer.{Answer}
use Rattle.nego_node.specs.declared.answers.Answer.TheVariants as answer
use Rattle.nego_node.specs.declared.events.Outcome.{Outcome}
use Rattle.nego_node.specs.declared.events.Outcome.TheVariants as outcome
use Rattle.nego_node.specs.declared.events.Event.{Event}
use Rattle.nego_node.specs.declared.events.Event.TheVariants.{Received, Tried, Split, Asked, Posted, Adopted, Agreed, Forbidden, Refused}
use Rattle.nego_node.specs.declared.events.Event.TheVariants as event
use Rattle.gs3_text.specs.ProofText.{IsLine, has_feed, says}
use Rattle.gs3_text.proofs.Feeds.{IsLine-append}
use Rattle.history_text.specs.Words.{side_word, part_words, offers_text, task_words, outcome_words, answer_words, decision_words, event_words}
use Rattle.history_text.specs.Lines.{NodeHistory, event_line, node_lines, history_lines}

no_feed : (c : ℕ) → 48 ≤ c → eqb c 10 ≡ false
no_feed c h = false_from_ne_true _ (λ e. let same = eqb-true c 10 e in omega arith)

glyph_is_no_feed : (b : Bool) (d : ℕ) → eqb (cond b (48 + d) (87 + d)) 10 ≡ false
glyph_is_no_feed true d = no_feed (48 + d) (omega arith)
glyph_is_no_feed false d = no_feed (87 + d) (omega arith)

either_is_line : (b : Bool) (xs ys : List ℕ) → IsLine xs → IsLine ys → IsLine (cond b xs ys)
either_is_line true xs ys p q = p
either_is_line false xs ys p q = q

digits_are_line : (k n : ℕ) (acc : List ℕ) → IsLine acc → IsLine (digits_onto k 10 false n acc)
digits_are_line zero n acc p = p
digits_are_line (suc k) n acc p =
    let more : IsLine (digit_glyph false (n % 10) ∷ acc) = or_from _ (has_feed acc) (glyph_is_no_feed (nat_lt (n % 10) 10) (n % 10)) p in
    either_is_line (n / 10 == 0) _ _ more (digits_are_line k (n / 10) (digit_glyph false (n % 10) ∷ acc) more)

pub decimal_is_line : (n : ℕ) → IsLine (decimal n)
unfolding digits
decimal_is_line n = digits_are_line 64 n [] refl

side_is_line : (side : Side) → IsLine (side_word side)
side_is_line Left = refl
side_is_line Right = refl

-- a number behind words
numbered : (words : List ℕ) (n : ℕ) → IsLine words → IsLine (words ++ decimal n)
numbered words n p = IsLine-append words (decimal n) p (decimal_is_line n)

part_is_line : (side : Side) (generation : ℕ) → IsLine (part_words side generation)
part_is_line side generation = IsLine-append (side_word side) _ (side_is_line side) (numbered (codes " ") generation refl)

-- texts with a comma between each two
module _ {X : Type 0} (text : X → List ℕ) (lines : (x : X) → IsLine (text x)) where
  more_are_line : (xs : List X) → IsLine (flat_map (λ x. codes "," ++ text x) xs)
  more_are_line [] = refl
  more_are_line (x ∷ xs) =
      IsLine-append (codes "," ++ text x) (flat_map (λ y. codes "," ++ text y) xs) (IsLine-append (codes ",") (text x) refl (lines x)) (more_are_line xs)

  pub list_is_line : (xs : List X) → IsLine (join_by text (codes ",") xs)
  list_is_line [] = refl
  list_is_line (x ∷ xs) = IsLine-append (text x) (flat_map (λ y. codes "," ++ text y) xs) (lines x) (more_are_line xs)

module _ {O : Type 0} (text : O → List ℕ) (lines : (s : O) → IsLine (text s)) where
  -- an offer behind words
  with_offer : (words : List ℕ) (s : O) → IsLine words → IsLine (words ++ text s)
  with_offer words s p = IsLine-append words (text s) p (lines s)

  offers_are_line : (ss : List O) → IsLine (offers_text text ss)
  offers_are_line ss =
      IsLine-append (codes "[" ++ join_by text (codes ",") ss) (codes "]") (IsLine-append (codes "[") (join_by text (codes ",") ss) refl (list_is_line text lines ss)) refl

  task_is_line : (t : Task O) → IsLine (task_words text t)
  task_is_line t =
      IsLine-append ((decimal t.generation ++ (codes " given " ++ text t.given)) ++ codes " ban ") _
      (IsLine-append (decimal t.generation ++ (codes " given " ++ text t.given)) (codes " ban ")
      (IsLine-append (decimal t.generation) _ (decimal_is_line t.generation) (with_offer (codes " given ") t.given refl)) refl)
      (offers_are_line t.ban)

  outcome_is_line : (o : Outcome O) → IsLine (outcome_words text o)
  outcome_is_line outcome.None = refl
  outcome_is_line (outcome.Banned s) = with_offer (codes " banned ") s refl
  outcome_is_line (outcome.Offer s) = with_offer (codes " offer ") s refl

  -- words, and the generation of a part's task
  with_part : (words : List ℕ) (side : Side) (generation : ℕ) → IsLine words → IsLine (words ++ part_words side generation)
  with_part words side generation p = IsLine-append words _ p (part_is_line side generation)

  answer_is_line : (side : Side) (a : Answer O) → IsLine (answer_words text side a)
  answer_is_line side (answer.Proposal p) =
      IsLine-append (codes "posted " ++ part_words side p.task.generation) _ (with_part (codes "posted ") side p.task.generation refl) (with_offer (codes " proposal ") p.offer refl)
  answer_is_line side (answer.Exhausted t) =
      IsLine-append (codes "posted " ++ part_words side t.generation) (codes " exhausted") (with_part (codes "posted ") side t.generation refl) refl

  decision_is_line : (verb : List ℕ) (side : Side) (generation : ℕ) (s : O) → IsLine verb → IsLine (decision_words text verb side generation s)
  decision_is_line verb side generation s p =
      IsLine-append (verb ++ part_words side generation) _ (with_part verb side generation p) (with_offer (codes " ") s refl)

  event_is_line : (e : Event O) → IsLine (event_words text e)
  event_is_line (Received t) = IsLine-append (codes "received ") (task_words text t) refl (task_is_line t)
  event_is_line (Tried item result) =
      IsLine-append (codes "tried " ++ decimal item) _ (numbered (codes "tried ") item refl) (outcome_is_line result)
  event_is_line Split = refl
  event_is_line (Asked side t) =
      IsLine-append (codes "asked " ++ side_word side) _ (IsLine-append (codes "asked ") (side_word side) refl (side_is_line side))
      (IsLine-append (codes " ") (task_words text t) refl (task_is_line t))
  event_is_line (Posted side a) = answer_is_line side a
  event_is_line (Adopted side generation s) = decision_is_line (codes "adopted ") side generation s refl
  event_is_line (Agreed side generation s) = decision_is_line (codes "agreed ") side generation s refl
  event_is_line (Forbidden side generation s) = decision_is_line (codes "forbidden ") side generation s refl
  event_is_line (Refused side generation) = with_part (codes "refused ") side generation refl
  event_is_line event.Exhausted = refl

  line_is_line : (name : ℕ) (e : Event O) → IsLine (event_line text name e)
  line_is_line name e =
      IsLine-append ((codes "% node " ++ decimal name) ++ codes " ") _
      (IsLine-append (codes "% node " ++ decimal name) (codes " ") (numbered (codes "% node ") name refl) refl)
      (event_is_line e)

  node_is_whole : (name : ℕ) (es : List (Event O)) (more : List (List ℕ)) → AllByRecursion IsLine more → AllByRecursion IsLine (node_lines text name es ++ more)
  node_is_whole name [] more p = p
  node_is_whole name (e ∷ es) more p = (line_is_line name e, node_is_whole name es more p)

  -- the lines are lines
  pub history_is_whole : (nodes : List (NodeHistory O)) → AllByRecursion IsLine (history_lines text nodes)
  history_is_whole [] = tt
  history_is_whole (n ∷ ns) = node_is_whole n.name n.events _ (history_is_whole ns)

module _ {O : Type 0} (text : O → List ℕ) where
  node_is_silent : (name : ℕ) (es : List (Event O)) (more : List (List ℕ)) → filter says more ≡ [] → filter says (node_lines text name es ++ more) ≡ []
  node_is_silent name [] more p = p
  node_is_silent name (e ∷ es) more p = node_is_silent name es more p

  -- and begin with `%`
  pub history_is_silent : (nodes : List (NodeHistory O)) → filter says (history_lines text nodes) ≡ []
  history_is_silent [] = refl
  history_is_silent (n ∷ ns) = node_is_silent n.name n.events _ (history_is_silent ns)
