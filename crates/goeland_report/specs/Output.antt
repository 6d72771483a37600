-- The lines that a run prints.
use Rattle.std.specs.Prelude.{ℕ, Bool, true, false, if◌then◌else◌, List, [], ◌∷◌, ◌++◌, map, Option, None, Some, codes}
use Rattle.std.specs.Prelude.{decimal}
use Rattle.fof_parse.specs.Lines.{kind_word}
use Rattle.fol_core.specs.Spelling.{is_between}
use Rattle.gs3_text.specs.ProofText.{text_of}
use Rattle.history_text.specs.Lines.{NodeHistory, history_lines}
use Rattle.tab_tree.specs.declared.words.Engine.{Engine}
use Rattle.tab_tree.specs.declared.words.Engine.TheVariants.{Plain, Agents, Board}
use Rattle.tab_tree.specs.declared.words.OpenAnswer.{OpenAnswer}
use Rattle.tab_tree.specs.declared.words.OpenAnswer.TheVariants.{Branch, Conflict, Unsearched}
use Rattle.goeland_report.specs.Outcome.{Proof, GiveUp, Outcome, usage, too_large, read_fault, no_tokens, no_problem}
use Rattle.goeland_report.specs.Outcome.{give_up, proof, bench}
use Rattle.goeland_report.specs.declared.cause.Cause.{Cause}
use Rattle.goeland_report.specs.declared.cause.Cause.TheVariants.{Depth, Tries, Bytes, Nesting}
use Rattle.goeland_report.specs.declared.cause.BenchResult.{BenchResult}
use Rattle.goeland_report.specs.declared.cause.BenchResult.TheVariants as result

-- a byte of a file's name as it is printed: `?` in the place of one that is not printable
abbrev pub printed_byte : ℕ → ℕ
printed_byte c = if is_between 32 126 c then c else 63

abbrev pub file_text : List ℕ → List ℕ
file_text file = map printed_byte file

abbrev pub engine_word : Engine → List ℕ
engine_word Plain = codes "plain"
engine_word Agents = codes "agents"
engine_word Board = codes "board"

abbrev pub engine_line : Engine → List ℕ
engine_line engine = codes "% engine " ++ engine_word engine

-- a problem with a conjecture is a theorem
abbrev pub status_word : Bool → List ℕ
status_word true = codes "Theorem"
status_word false = codes "Unsatisfiable"

abbrev pub status_line : List ℕ → List ℕ → List ℕ
status_line word file = codes "% SZS status " ++ word ++ (codes " for " ++ file_text file)

-- the end of the walk over the segments
abbrev pub walk_words : OpenAnswer → List ℕ
walk_words (Branch b) = codes "open " ++ decimal b
walk_words Conflict = codes "conflict"
walk_words Unsearched = codes "unsearched"

abbrev pub reason_words : Cause → List ℕ
reason_words (Depth limit answer) = codes "depth " ++ decimal limit ++ codes " " ++ walk_words answer
reason_words (Tries made depth) = codes "tries " ++ decimal made ++ (codes " depth " ++ decimal depth)
reason_words (Bytes limit) = codes "bytes " ++ decimal limit
reason_words Nesting = codes "nesting"

abbrev pub bench_words : BenchResult → List ℕ
bench_words (result.Proved depth bytes) =
    codes "status Theorem" ++ (codes " depth " ++ decimal depth) ++ (codes " bytes " ++ decimal bytes)
bench_words (result.GaveUp cause) = codes "reason " ++ reason_words cause

abbrev pub bench_line : ℕ → BenchResult → List ℕ
bench_line n ended = codes "% bench " ++ decimal n ++ codes " " ++ bench_words ended

abbrev pub refusal_line : List ℕ → ℕ → List ℕ
refusal_line word offset = codes "% refused " ++ word ++ codes " at " ++ decimal offset

abbrev pub usage_line : List ℕ
usage_line = codes "% usage: goeland prove [OPTIONS] [FILE] or goeland bench N [--workers W]"

-- the line before a proof, and the one behind it
abbrev pub start_line : List ℕ → List ℕ
start_line file = codes "% SZS output start Proof for " ++ file_text file

abbrev pub end_line : List ℕ → List ℕ
end_line file = codes "% SZS output end Proof for " ++ file_text file

-- Lines over a spelling of offers.
module _ {O : Type 0} (text : O → List ℕ) where
  -- the histories, where they are asked for
  abbrev pub asked_lines : Option (List (NodeHistory O)) → List (List ℕ)
  asked_lines None = []
  asked_lines (Some nodes) = history_lines text nodes

  -- the lines before a proof, for a problem in the file of that name
  abbrev pub head_lines : List ℕ → Proof O → List (List ℕ)
  head_lines file p =
      status_line (status_word p.theorem) file ∷ (codes "% depth " ++ decimal p.depth) ∷ engine_line p.engine
      ∷ (asked_lines p.history ++ start_line file ∷ [])

  abbrev pub give_up_lines : List ℕ → GiveUp O → List (List ℕ)
  give_up_lines file g =
      status_line (codes "GaveUp") file ∷ (codes "% reason " ++ reason_words g.cause) ∷ engine_line g.engine
      ∷ asked_lines g.history

  -- what is printed before the text of a proof, and of any other outcome all of it
  abbrev pub first_lines : List ℕ → Outcome O → List (List ℕ)
  first_lines file usage = usage_line ∷ []
  first_lines file too_large = codes "% refused TooLarge" ∷ []
  first_lines file read_fault = codes "% read fault" ∷ []
  first_lines file (no_tokens offset) = refusal_line (codes "Lex") offset ∷ []
  first_lines file (no_problem kind offset) = refusal_line (kind_word kind) offset ∷ []
  first_lines file (give_up g) = give_up_lines file g
  first_lines file (proof p) = head_lines file p
  first_lines file (bench n ended) = bench_line n ended ∷ []

  -- A text is written in two parts. The second one is the text of a proof, and the line behind it.
  abbrev pub first_part : List ℕ → Outcome O → List ℕ
  first_part file o = text_of (first_lines file o)

  abbrev pub second_part : List ℕ → Outcome O → List ℕ
  second_part file (proof p) = p.text ++ (end_line file ++ 10 ∷ [])
  second_part file _ = []

  -- the whole text
  abbrev pub output : List ℕ → Outcome O → List ℕ
  output file o = first_part file o ++ second_part file o
