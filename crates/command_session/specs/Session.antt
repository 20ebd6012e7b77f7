-- Document 01, "Command and report": the whole output as a function of the whole input.
use Rattle.std.specs.Prelude.{ℕ, ◌^◌, List, [], ◌∷◌, ◌++◌, cond, take, eqb}
use Rattle.std.specs.Prelude.{Option, None, Some}
use Rattle.update_format.specs.Update.{document_bounds, Update}
use Rattle.update_format.specs.Decode.{decode}
use Rattle.bytes_ascii.specs.Ascii.{ascii}
use Rattle.rules.specs.declared.Form.TheVariants.{Full}
use Rattle.rules.specs.Report.{report_of}
use Rattle.rules.specs.Terms.{document_terms}
use Rattle.ledger_state.specs.Stands.{rules}
use Rattle.command_syntax.specs.Syntax.{read_line}
use Rattle.ledger.specs.Calls.{accept_decoded}
use Rattle.ledger.specs.Answers.{offer_text}

-- the machine: what is stored, the line so far, the output so far
pub record Machine : Type 0 where
  pub stored : List Update
  pub line : List ℕ
  pub out : List ℕ

abbrev pub begin : Machine
begin = record { stored = []; line = []; out = [] }

unfoldable pub answer_line : Machine → Option (List ℕ) → Machine
answer_line m None = record { stored = m.stored; line = []; out = m.out ++ ascii "(unread)\n" }
answer_line m (Some b) =
    record { stored = accept_decoded document_terms m.stored (decode document_bounds b); line = []; out = m.out ++ offer_text document_terms m.stored (decode document_bounds b) }

unfoldable pub end_line : Machine → Machine
end_line m = answer_line m (read_line m.line)

unfoldable pub feed_byte : Machine → ℕ → Machine
feed_byte m b = cond (eqb b 10) (end_line m) (record { stored = m.stored; line = m.line ++ (b ∷ []); out = m.out })

unfoldable pub feed : Machine → List ℕ → Machine
feed m [] = m
feed m (b ∷ bs) = feed (feed_byte m b) bs

-- "A last line may lack its newline."
unfoldable pub last_line : Machine → List ℕ → Machine
last_line m [] = m
last_line m (c ∷ cs) = end_line m

-- "Then comes the report": the command names the full form (document 02, E10)
unfoldable pub finish : Machine → List ℕ
finish m = (last_line m m.line).out ++ report_of Full rules (last_line m m.line).stored

-- "The command reads at most 4,294,967,296 bytes; its input counts as ended there."
abbrev pub max_input : ℕ
max_input = 2 ^ 32

unfoldable pub output_of : List ℕ → List ℕ
output_of input = finish (feed begin (take max_input input))
