-- Document 01's own example of the command, and the ends of an input, computed from the definition.
use Rattle.std.specs.Prelude.{◌≡◌, refl, []}
use Rattle.bytes_order.specs.Order.{same}
use Rattle.bytes_order.specs.Member.{keep, concat_map}
use Rattle.bytes_order.specs.Sort.{sort}
use Rattle.update_format.specs.Decode.{decode, row2}
use Rattle.rules.specs.Settle.{rounds, start_all, settled_table, heads, marks, set_entries, walk, entries, list, parts_in, parts_of}
use Rattle.bytes_ascii.specs.Ascii.{codes, ascii, digit, decimal_in, decimal}
use Rattle.rules.specs.declared.Form.TheVariants.{Full}
use Rattle.rules.specs.Report.{part_text, report_text, report_of}
use Rattle.rules.specs.Room.{has_room}
use Rattle.ledger.specs.Calls.{accept_decoded}
use Rattle.ledger.specs.Answers.{answer_for}
use Rattle.ledger_offering.specs.Words.{values_text}
use Rattle.command_syntax.specs.Syntax.{digit_of, byte_of, with_byte, unhex, framed, read_line}
use Rattle.command_session.specs.Session.{answer_line, end_line, feed_byte, feed, last_line, finish, output_of}

-- "Given the two lines `(offer )` and `(hello)`, the whole output is:"
pub given-lines : output_of (ascii "(offer )\n(hello)\n")
    ≡ ascii "(refused 2)\n(unread)\n(ledger 1\n(held\n)\n(heads\n)\n(waiting\n)\n(void\n)\n(marks\n)\n(set\n)\n(list\n)\n)\n"
unfolding ascii codes output_of feed feed_byte end_line answer_line read_line framed same unhex with_byte byte_of digit_of finish last_line answer_for has_room values_text decode row2 decimal decimal_in digit accept_decoded report_of parts_of parts_in settled_table start_all rounds sort report_text part_text keep concat_map heads marks set_entries list entries walk
given-lines = refl

-- "A last line may lack its newline."
pub last-newline : output_of (ascii "(offer )\n(hello)") ≡ output_of (ascii "(offer )\n(hello)\n")
unfolding ascii codes output_of feed feed_byte end_line answer_line read_line framed same unhex with_byte byte_of digit_of finish last_line answer_for has_room values_text decode row2 decimal decimal_in digit accept_decoded report_of parts_of parts_in settled_table start_all rounds sort report_text part_text keep concat_map heads marks set_entries list entries walk
last-newline = refl

-- no input at all: the empty report
pub no-input : output_of [] ≡ report_of Full (Rattle.ledger_state.specs.Stands.rules) []
unfolding output_of feed finish last_line
no-input = refl
