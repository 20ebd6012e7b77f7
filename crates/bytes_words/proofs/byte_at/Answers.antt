-- `byte_at` meets its contract: byte i is byte i % 8 of word i / 8.
use Rattle.std.proofs.Common.{ℕ, ◌%◌, List, get_or, sym, ap, ◌∙◌}
use Rattle.bytes_words.proofs.WordsLaws.{byte-of-word}
use Rattle.bytes_words.proofs.BigEndianLaws.{to_be-word}
use Rattle.bytes_words.proofs.byte_at.Goals as goal

pub returns : goal.returns
returns c =
    ap (λ (b : List ℕ). get_or b (c.args.i % 8) 0) (c.to_be_bytes.ensures ∙ to_be-word _) ∙ sym (byte-of-word c.args.w.now c.args.i c.requires)
