-- `last_blocks` meets its contract: the rest of the message, the byte 0x80, zero bytes and the length.
use Rattle.std.proofs.Common.{◌∙◌}
use Rattle.sha256_digest.proofs.Padding.{last-filled}
use Rattle.sha256_digest.proofs.last_blocks.Goals as goal

pub returns : goal.returns
returns c =
    last-filled c.args.s.now _ _ c.last_size-end.result _ c.last_size-end.ensures.0 c.last_size-end.ensures.2
    c.copy_from_slice.ensures.after (c.copy_from_slice-2.ensures.after ∙ c.to_be_bytes.ensures)
