-- `extend_at` meets its contract: one more word of the definition.
use Rattle.sha256_compression.proofs.Schedule.{word_from, extended}
use Rattle.sha256_compression.proofs.extend_at.Goals as goal

pub returns : goal.returns
unfolding word_from
returns c M s = extended s c.requires (rw (c.small_sigma1.ensures, c.small_sigma0.ensures))
