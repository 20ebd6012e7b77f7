use Rattle.std.proofs.Common.{length, rules, ap, ◌∙◌}
use Rattle.bitset_words.specs.Run.{number}
use Rattle.bitset_words.proofs.Reading.{number-zeros}
use Rattle.bitset_words.proofs.clear.Goals as goal

pub returns : goal.returns
returns c = ap number (c.fill.ensures.after (λ y e. search rules)) ∙ number-zeros (length c.args.s.now)
