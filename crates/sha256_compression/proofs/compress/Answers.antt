-- `compress` meets its contract: the definition, at what the calls ensure.
use Rattle.sha256_compression.specs.Code.{working, Underway}
use Rattle.sha256_compression.proofs.Schedule.{complete}
use Rattle.sha256_compression.proofs.Steps.{all-turned}
use Rattle.sha256_compression.proofs.Words.{compressed}
use Rattle.sha256_compression.proofs.compress.Goals as goal

pub returns : goal.returns
returns c =
    let h = working c.args.h in
    let u : Underway _ h 48 _ _ = c.first_steps-s48.ensures _ c.load.ensures in
    compressed h c.args.s.now (complete u.scheduled) (c.last_steps.ensures h (all-turned u)) c.added.ensures
