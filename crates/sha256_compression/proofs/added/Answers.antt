-- `added` meets its contract: the definition, field by field.
use Rattle.std.proofs.Common.{refl}
use Rattle.sha256_fips180.specs.Fips180.{added}
use Rattle.sha256_compression.proofs.added.Goals as goal

pub returns : goal.returns
unfolding added
returns c = refl
