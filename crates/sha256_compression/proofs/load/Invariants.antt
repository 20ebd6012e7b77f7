-- `load` meets its contract: the first `t` words are loaded.
use Rattle.std.proofs.Common.{◌≡◌, length, take}
use Rattle.sha256_fips180.specs.Fips180.{words}
use Rattle.sha256_compression.proofs.load.Given as goal

abbrev pub invariant-loop-t : goal.invariant-loop-t
invariant-loop-t l = (length l.w ≡ 64) × (take l.t l.w ≡ words l.t l.s)
