use Rattle.std.proofs.Common.{◌≡◌, arith, length-set, rules}
use Rattle.sha256_fips180.specs.Fips180.{words, schedule}
use Rattle.sha256_compression.proofs.Schedule.{loaded}
use Rattle.sha256_compression.proofs.load.Goals as goal

pub loop-t-init : goal.loop-t-init
unfolding words
loop-t-init c = search rules

pub loop-t-preserved : goal.loop-t-preserved
loop-t-preserved c = (simp length-set c.loop-t.invariant.0, rw c.word.ensures (loaded _ _ _ (omega arith) c.loop-t.invariant.1))

pub returns : goal.returns
unfolding schedule
returns c =
    let e : c.loop-t.t ≡ 16 = omega arith in
    record { size = c.loop-t.invariant.0; front = rw e at c.loop-t.invariant.1 }
