use Rattle.std.proofs.Common.{arith, ap, length, length-take-le}
use Rattle.sha256_fips180.specs.Lengths.{length-digest}
use Rattle.sha256_digest.proofs.silkcliff_sha256.Goals as goal

pub copy_from_slice-requires : goal.copy_from_slice-requires
copy_from_slice-requires c =
    omega (arith, length-take-le 32 c.args.out.now (omega arith), ap length c.digest.ensures, length-digest c.args.s.now)
