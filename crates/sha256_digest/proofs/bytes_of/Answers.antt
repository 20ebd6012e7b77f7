use Rattle.std.proofs.Common.{◌≡◌, sym, ◌∙◌, arith, refl, take_all}
use Rattle.std.proofs.lemmas.Grind.{common_steps}
use Rattle.sha256_compression.specs.Code.{working}
use Rattle.sha256_digest.proofs.Bytes.{words_bytes, word-written, eight-written}
use Rattle.sha256_digest.proofs.bytes_of.Goals as goal

pub loop-i-init : goal.loop-i-init
unfolding words_bytes
loop-i-init c = (refl, refl)

pub loop-i-preserved : goal.loop-i-preserved
loop-i-preserved c = (
  grind (arith, common_steps, c.copy_from_slice.ensures.len),
  word-written _ _ _ c.loop-i.i _ c.loop-i.invariant.1 (omega arith) (c.copy_from_slice.ensures.after ∙ c.to_be_bytes.ensures),
)

pub returns : goal.returns
returns c =
    let e : c.loop-i.i ≡ 8 = omega arith in
    sym (take_all 32 c.loop-i.d (omega arith)) ∙ rw e at c.loop-i.invariant.1 ∙ eight-written (working c.args.s)
