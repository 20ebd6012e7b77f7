use Rattle.std.proofs.Common.{ℕ, ◌/◌, List, length, sym, ap, ◌∙◌, arith}
use Rattle.sha256_compression.specs.Code.{working}
use Rattle.sha256_digest.specs.Tail.{hash_from}
use Rattle.sha256_digest.proofs.Padding.{hash-then, hash-none}
use Rattle.sha256_digest.proofs.blocks.Goals as goal

pub loop-block-preserved : goal.loop-block-preserved
loop-block-preserved c =
    let w = c.in-Some.ensures.steps in
    let h = working c.loop-block.x in (
      w.0 ∙ c.loop-block.invariant.0,
      rw c.compress-x.ensures
          (sym (hash-then h c.in-Some.block.now _ (w.1.1 ∙ c.loop-block.invariant.0))
          ∙ ap (λ (r : List ℕ). hash_from h (length r / 64) r) (sym w.1.0)
          ∙ c.loop-block.invariant.1),
    )

pub returns : goal.returns
returns c = sym (hash-none _ _ (omega (arith, c.in-None.ensures.steps.1.0))) ∙ c.loop-block.invariant.1
