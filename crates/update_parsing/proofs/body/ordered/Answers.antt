-- `ordered` meets its contract: an operation that is no Remove names no ids.
use Rattle.std.proofs.Common.{◌≡◌, ◌+◌, ◌∙◌, refl, arith}
use Rattle.std.proofs.lemmas.Grind.{common_steps}
use Rattle.bytes_order.specs.Order.{ascending}
use Rattle.update_format.specs.Decode.{kind_of, body_at, named_count_at, named_count_of, row9}
use Rattle.update_format.specs.Laws.{other-named}
use Rattle.update_format.specs.ParseResult.{offsets_of}
use Rattle.update_parsing.proofs.body.ordered.Goals as goal

pub returns-in_default : goal.returns-in_default
unfolding row9 offsets_of ascending
returns-in_default c =
    let b = c.args.s.now in
    let other : kind_of b ≡ 2 → ⊥ =
    λ k. c.in_default.not-Remove (body_at b) (named_count_at b + 1) (named_count_of b) (c.requires.offsets_right ∙ rw k refl) in
    rw (other-named b other) (grind (arith, common_steps))
