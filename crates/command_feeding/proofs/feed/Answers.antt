-- `feed` meets its contract: the line buffer is refused, or the lines are fed.
use Rattle.command_feeding.specs.Feeding.{refused, fed}
use Rattle.command_feeding.proofs.feed.Goals as goal

pub returns-then-line-ne-MAX_LINE : goal.returns-then-line-ne-MAX_LINE
returns-then-line-ne-MAX_LINE c = refused c.if-line-ne-MAX_LINE.true

pub returns : goal.returns
returns c = fed _ _ _ _ c.if-line-ne-MAX_LINE.false c.feed_lines.ensures
