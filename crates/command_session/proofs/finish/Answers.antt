-- `finish` meets its contract.
use Rattle.command_session.specs.Finishing.{unfit-line, short}
use Rattle.command_session.proofs.EndLaws.{end-unbegun, end_line}
use Rattle.command_session.proofs.finish.Goals as goal

pub returns-then-line-ne-MAX_LINE : goal.returns-then-line-ne-MAX_LINE
returns-then-line-ne-MAX_LINE c = unfit-line c.if-line-ne-MAX_LINE.true

pub returns-then-out-lt-MAX_END : goal.returns-then-out-lt-MAX_END
returns-then-out-lt-MAX_END c = short c.if-line-ne-MAX_LINE.false c.if-out-lt-MAX_END.true

pub returns-then-fill-eq0 : goal.returns-then-fill-eq0
returns-then-fill-eq0 c =
    end-unbegun c.args.out.now c.if-line-ne-MAX_LINE.false c.if-out-lt-MAX_END.false c.if-fill-eq0.true c.report_at.ensures

pub returns : goal.returns
returns c =
    end_line c.args.out.now c.if-line-ne-MAX_LINE.false c.if-out-lt-MAX_END.false c.copy_from_slice.ensures.after c.feed_lines-f.ensures c.feed_lines-f.auto.out
    c.if-fill-eq0.false c.report_at-2.ensures
