-- `end` meets its contract: what `finish` puts out lies within the buffer, and `write` is to take as many bytes.
use Rattle.std.proofs.Common.{◌≤◌, length, sym, ◌∙◌, arith}
use lib.Seq.{length-take-le}
use Rattle.command_session.specs.Finishing.{end_values}
use Rattle.command_session.specs.FinishLaws.{finishes-within}
use Rattle.command_loop.proofs.PassLaws.{writes-all}
use Rattle.command_loop.proofs.end.Goals as goal

pub slice_bounds-write_all-end : goal.slice_bounds-write_all-end
slice_bounds-write_all-end g c = omega (arith, finishes-within c.finish-finished.ensures)

pub slice_bounds-write_all-end-2 : goal.slice_bounds-write_all-end-2
slice_bounds-write_all-end-2 g c = sym (length-take-le _ _ (slice_bounds-write_all-end g c))

pub returns : goal.returns
returns g c =
    let within : c.written-n.result ≤ length c.finish-finished.new.out = omega (arith, finishes-within c.finish-finished.ensures) in
    record {
      values = end_values c.finish-finished.result;
      finishes = c.finish-finished.ensures;
      writes = writes-all (sym c.written-n.ensures ∙ sym (length-take-le _ _ within)) c.write_all.ensures;
    }
