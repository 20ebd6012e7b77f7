-- `hand_on` meets its contract: what is fed is the chunk from `at` on, and `write` is to take as many bytes as that put out.
use Rattle.std.proofs.Common.{◌≤◌, length, sym, arith}
use lib.Seq.{length-take-le}
use Rattle.command_loop.proofs.PassLaws.{feeds-rest, writes-all}
use Rattle.command_loop.proofs.hand_on.Goals as goal

pub slice_bounds-write_all-end-2 : goal.slice_bounds-write_all-end-2
slice_bounds-write_all-end-2 g c =
    let f = feeds-rest c.args.chunk.now c.args.at (omega arith) c.feed.ensures c.unwrap-fed.ensures in
    sym (length-take-le _ _ (omega (arith, f.within_out)))

pub returns : goal.returns
returns g c =
    let f = feeds-rest c.args.chunk.now c.args.at (omega arith) c.feed.ensures c.unwrap-fed.ensures in
    record { feeds = f; writes = writes-all (sym (length-take-le _ _ (omega (arith, f.within_out)))) c.write_all-wrote.ensures }
