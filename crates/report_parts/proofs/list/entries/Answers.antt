use Prim.Native.Nat.{ℕ, ◌+◌}
use mathlib.Core.Path.{sym, ap, ◌∙◌}
use native.Mathlib.Omega.{arith}
use lib.ListN.{length}
use Rattle.bytes_order.specs.Member.{keep}
use Rattle.ledger_state.specs.View.{book, store_of}
use Rattle.ledger_sorting.proofs.Inserting.{renamed}
use Rattle.report_parts.specs.Ranked.{ranked_at}
use Rattle.report_parts.proofs.Ranking.{rank_room, rank-start, rank-next, rank-end, rank-zero, rank-count}
use Rattle.report_parts.proofs.list.entries.Goals as goal

pub loop-n-init : goal.loop-n-init
loop-n-init c =
    let l = book c.args.replica.now in
    let s = store_of c.args.replica.now in
    let e = c.new-all.ensures in
    let n = ap length e in
    (n ∙ sym (rank-zero l s), record { is_list = record { room = omega (arith, n); inside = λ i h. absurd (omega (arith, n)) }; are = e ∙ rank-start l s })

pub put_rank-requires : goal.put_rank-requires
put_rank-requires c =
    let l = book c.args.replica.now in
    let s = store_of c.args.replica.now in
    record {
      order-is-list = c.requires.is_list;
      entries-is-list = c.loop-n.invariant.1.is_list;
      room = omega (arith, c.loop-n.invariant.0, rank_room l s c.loop-n.n c.args.order.now c.requires.are c.requires.is_list.room);
    }

pub loop-n-preserved : goal.loop-n-preserved
loop-n-preserved c =
    let l = book c.args.replica.now in
    let s = store_of c.args.replica.now in
    let xs = c.args.order.now in (
      c.put_rank.ensures.1 ∙ ap (λ (m : ℕ). m + length (keep (ranked_at l s c.loop-n.n) xs)) c.loop-n.invariant.0 ∙ rank-count l s c.loop-n.n xs c.requires.are,
      renamed (rank-next l s c.loop-n.n xs c.loop-n.all.items c.requires.are c.loop-n.invariant.1.are) c.put_rank.ensures.0,
    )

pub returns : goal.returns
returns c =
    renamed (rank-end (book c.args.replica.now) (store_of c.args.replica.now) c.loop-n.n c.loop-n.auto.n-end c.loop-n-test.false) c.loop-n.invariant.1
