use mathlib.Core.Path.{sym, ap, ◌∙◌}
use native.Mathlib.Omega.{arith}
use lib.ListN.{length, get_or}
use Rattle.ledger_state.specs.View.{book, store_of}
use Rattle.ledger_sorting.proofs.Inserting.{next, ended}
use Rattle.ledger_sorting.proofs.Keeping.{keep_one}
use Rattle.report_parts.specs.Ranked.{ranked_at}
use Rattle.report_parts.proofs.Ranking.{ranked-is, Met, met-put, met-left, put_next, room_next, put-end, room-end}
use Rattle.report_parts.proofs.list.put_rank.Goals.{then-is_ranked, else-is_ranked}
use Rattle.report_parts.proofs.list.put_rank.Goals as goal

pub put-requires : goal.put-requires
put-requires c =
    let l = book c.args.replica.now in
    let s = store_of c.args.replica.now in
    let q = ranked_at l s c.args.n in
    let xs = c.args.order.now in
    let i = c.loop-k.k-index in
    let k = get_or xs i 0 in
    let kept = keep_one q k (ranked-is l s k c.args.n c.is_ranked.ensures) c.if-is_ranked.true in
    record {
      is_list = c.loop-k.invariant.0;
      room = omega (arith, c.loop-k.invariant.1, room_next l s q xs i k (next xs i c.loop-k-test.true), ap length kept, c.requires.room);
      place_within = c.requires.order-is-list.inside i c.loop-k-test.true;
    }

pub loop-k-preserved : goal.loop-k-preserved
loop-k-preserved c =
    let l = book c.args.replica.now in
    let s = store_of c.args.replica.now in
    let q = ranked_at l s c.args.n in
    let xs = c.args.order.now in
    let i = c.loop-k.k-index in
    let k = get_or xs i 0 in
    let d = next xs i c.loop-k-test.true in
    let e = ranked-is l s k c.args.n c.is_ranked.ensures in
    let m : Met l s q c.loop-k.entries k e c.if-is_ranked.entries =
    elim c.if-is_ranked.branch [
      | then-is_ranked w ↦ met-put l s q c.loop-k.entries k e w.if-is_ranked.true w.put.ensures w.entries-is
      | else-is_ranked w ↦ met-left l s q c.loop-k.entries k e w.if-is_ranked.false c.loop-k.invariant.0 w.entries-is
    ] in (
      m.0.is_list,
      omega (arith, c.loop-k.invariant.1, m.1, room_next l s q xs i k d),
      c.loop-k.invariant.2 ∙ put_next l s q xs i k d c.loop-k.entries.items c.if-is_ranked.entries.items m.0.are,
    )

pub returns : goal.returns
returns c =
    let l = book c.args.replica.now in
    let s = store_of c.args.replica.now in
    let q = ranked_at l s c.args.n in
    let xs = c.args.order.now in
    let i = c.loop-k.k-index in
    let e = ended xs i c.loop-k-test.false in (
      record { is_list = c.loop-k.invariant.0; are = sym (c.loop-k.invariant.2 ∙ put-end l s q xs c.loop-k.entries.items i e) },
      omega (arith, c.loop-k.invariant.1, room-end l s q xs i e),
    )
