use Rattle.std.proofs.Common.{ℕ, List, sym, ap, ◌∙◌, arith, length, take, set, get_or}
use Rattle.ledger_state.specs.View.{book, store_of}
use Rattle.ledger_sorting.specs.PlaceLists.{Places}
use Rattle.write_predecessors.proofs.Choosing.{above-within, most-none, most-low, most-high}
use Rattle.write_predecessors.proofs.keep_above.Goals as goal
use Rattle.write_predecessors.proofs.keep_above.Goals.{in-Some+then-j-ge-NAMED_HEADS, in-Some+else-j-ge-NAMED_HEADS, in_default}

pub offset_bounds-as_slice-j : goal.offset_bounds-as_slice-j
offset_bounds-as_slice-j c =
    omega (
      arith,
      above-within (book c.args.replica.now) (store_of c.args.replica.now) c.args.heads.now.items c.requires.heads-for.are_heads c.args.t (sym c.in-Some.ensures),
      c.requires.heads-for.is_list.room,
    )

pub bounds-as_slice-j : goal.bounds-as_slice-j
bounds-as_slice-j c =
    omega (
      arith,
      above-within (book c.args.replica.now) (store_of c.args.replica.now) c.args.heads.now.items c.requires.heads-for.are_heads c.args.t (sym c.in-Some.ensures),
      ap length c.as_slice-then-j-ge-NAMED_HEADS.ensures.value,
    )

pub returns-clause-most : goal.returns-clause-most
returns-clause-most c =
    let l = book c.args.replica.now in
    let s = store_of c.args.replica.now in
    let xs = c.args.heads.now.items in
    let are = c.requires.heads-for.are_heads in
    elim c.match-first_above.branch [
      | in-Some+then-j-ge-NAMED_HEADS w ↦
          c.truncate.ensures.items
          ∙ ap (λ (v : Places). take 8 v.items) w.heads-is
          ∙ ap (take 8) w.set.ensures
          ∙ ap (λ (ys : List ℕ). take 8 (set xs 7 (get_or ys w.in-Some.j 0))) w.as_slice-then-j-ge-NAMED_HEADS.ensures.value
          ∙ most-high l s xs are c.args.t (omega arith) w.in-Some.j (sym w.in-Some.ensures) w.if-j-ge-NAMED_HEADS.true
      | in-Some+else-j-ge-NAMED_HEADS w ↦
          c.truncate.ensures.items ∙ ap (λ (v : Places). take 8 v.items) w.heads-is
          ∙ most-low l s xs are c.args.t w.in-Some.j (sym w.in-Some.ensures) w.if-j-ge-NAMED_HEADS.false
      | in_default w ↦
          c.truncate.ensures.items ∙ ap (λ (v : Places). take 8 v.items) w.heads-is ∙ most-none l s xs are c.args.t (sym w.in_default.ensures)
    ]
