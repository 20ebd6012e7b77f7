use mathlib.Core.Path.{ap, ap₂, ◌∙◌}
use mathlib.Core.List.{List}
use mathlib.Core.Bool.{Bool}
use Prim.Native.Nat.{ℕ}
use Rattle.bytes_order.specs.Compare.{order_of}
use Rattle.bytes_order.specs.CompareLaws.{cmp_is_order}
use Rattle.update_format.specs.Update.{document_bounds}
use Rattle.update_format.specs.Decode.{decode}
use Rattle.rules.specs.SetEntry.{entry_key}
use Rattle.update_fields.specs.Fields.{test_of, is_any_add, set_entry_in}
use Rattle.ledger_state.specs.State.{place_at}
use Rattle.ledger_state.specs.View.{book, store_of}
use Rattle.ledger_sorting.proofs.Keys.{ids-order, entries-order, keyed-add}
use Rattle.ledger_sorting.proofs.sorted.compare.Goals as goal

pub returns-in-Id : goal.returns-in-Id
returns-in-Id c =
    let l = book c.args.replica.now in
    ids-order l (store_of c.args.replica.now) c.args.key c.args.j c.args.k c.in-Id.is (c.cmp.ensures ∙ cmp_is_order (place_at l c.args.j).id (place_at l c.args.k).id)

-- whether bytes are an Add, and the key of their set entry
abbrev adds : List ℕ → Bool
adds b = test_of is_any_add (decode document_bounds b)

abbrev entry : List ℕ → List ℕ
entry b = entry_key (set_entry_in (decode document_bounds b))

pub compare_entries-requires : goal.compare_entries-requires
compare_entries-requires c =
    let l = book c.args.replica.now in
    let s = store_of c.args.replica.now in
    record {
      own_adds = ap adds c.update.ensures ∙ keyed-add l s c.args.key c.args.j c.in-SetEntry.is c.requires.own_keyed;
      other_adds = ap adds c.update-in-SetEntry.ensures ∙ keyed-add l s c.args.key c.args.k c.in-SetEntry.is c.requires.other_keyed;
    }

pub returns-in-SetEntry : goal.returns-in-SetEntry
returns-in-SetEntry c =
    entries-order (book c.args.replica.now) (store_of c.args.replica.now) c.args.key c.args.j c.args.k c.in-SetEntry.is
    (c.compare_entries.ensures ∙ ap₂ order_of (ap entry c.update.ensures) (ap entry c.update-in-SetEntry.ensures))
