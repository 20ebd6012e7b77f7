use Rattle.std.proofs.Common.{List, ℕ, ◌≡◌, ap, sym, ◌∙◌, subst, arith, rules}
use Rattle.bytes_print.specs.declared.Page.{Page}
use Rattle.bytes_print.specs.Page.{Printed}
use Rattle.bytes_print.proofs.PrintedLaws.{both, same_text, nothing}
use Rattle.ledger_sorting.specs.declared.Key.TheVariants.{Id}
use Rattle.ledger_sorting.specs.PlaceLists.{Places, PlaceList, Lists, InOrder, sorted_by}
use Rattle.ledger_sorting.proofs.Sorting.{sorted-ids}
use Rattle.ledger_state.specs.State.{Book}
use Rattle.ledger_state.specs.View.{book, store_of}
use Rattle.report_text.specs.Text.{standings_in, text_of}
use Rattle.report_text.proofs.TextLaws.{text-is}
use Rattle.report_text.proofs.print.Goals as goal
use Rattle.report_text.proofs.print.Goals.{in-Full, in-Short}

-- the list that is sorted has the places in their order
in_order : (l : Book) (s : List ℕ) {o : Places} {xs : List ℕ} → Lists o (sorted_by l s Id) → xs ≡ o.items → InOrder l s xs
in_order l s a e = record { is_list = subst PlaceList (sym e) a.is_list; are = e ∙ a.are ∙ sorted-ids l s }

pub print_standings-requires : goal.print_standings-requires
print_standings-requires c = record {
  in_order = in_order (book c.args.replica.now) (store_of c.args.replica.now) c.sorted-order.ensures c.as_slice.ensures.value;
  at_within = omega (arith, c.put.ensures.prints.past, c.new-page.ensures.at);
}

pub print_read_offs-requires : goal.print_read_offs-requires
print_read_offs-requires c = record {
  in_order = in_order (book c.args.replica.now) (store_of c.args.replica.now) c.sorted-order.ensures c.as_slice-2.ensures.value;
  at_within =
      elim c.match-form.branch [
        | in-Full w ↦ omega (arith, ap (λ (p : Page). p.at) w.page-is, w.print_standings.ensures.small)
        | in-Short w ↦ omega (arith, ap (λ (p : Page). p.at) w.page-is, c.put.ensures.prints.past, c.new-page.ensures.at)
      ];
}

pub returns : goal.returns
returns c =
    let l = book c.args.replica.now in
    let s = store_of c.args.replica.now in
    let to : Page → Type 0 = λ (p : Page). Printed c.put.new.self (standings_in l s c.args.form) p in
    let standings : Printed c.put.new.self (standings_in l s c.args.form) c.match-form.page =
    elim c.match-form.branch [
      | in-Full w ↦ subst to (sym w.page-is) (same_text (ap (standings_in l s) (sym w.in-Full.is)) w.print_standings.ensures.prints)
      | in-Short w ↦ subst to (sym w.page-is) (same_text (ap (standings_in l s) (sym w.in-Short.is)) (nothing c.put.new.self))
    ] in
    let printed : Printed c.new-page.result (text_of l s c.args.form) c.print_read_offs.new.page =
    same_text (text-is l s c.args.form) (both c.put.ensures (both standings c.print_read_offs.ensures)) in
    search rules
