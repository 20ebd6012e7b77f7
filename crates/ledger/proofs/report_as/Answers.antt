-- `report_as` meets its contract: where the buffer has room for every report of the form the text is printed at once; elsewhere its length is asked first, of a page that
-- is too short for the text, and the text is then printed where it fits.
use Rattle.std.proofs.Common.{arith}
use Rattle.rules.specs.ReportLaws.{document-size}
use Rattle.ledger_state.proofs.Row1Laws.{sound→}
use Rattle.ledger_state.specs.View.{book_of}
use Rattle.ledger_state.proofs.Owning.{id-length}
use Rattle.ledger.proofs.ReportLaws.{reported-at-once, reported-short, reported-asked}
use Rattle.ledger.proofs.report_as.Goals as goal

pub returns-then-room-out : goal.returns-then-room-out
returns-then-room-out c =
    let f = c.in_ok-replica.ensures in
    let few = (sound→ (book_of c.args.ledger) c.args.store.now f.is_sound).few in
    reported-at-once c.args.form (book_of c.args.ledger) c.args.store.now f.is_sound c.args.out.now
    (λ k h. id-length c.args.ledger _ c.well_formed.0 k (omega (arith, few)))
    (omega (arith, document-size c.args.form, c.room.ensures, c.if-room-out.true)) (rw (f.same_ledger, f.same_store) at c.print.ensures)

pub returns-then-out-length : goal.returns-then-out-length
returns-then-out-length c =
    let f = c.in_ok-replica.ensures in
    reported-short c.args.form (book_of c.args.ledger) c.args.store.now f.is_sound c.args.out.now
    (rw (f.same_ledger, f.same_store) at c.print-length.ensures) c.if-out-length.true

pub returns : goal.returns
returns c =
    let f = c.in_ok-replica.ensures in
    reported-asked c.args.form (book_of c.args.ledger) c.args.store.now f.is_sound c.args.out.now
    (rw (f.same_ledger, f.same_store) at c.print-length.ensures) c.if-out-length.false (rw (f.same_ledger, f.same_store) at c.print-2.ensures)
