-- `take` meets its contract: what settling ensures of the ledger with the place taken, and the counts. A place is free, by the room that is required.
use Rattle.std.proofs.Common.{length, arith}
use Rattle.update_format.specs.Update.{document_bounds}
use Rattle.update_format.specs.Laws.{accepted}
use Rattle.ledger_state.specs.View.{book_of}
use Rattle.ledger_state.proofs.RoomLaws.{room→}
use Rattle.ledger_state.proofs.Row1Laws.{sound→}
use Rattle.ledger_offering.proofs.TakeLaws.{taken-newest, took-with}
use Rattle.ledger_offering.proofs.OfferLaws.{offered-taken}
use Rattle.ledger_offering.proofs.take.Goals as goal

pub write_at-requires : goal.write_at-requires
write_at-requires c =
    let f = c.requires.formed in
    record {
      store_whole = (sound→ (book_of c.args.ledger.now) c.args.store.now f.is_sound).store;
      place_within = omega (arith, room→ (book_of c.args.ledger.now) c.args.store.now f.value c.requires.room);
      update_within = (accepted document_bounds c.args.update.now f.value f.decodes).short;
    }

pub settle-settled-requires : goal.settle-settled-requires
settle-settled-requires c =
    let free = room→ (book_of c.args.ledger.now) c.args.store.now c.requires.formed.value c.requires.room in
    taken-newest (book_of c.args.ledger.now) c.args.id (length c.args.update.now) (c.taken.ensures.free free) free

pub offset_bounds-ledger-k : goal.offset_bounds-ledger-k
offset_bounds-ledger-k c = omega (arith, room→ (book_of c.args.ledger.now) c.args.store.now c.requires.formed.value c.requires.room)

pub bounds-ledger-k : goal.bounds-ledger-k
bounds-ledger-k c = room→ (book_of c.args.ledger.now) c.args.store.now c.requires.formed.value c.requires.room

pub returns : goal.returns
returns c =
    let q = c.requires in
    let f = q.formed in
    let free = room→ (book_of c.args.ledger.now) c.args.store.now f.value q.room in
    offered-taken c.args.ledger.now c.args.store.now c.args.update.now f _ q.id_right q.id_new q.room
    (took-with (book_of c.args.ledger.now) c.args.store.now c.args.update.now f.value f.is_sound f.decodes q.room q.id_right q.id_new
    (c.taken.ensures.free free)
    c.write_at.ensures
    c.write_at.auto.store
    c.settle-settled.ensures)
    c.write_at.ensures
