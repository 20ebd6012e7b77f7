-- `offer_to` meets its contract: by what reading the bytes answers, where the id was found, and whether a place is free.
use Rattle.std.proofs.Common.{◌≡◌, sym, ◌∙◌, rules}
use Rattle.std.specs.Prelude.{Err}
use Rattle.ledger_refusals.specs.declared.Refusal.TheVariants.{Malformed as Bad}
use Rattle.ledger_offering.proofs.OfferLaws.{offered-malformed, read-formed, offered-known, offered-full}
use Rattle.ledger_offering.proofs.offer_to.Goals as goal

pub returns-in_err-read : goal.returns-in_err-read
returns-in_err-read c =
    let e : c.from_residual.result ≡ Err (Bad c.in_err-read.field-0.0) = search rules in
    rw e (offered-malformed c.args.ledger.now c.args.store.now c.args.update.now c.requires _ c.read.ensures.decoded _ c.in_err-read.was)

pub returns-in-Some : goal.returns-in-Some
returns-in-Some c =
    offered-known c.args.ledger.now c.args.store.now c.args.update.now
    (read-formed c.args.ledger.now c.args.store.now c.args.update.now c.requires _ c.read.ensures.decoded _ c.in_ok-read.was) _ c.digest-id.ensures _
    (sym c.find.ensures ∙ c.in-Some.is)

pub returns-then-not-has_room : goal.returns-then-not-has_room
returns-then-not-has_room c =
    let f = read-formed c.args.ledger.now c.args.store.now c.args.update.now c.requires _ c.read.ensures.decoded _ c.in_ok-read.was in
    offered-full c.args.ledger.now c.args.store.now c.args.update.now f _ c.digest-id.ensures (sym c.find.ensures ∙ c.in_default.is)
    (sym (c.has_room.ensures _ f.value) ∙ c.if-not-has_room.true)

pub take-requires : goal.take-requires
take-requires c =
    let f = read-formed c.args.ledger.now c.args.store.now c.args.update.now c.requires _ c.read.ensures.decoded _ c.in_ok-read.was in
    record {
      formed = f;
      id_right = c.digest-id.ensures;
      id_new = sym c.find.ensures ∙ c.in_default.is;
      room = sym (c.has_room.ensures _ f.value) ∙ c.if-not-has_room.false;
    }
