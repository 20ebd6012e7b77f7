-- `author_of` meets its contract: an author that is read is within document 01's bounds.
use Rattle.std.proofs.Common.{ap, arith}
use Rattle.update_format.specs.Update.{document_bounds}
use Rattle.update_fields.specs.Fields.{author_in}
use Rattle.update_fields.specs.FieldLaws.{author_small}
use Rattle.update_fields.proofs.author_of.Goals as goal

pub returns-in-Ok : goal.returns-in-Ok
unfolding author_in
returns-in-Ok c =
    let e = ap author_in c.in-Ok.ensures.decoded in
    (e, omega (arith, author_small document_bounds (omega arith) c.args.b.now))
