-- `print` meets its contract, by the kind.
use Rattle.std.proofs.Common.{arith, rules}
use Rattle.update_format.specs.Update.{encode_operation}
use Rattle.bytes_print.proofs.PrintedLaws.{both, same_text}
use Rattle.write_operations.specs.Operations.{operation_for}
use Rattle.write_operations.specs.NamedLaws.{good-named}
use Rattle.write_operations.proofs.ByKind.{remove-bytes, kind-printed, of-kind}
use Rattle.write_operations.proofs.draft.Draft.print.Goals as goal

pub overflow_cast-self : goal.overflow_cast-self
overflow_cast-self c = omega (arith, (good-named c.args.self.now.named.now c.args.self.now.named_good).few)

pub returns-in-Add-clause-prints : goal.returns-in-Add-clause-prints
unfolding operation_for encode_operation
returns-in-Add-clause-prints c = of-kind _ _ _ c.in-Add.is (both (kind-printed (search rules) c.in-Add.is c.put.ensures) c.put-in-Add.ensures)

pub returns-in-Remove-clause-prints : goal.returns-in-Remove-clause-prints
unfolding operation_for
returns-in-Remove-clause-prints c =
    of-kind _ _ _ c.in-Remove.is
    (same_text (remove-bytes c.args.self.now.tag c.args.self.now.named.now (good-named c.args.self.now.named.now c.args.self.now.named_good).whole)
    (both (kind-printed (search rules) c.in-Remove.is c.put.ensures) (both c.put-in-Remove.ensures (both c.put-in-Remove-2.ensures c.put-in-Remove-3.ensures))))

pub returns-in-Remove-clause-small : goal.returns-in-Remove-clause-small
returns-in-Remove-clause-small c = omega (arith, (good-named c.args.self.now.named.now c.args.self.now.named_good).few)

pub returns-in-Insert-clause-prints : goal.returns-in-Insert-clause-prints
unfolding operation_for encode_operation
returns-in-Insert-clause-prints c =
    of-kind _ _ _ c.in-Insert.is (both (kind-printed (search rules) c.in-Insert.is c.put.ensures) (both c.put-in-Insert.ensures c.put-in-Insert-2.ensures))

pub returns-in-Delete-clause-prints : goal.returns-in-Delete-clause-prints
unfolding operation_for encode_operation
returns-in-Delete-clause-prints c =
    of-kind _ _ _ c.in-Delete.is (both (kind-printed (search rules) c.in-Delete.is c.put.ensures) c.put-in-Delete.ensures)
