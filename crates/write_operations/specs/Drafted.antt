-- The operation that a draft asks for.
use Rattle.update_format.specs.Update.{Operation}
use Rattle.write_operations.specs.Operations.{operation_for}
use Rattle.write_operations.specs.declared.draft.Draft.{Draft}

abbrev pub drafted : Draft → Operation
drafted d = operation_for d.kind d.tag d.id d.named.now
