-- An operation whose named ids rows 8 and 9 let through is within the bounds of the format.
use Rattle.std.specs.Prelude.{◌≡◌, ℕ, ◌/◌, List, false, length}
use Rattle.std.proofs.Common.{arith}
use Rattle.std.proofs.lemmas.Bool.{not-false}
use Rattle.update_format.specs.Update.{Id, id_length, tag_length, BoundedOperation, add, remove, insert, delete}
use Rattle.update_format.specs.Slices.{ids-length, ids_sized}
use Rattle.update_format.specs.declared.kind.Kind.{Kind}
use Rattle.update_format.specs.declared.kind.Kind.TheVariants.{Add as AnAdd, Remove as ARemove, Insert as AnInsert, Delete as ADelete}
use Rattle.update_format.specs.Decode.{ids_in}
use Rattle.write_operations.specs.Operations.{operation_for, bad_named, unordered_named}
use Rattle.write_operations.specs.NamedLaws.{good-named}

pub operation-bounded : (k : Kind) (t : List ℕ) (i : Id) (named : List ℕ) → length t ≡ tag_length → length i ≡ id_length
    → bad_named named ≡ false → unordered_named named ≡ false → BoundedOperation (operation_for k t i named)
unfolding operation_for unordered_named
operation-bounded AnAdd t i named x y g o = add x
operation-bounded ARemove t i named x y g o =
    let f = good-named named g in
    let n = length named / id_length in
    remove {named = ids_in named} x
    (record { few = omega (arith, ids-length named 0 n, f.few); sized = ids_sized named 0 n (omega arith); ordered = not-false _ o })
operation-bounded AnInsert t i named x y g o = insert y x
operation-bounded ADelete t i named x y g o = delete y
