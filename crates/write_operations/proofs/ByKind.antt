-- The bytes of an operation, by the kind.
use Prim.Native.Nat.{ℕ, ◌*◌, ◌/◌, ◌%◌}
use mathlib.Core.Path.{◌≡◌, sym, ap, ap₂, ◌∙◌}
use mathlib.Core.List.{List, [], ◌∷◌, ◌++◌}
use native.Mathlib.Omega.{arith}
use lib.ListN.{length}
use lib.Seq.{take_all}
use Rattle.update_format.specs.Update.{Id, id_length, Remove, encode_operation}
use Rattle.update_format.specs.Slices.{ids-length, ids-joined}
use Rattle.update_format.specs.declared.kind.Kind.{Kind}
use Rattle.update_format.specs.Kinds.{kind_byte}
use Rattle.update_format.specs.Decode.{ids_in}
use Rattle.bytes_print.specs.Page.{Printed}
use Rattle.bytes_print.specs.declared.Page.{Page}
use Rattle.bytes_print.proofs.PrintedLaws.{same_text}
use Rattle.write_operations.specs.Operations.{operation_for}

pub remove-bytes : (t named : List ℕ) → length named % id_length ≡ 0
    → (2 ∷ []) ++ (t ++ ((length named / id_length ∷ []) ++ named)) ≡ encode_operation (Remove t (ids_in named))
unfolding encode_operation
remove-bytes t named h =
    ap₂ (λ (n : ℕ) (b : List ℕ). 2 ∷ (t ++ (n ∷ b)))
    (sym (ids-length named 0 (length named / id_length)))
    (sym (ids-joined named 0 (length named / id_length) ∙ take_all (id_length * (length named / id_length)) named (omega arith)))

-- the kind byte, by the kind
pub kind-printed : {b : ℕ} {k q : Kind} → b ≡ kind_byte k → k ≡ q → {old new : Page} → Printed old (b ∷ []) new → Printed old (kind_byte q ∷ []) new
kind-printed e f = same_text (ap (λ (b : ℕ). b ∷ []) (e ∙ ap kind_byte f))

-- what prints the operation of a kind prints that of the kind given
pub of-kind : (t : List ℕ) (i : Id) (named : List ℕ) {k q : Kind} → k ≡ q → {old new : Page}
    → Printed old (encode_operation (operation_for q t i named)) new → Printed old (encode_operation (operation_for k t i named)) new
of-kind t i named e = same_text (ap (λ (q : Kind). encode_operation (operation_for q t i named)) (sym e))
