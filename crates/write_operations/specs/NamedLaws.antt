-- What rows 8 and 9 of the writer say of the named ids' bytes.
use Rattle.std.specs.Prelude.{ℕ, ◌%◌, ◌≤◌, ◌≡◌, refl, List, Bool, true, false, ◌||◌, eqb, length}
use Rattle.std.proofs.Common.{sym, ◌∙◌, ltb-false, eqb-true, eq-eqb, ne_eqb}
use Rattle.std.proofs.Math.Path.{ap}
use Rattle.std.proofs.Math.Bool.{not}
use Rattle.std.proofs.Math.Dec.{ltb}
use Rattle.bytes_order.specs.BoolLaws.{true-false}
use Rattle.bytes_order.specs.Order.{ascending}
use Rattle.update_format.specs.Update.{id_length}
use Rattle.update_format.specs.Decode.{ids_in}
use Rattle.write_operations.specs.Operations.{max_named_length, bad_named, unordered_named}

-- bytes that row 8 lets through
pub record WholeIds (named : List ℕ) : Type 0 where
  pub whole : length named % id_length ≡ 0
  pub few : length named ≤ max_named_length

module _ (named : List ℕ) where
  bad-by : {b : Bool} → eqb (length named % id_length) 0 ≡ b → (not b || ltb max_named_length (length named)) ≡ bad_named named
  unfolding bad_named
  bad-by f = ap (λ (b : Bool). not b || ltb max_named_length (length named)) (sym f)

  pub bad-long : length named % id_length ≡ 0 → ltb max_named_length (length named) ≡ bad_named named
  bad-long f = bad-by (eq-eqb (length named % id_length) 0 f)

  pub bad-odd : (length named % id_length ≡ 0 → ⊥) → true ≡ bad_named named
  bad-odd f = bad-by (ne_eqb (length named % id_length) 0 f)

  pub good-named : bad_named named ≡ false → WholeIds named
  good-named g = go (eqb (length named % id_length) 0) refl
    where
      go : (b : Bool) → eqb (length named % id_length) 0 ≡ b → WholeIds named
      go true f = record { whole = eqb-true (length named % id_length) 0 f; few = ltb-false max_named_length (length named) (bad-by f ∙ g) }
      go false f = absurd (true-false (sym (bad-by f)) g)

  pub unordered-by : {b : Bool} → b ≡ ascending (ids_in named) → not b ≡ unordered_named named
  unfolding unordered_named
  unordered-by f = ap not f
