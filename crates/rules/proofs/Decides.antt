-- What a settled table says of its set: a row for each update, with the verdict and the ancestors that `Standing` gives it.
use Rattle.std.specs.Prelude.{◌≡◌, List}
use Rattle.bytes_order.specs.Member.{◌∈◌}
use Rattle.bytes_order.specs.Distinct.{Distinct}
use Rattle.update_format.specs.Update.{Id, Update}
use Rattle.rules.specs.Standing.{Rules, Ancestor, Held, Void, Waiting}
use Rattle.rules.specs.Settle.{Row, Table, held, waiting, void}

pub record Decides (rules : Rules) (S : List Update) (T : Table) : Type 0 where
  pub of_set : (r : Row) → r ∈ T → r.update ∈ S
  pub has-id : (r : Row) → r ∈ T → r.id ≡ rules.ident r.update
  pub row_for : (u : Update) → u ∈ S → (r : Row) × (r ∈ T) × (r.update ≡ u)
  pub once : Distinct (λ (r : Row). r.id) T
  pub held_right : (r : Row) → r ∈ T → r.verdict ≡ held → Held rules S r.update
  pub void_right : (r : Row) → r ∈ T → r.verdict ≡ void → Void rules S r.update
  pub waiting_right : (r : Row) → r ∈ T → r.verdict ≡ waiting → Waiting rules S r.update
  pub above_right : (r : Row) → r ∈ T → r.verdict ≡ held → (i : Id) → i ∈ r.above
      → (x : Update) × Ancestor rules S x r.update × (rules.ident x ≡ i)
  pub above_all : (r : Row) → r ∈ T → r.verdict ≡ held → (x : Update) → Ancestor rules S x r.update → rules.ident x ∈ r.above
  pub above_once : (r : Row) → r ∈ T → r.verdict ≡ held → Distinct (λ (i : Id). i) r.above
