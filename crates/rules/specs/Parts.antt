-- The parts of the report, and what it is for them to be those of a set of updates, by `Standing` and `ReadOff` alone.
use Rattle.std.specs.Prelude.{ℕ, List}
use Rattle.bytes_order.specs.Member.{◌∈◌}
use Rattle.bytes_order.specs.Ascending.{Ascending}
use Rattle.update_format.specs.Update.{Update}
use Rattle.rules.specs.Standing.{Rules, Held, Void, Waiting}
use Rattle.rules.specs.SetEntry.{SetEntry, entry_key}
use Rattle.rules.specs.Mark.{Mark, mark_key}
use Rattle.rules.specs.ReadOff.{Head, MarkedFor, Present, Listed}

-- updates, marks, set entries and values
pub record Parts : Type 0 where
  pub held : List Update
  pub heads : List Update
  pub waiting : List Update
  pub void : List Update
  pub marks : List Mark
  pub set : List SetEntry
  pub list : List (List ℕ)

-- xs has only what is P, and all that is P; its keys are strictly ascending, so it has each once
pub record Exactly {A : Type 0} (key : A → List ℕ) (P : A → Type 0) (xs : List A) : Type 0 where
  pub right : (x : A) → x ∈ xs → P x
  pub all : (x : A) → P x → x ∈ xs
  pub ascending : Ascending key xs

-- the parts are those that the rules give for the set S
pub record ReadFrom (rules : Rules) (S : List Update) (parts : Parts) : Type 0 where
  pub held : Exactly rules.ident (Held rules S) parts.held
  pub heads : Exactly rules.ident (Head rules S) parts.heads
  pub waiting : Exactly rules.ident (Waiting rules S) parts.waiting
  pub void : Exactly rules.ident (Void rules S) parts.void
  pub marks : Exactly mark_key (λ (m : Mark). MarkedFor rules S m.kind m.author) parts.marks
  pub set : Exactly entry_key (λ (e : SetEntry). Present rules S e.tag e.author) parts.set
  pub list : Listed rules S parts.list
