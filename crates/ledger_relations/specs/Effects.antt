-- What a place does to another, by value, each with its number; and whether some held place does so.
use Rattle.std.specs.Prelude.{ℕ, List, Bool, ◌&&◌, eqb}
use Rattle.rules.specs.CausalOrder.{is_before, is_apart}
use Rattle.rules.specs.Settle.{is_insert, names, deletes}
use Rattle.bitset.specs.Below.{any_below}
use Rattle.bitset.specs.Bits.{count}
use Rattle.update_fields.specs.Fields.{test_of, author_in}
use Rattle.ledger_state.specs.State.{Place, Book, place_at, decoded_in, is_held, Terms}
use Rattle.ledger_state.specs.PlaceOrder.{place_order}
use Rattle.ledger_relations.specs.declared.Effect.{Effect}
use Rattle.ledger_relations.specs.declared.Effect.TheVariants.{Covers, Forks, Removes, Deletes}

module _ (terms : Terms) (s : List ℕ) where
  -- the places are of one author, and apart
  abbrev pub forks : Place → ℕ → Place → ℕ → Bool
  forks own k other q = eqb (author_in (decoded_in terms s own k)) (author_in (decoded_in terms s other q)) && is_apart (place_order own k other q)

  -- the other place does so to the own
  abbrev pub affects : Effect → Place → ℕ → Place → ℕ → Bool
  affects Covers own k other q = is_before (place_order own k other q)
  affects Forks own k other q = forks own k other q
  affects Removes own k other q = test_of (names own.id) (decoded_in terms s other q)
  affects Deletes own k other q = test_of (deletes own.id) (decoded_in terms s other q)

  -- and it is held
  abbrev pub held_affects : Effect → Place → ℕ → Place → ℕ → Bool
  held_affects e own k other q = is_held other.standing && affects e own k other q

  -- the place holds a held Insert with n ancestors
  abbrev pub ranked_in : ℕ → Place → ℕ → Bool
  ranked_in n p k = (is_held p.standing && test_of is_insert (decoded_in terms s p k)) && eqb (count p.ancestors) n

-- some held place does so to k
unfoldable pub some_held : Book → List ℕ → Effect → ℕ → Bool
some_held l s e k = any_below l.used (λ (q : ℕ). held_affects l.terms s e (place_at l k) k (place_at l q) q)
