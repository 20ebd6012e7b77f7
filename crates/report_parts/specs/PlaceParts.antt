-- What is read from a ledger and its store, by places: the parts of the report as the code finds them, for every ledger. The theorem `text-right` says
-- that for a ledger that stands these are the rules' parts.
use Rattle.std.specs.Prelude.{ℕ, zero, suc, List, [], ◌∷◌, ◌++◌, Bool, cond, ◌&&◌, eqb}
use Rattle.bytes_order.specs.Order.{same}
use Rattle.bytes_order.specs.Member.{keep, concat_map}
use Rattle.update_format.specs.Update.{Id}
use Rattle.rules.specs.Standing.{beginning}
use Rattle.rules.specs.SetEntry.{SetEntry}
use Rattle.rules.specs.Mark.{Mark, marks_by}
use Rattle.rules.specs.Settle.{is_insert}
use Rattle.bitset.specs.Below.{any_below, up_to}
use Rattle.update_fields.specs.Fields.{test_of, set_entry_in, value_in, anchor_in}
use Rattle.ledger_state.specs.State.{Book, decoded_at}
use Rattle.ledger_relations.specs.PlaceTests.{id_at, held_at, author_at, rank_at, id_order, forked_at, fault_at}
use Rattle.ledger_sorting.specs.declared.Key.TheVariants.{SetEntry as BySetEntry}
use Rattle.ledger_sorting.specs.PlaceLists.{sorted_by}
use Rattle.report_parts.specs.declared.Evidence.{Evidence}
use Rattle.report_parts.specs.declared.Evidence.TheVariants.{Fork, Fault}

-- the marks of n authors, ascending, by two tests of an author: it has a fork; it has a fault
abbrev pub author_marks : ℕ → (ℕ → Bool) → (ℕ → Bool) → List Mark
author_marks n fork fault = concat_map (λ (a : ℕ). marks_by a (fork a) (fault a)) (up_to n)

module _ (l : Book) (s : List ℕ) where
  -- marks: what of a place marks its author
  abbrev pub evidence_at : Evidence → ℕ → Bool
  evidence_at Fork k = forked_at l s k
  evidence_at Fault k = fault_at l s k

  -- some place of the author is such evidence
  unfoldable pub marked_by : Evidence → ℕ → Bool
  marked_by e a = any_below l.used (λ (k : ℕ). eqb (author_at l s k) a && evidence_at e k)

  unfoldable pub marks_of : List Mark
  marks_of = author_marks l.terms.bounds.authors (marked_by Fork) (marked_by Fault)

  -- the set
  unfoldable pub set_entry_at : ℕ → SetEntry
  set_entry_at k = set_entry_in (decoded_at l s k)

  -- the places of the Adds that no held Remove names, ascending by the key of their entries, of each entry one
  abbrev pub set_order : List ℕ
  set_order = sorted_by l s BySetEntry

  -- the list: the held Inserts, of lower rank first, then of smaller id; each put at the beginning or right after its anchor, so that a later one
  -- stands before the siblings put there earlier and all that hangs under them
  unfoldable pub insert_at : ℕ → Bool
  insert_at k = held_at l s k && test_of is_insert (decoded_at l s k)

  -- those of rank below n
  unfoldable pub by_rank : ℕ → List ℕ
  by_rank zero = []
  by_rank (suc n) = by_rank n ++ keep (λ (k : ℕ). insert_at k && eqb (rank_at l s k) n) (id_order l s)

  -- e right after the first entry whose id is a; at the end where there is none
  unfoldable pub after : Id → ℕ → List ℕ → List ℕ
  after a e [] = e ∷ []
  after a e (x ∷ xs) = cond (same (id_at l s x) a) (x ∷ e ∷ xs) (x ∷ after a e xs)

  unfoldable pub put_by : Id → ℕ → List ℕ → List ℕ
  put_by a e xs = cond (same a beginning) (e ∷ xs) (after a e xs)

  unfoldable pub put_entry : ℕ → List ℕ → List ℕ
  put_entry e xs = put_by (anchor_in (decoded_at l s e)) e xs

  unfoldable pub put_all : List ℕ → List ℕ → List ℕ
  put_all xs [] = xs
  put_all xs (e ∷ es) = put_all (put_entry e xs) es

  unfoldable pub entries_of : List ℕ
  entries_of = put_all [] (by_rank l.terms.places)

  unfoldable pub value_at : ℕ → List ℕ
  value_at k = value_in (decoded_at l s k)
