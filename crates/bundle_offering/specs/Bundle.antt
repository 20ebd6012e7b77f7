-- What the entry `offer_bundle` promises, for every ledger, store, bundle and answer buffer.
use Rattle.std.specs.Prelude.{◌≡◌, ℕ, ◌*◌, ◌≤◌, ◌<◌, List, ◌++◌, true, false, length, drop}
use Rattle.std.specs.Prelude.{None, Some, Result, Ok, Err}
use Rattle.bundle_format.specs.Bundle.{items_of}
use Rattle.ledger_state.specs.declared.Ledger.{Ledger}
use Rattle.ledger_state.specs.State.{Book}
use Rattle.ledger_state.specs.View.{book_of}
use Rattle.ledger_state.specs.Row1.{sound}
use Rattle.ledger_refusals.specs.declared.Refusal.{Refusal}
use Rattle.ledger_refusals.specs.Numbers.{row1_number, row11_number, row13_number, refusal_number, Output, put_bytes, refused_by}
use Rattle.ledger_offering.specs.Values.{OfferValues}
use Rattle.ledger_offering.specs.Calls.{Calls}
use Rattle.bundle_answers.specs.AnswerBytes.{answer_length, answers_bytes}
use Rattle.bundle_offering.specs.declared.BundleOffered.{BundleOffered}

-- the length of what was written, or the number of the row
abbrev pub bundle_values : Result ℕ Refusal → Output
bundle_values (Ok n) = put_bytes n
bundle_values (Err r) = refused_by (refusal_number r)

-- how many bytes the answers of the items have
abbrev pub answers_length : List (List ℕ) → ℕ
answers_length xs = answer_length * length xs

-- What a bundle b, handed to the ledger l and the store s with the answer buffer o, yields: the length written or the number of the row, and the ledger, the store and the
-- buffer as they are left. A constructor for each row, in the order in which they are checked, and for a bundle that is offered: there the ledger, the store and the answers
-- are those of single offers of its items in their order, each with what the entry `offer` ensures. What is free for single offers is free here, and nothing else is.
pub data BundleRow (l : Ledger) (s b o : List ℕ) : Output → Ledger → List ℕ → List ℕ → Type 0 where
  -- "it comes after 1"
  unfit : sound (book_of l) s ≡ false → BundleRow l s b o (refused_by row1_number) l s o
  -- "13 if a length runs past the end, an item is cut, or there are more than 64 items; .. before any item is taken"
  no_bundle : sound (book_of l) s ≡ true → items_of b ≡ None → BundleRow l s b o (refused_by row13_number) l s o
  -- "11 follows it if the answer buffer is short"
  short : (xs : List (List ℕ)) → sound (book_of l) s ≡ true → items_of b ≡ Some xs → length o < answers_length xs → BundleRow l s b o (refused_by row11_number) l s o
  -- "The answers fill a lent buffer, six bytes per item, and equal those of single offers in the same order, as do ledger and store."; "put what they write at the start of
  -- the output buffer, keep the bytes after it and .. return its length"
  answered : (xs : List (List ℕ)) (vs : List OfferValues) (r : Ledger) (s' : List ℕ) → sound (book_of l) s ≡ true → items_of b ≡ Some xs → answers_length xs ≤ length o
      → Calls l s xs vs r s'
      → BundleRow l s b o (put_bytes (answers_length xs)) r s' (answers_bytes vs ++ drop (answers_length xs) o)

-- the promise of `offer_bundle`
abbrev pub Bundling : Ledger → List ℕ → List ℕ → List ℕ → BundleOffered → List ℕ → List ℕ → Type 0
Bundling l s b o r s' o' = BundleRow l s b o (bundle_values r.answer) r.ledger s' o'

-- what is asked to offer the items: row 1 does not apply, the bytes are a bundle of n items, and the answers fit
pub record Offerable (l : Book) (s b : List ℕ) (n : ℕ) (o : List ℕ) : Type 0 where
  pub is_sound : sound l s ≡ true
  pub items : List (List ℕ)
  pub read : items_of b ≡ Some items
  pub number : n ≡ length items
  pub fits : answers_length items ≤ length o

-- what holds after the items were offered
pub record AllOffered (l : Ledger) (s b o : List ℕ) (r : Ledger) (s' o' : List ℕ) : Type 0 where
  pub items : List (List ℕ)
  pub answers : List OfferValues
  pub read : items_of b ≡ Some items
  pub calls : Calls l s items answers r s'
  pub written : o' ≡ answers_bytes answers ++ drop (answers_length items) o
