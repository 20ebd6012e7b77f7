-- What the entry `write` promises, for every ledger, store, author, operation and buffer.
use Rattle.std.specs.Prelude.{◌≡◌, ℕ, ◌≤◌, ◌<◌, List, ◌++◌, true, false, length, drop, Result, Ok, Err}
use Rattle.update_format.specs.Update.{Id, max_length, Operation, Update, encode, Bounded}
use Rattle.rules.specs.Writing.{written_of, writable_of}
use Rattle.ledger_state.specs.State.{Book}
use Rattle.ledger_state.specs.Row1.{sound}
use Rattle.ledger_state.specs.Stands.{rules, Stands}
use Rattle.update_format.specs.declared.kind.Kind.{Kind}
use Rattle.write_operations.specs.Operations.{operation_for, bad_named, unordered_named}
use Rattle.ledger_refusals.specs.Numbers.{row1_number, row4_number, row8_number, row9_number, row11_number, row12_number, refusal_number, Output, put_bytes, refused_by}
use Rattle.ledger_refusals.specs.declared.Refusal.{Refusal}

-- document 01's values of what the writer answers: the length of its result, or the number of the row
abbrev pub wrote_values : Result ℕ Refusal → Output
wrote_values (Ok n) = put_bytes n
wrote_values (Err r) = refused_by (refusal_number r)

-- The update that is written. For every ledger and store it has the author and the operation asked for, its bytes are well formed, and no more than the longest update of the terms has (533 at document 01's). For a
-- ledger that stands it is the one that the rules give. Left free for a ledger that stands for no set of updates: which ids it names as predecessors.
pub record WrittenUpdate (l : Book) (s : List ℕ) (a : ℕ) (o : Operation) (u : Update) : Type 0 where
  pub by-author : u.author ≡ a
  pub with_operation : u.op ≡ o
  pub laid_out : Bounded l.terms.bounds u
  pub at_most : length (encode u) ≤ max_length l.terms.bounds
  pub of_rules : (us : List Update) → Stands l s us → u ≡ written_of rules l.terms.bounds.predecessors us a o

-- "The writer checks 1, 4, 8 .., 9, 12, 11." "The writer does not offer it." The answer by its values, and the output buffer.
-- Left free for a ledger that stands for no set of updates, where rows 1, 4, 8 and 9 do not apply: which of row 12, row 11 and an update comes, since the rules say only
-- of a set which operation would be void. Even then row 11 comes only for a buffer shorter than such an update, and so never for one as long as the longest update.
pub data Writing (l : Book) (s : List ℕ) (a : ℕ) (k : Kind) (t : List ℕ) (i : Id) (named o : List ℕ) : Output → List ℕ → Type 0 where
  unfit : sound l s ≡ false → Writing l s a k t i named o (refused_by row1_number) o
  author : sound l s ≡ true → l.terms.bounds.authors ≤ a → Writing l s a k t i named o (refused_by row4_number) o
  layout : sound l s ≡ true → a < l.terms.bounds.authors → bad_named named ≡ true → Writing l s a k t i named o (refused_by row8_number) o
  unordered : sound l s ≡ true → a < l.terms.bounds.authors → bad_named named ≡ false → unordered_named named ≡ true
      → Writing l s a k t i named o (refused_by row9_number) o
  -- "the writer's operation would be void": for a ledger that stands
  invalid : sound l s ≡ true → a < l.terms.bounds.authors → bad_named named ≡ false → unordered_named named ≡ false
      → ((us : List Update) → Stands l s us → writable_of rules l.terms.bounds.predecessors us a (operation_for k t i named) ≡ false)
      → Writing l s a k t i named o (refused_by row12_number) o
  short : (u : Update) → sound l s ≡ true → a < l.terms.bounds.authors → bad_named named ≡ false → unordered_named named ≡ false
      → ((us : List Update) → Stands l s us → writable_of rules l.terms.bounds.predecessors us a (operation_for k t i named) ≡ true)
      → WrittenUpdate l s a (operation_for k t i named) u → length o < length (encode u)
      → Writing l s a k t i named o (refused_by row11_number) o
  written : (u : Update) → sound l s ≡ true → a < l.terms.bounds.authors → bad_named named ≡ false → unordered_named named ≡ false
      → ((us : List Update) → Stands l s us → writable_of rules l.terms.bounds.predecessors us a (operation_for k t i named) ≡ true)
      → WrittenUpdate l s a (operation_for k t i named) u → length (encode u) ≤ length o
      → Writing l s a k t i named o (put_bytes (length (encode u))) (encode u ++ drop (length (encode u)) o)

-- rows 1, 4 and 9 do not apply (nor row 8, by the draft)
pub record WellAsked (l : Book) (s : List ℕ) (a : ℕ) (named : List ℕ) : Type 0 where
  pub fits : sound l s ≡ true
  pub author_small : a < l.terms.bounds.authors
  pub named_ordered : unordered_named named ≡ false
