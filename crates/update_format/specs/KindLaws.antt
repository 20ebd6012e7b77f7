-- The byte of a kind is the first byte that document 01 lays out for an operation of this kind; a byte is one kind's at most; row 7 applies to bytes whose kind byte is no
-- kind's, and to no others; and where it is a kind's, the fields stand where this kind has them.
use Rattle.std.specs.Prelude.{ℕ, ◌≤◌, ◌<◌, ◌≡◌, refl, List, true, ◌||◌, ltb, get_or, Result, Ok, Err, is_err}
use Rattle.std.proofs.Common.{⊎_elim, arith, sym}
use Rattle.std.proofs.lemmas.Bool.{cases_lt}
use borrow.Author.Tests.{le-ltb, lt-ltb}
use Rattle.update_format.specs.Update as U
use Rattle.update_format.specs.Update.{encode_operation}
use Rattle.update_format.specs.Decode.{kind_of, body_at, named_count_of, row7}
use Rattle.update_format.specs.declared.kind.Kind.{Kind}
use Rattle.update_format.specs.declared.kind.Kind.TheVariants.{Add, Remove, Insert, Delete}
use Rattle.update_format.specs.declared.kind.UnknownKind.{UnknownKind}
use Rattle.update_format.specs.Kinds.{kind_byte, Decodes, offsets_by}
use Rattle.update_format.specs.ParseResult.{offsets_of}

-- the kind of an operation
abbrev pub kind_in : U.Operation → Kind
kind_in (U.Add t) = Add
kind_in (U.Remove t named) = Remove
kind_in (U.Insert a v) = Insert
kind_in (U.Delete i) = Delete

pub kind-first : (op : U.Operation) → get_or (encode_operation op) 0 0 ≡ kind_byte (kind_in op)
unfolding encode_operation
kind-first (U.Add t) = refl
kind-first (U.Remove t named) = refl
kind-first (U.Insert a v) = refl
kind-first (U.Delete i) = refl

pub kind-within : (k : Kind) → (1 ≤ kind_byte k) × (kind_byte k ≤ 4)
kind-within Add = (omega arith, omega arith)
kind-within Remove = (omega arith, omega arith)
kind-within Insert = (omega arith, omega arith)
kind-within Delete = (omega arith, omega arith)

pub kind-byte-one : (j k : Kind) → kind_byte j ≡ kind_byte k → j ≡ k
kind-byte-one Add Add e = refl
kind-byte-one Add Remove e = absurd (omega arith)
kind-byte-one Add Insert e = absurd (omega arith)
kind-byte-one Add Delete e = absurd (omega arith)
kind-byte-one Remove Add e = absurd (omega arith)
kind-byte-one Remove Remove e = refl
kind-byte-one Remove Insert e = absurd (omega arith)
kind-byte-one Remove Delete e = absurd (omega arith)
kind-byte-one Insert Add e = absurd (omega arith)
kind-byte-one Insert Remove e = absurd (omega arith)
kind-byte-one Insert Insert e = refl
kind-byte-one Insert Delete e = absurd (omega arith)
kind-byte-one Delete Add e = absurd (omega arith)
kind-byte-one Delete Remove e = absurd (omega arith)
kind-byte-one Delete Insert e = absurd (omega arith)
kind-byte-one Delete Delete e = refl

-- a byte that is none of 1 to 4 is no kind's
pub unknown-none : (n : ℕ) → (1 ≤ n → 4 < n) → (k : Kind) → kind_byte k ≡ n → ⊥
unknown-none n h k e = let w = kind-within k in omega arith

pub row7_kind : (b : List ℕ) (r : Result Kind UnknownKind) → Decodes (kind_of b) r → row7 b ≡ is_err r
unfolding row7
row7_kind b (Ok k) e =
    let w = kind-within k in
    let l : 1 ≤ kind_of b = omega arith in
    let m : kind_of b ≤ 4 = omega arith in
    rw (le-ltb (kind_of b) 1 l, le-ltb 4 (kind_of b) m)
row7_kind b (Err e) h = ⊎_elim high low (cases_lt (kind_of b) 1)
  where
    low : 1 ≤ kind_of b → ltb (kind_of b) 1 || ltb 4 (kind_of b) ≡ true
    low l = rw (le-ltb (kind_of b) 1 l, lt-ltb 4 (kind_of b) (h.1 l))

    high : kind_of b < 1 → ltb (kind_of b) 1 || ltb 4 (kind_of b) ≡ true
    high l = rw (lt-ltb (kind_of b) 1 l)

pub offsets_kind : (k : Kind) (b : List ℕ) → kind_byte k ≡ kind_of b → offsets_by k (body_at b) (named_count_of b) ≡ offsets_of b
unfolding offsets_of
offsets_kind Add b e = rw (sym e) refl
offsets_kind Remove b e = rw (sym e) refl
offsets_kind Insert b e = rw (sym e) refl
offsets_kind Delete b e = rw (sym e) refl
