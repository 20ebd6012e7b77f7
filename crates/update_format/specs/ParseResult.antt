-- What reading the bytes answers: the offsets of an update's fields, or the refusal; and what such an answer means.
use Rattle.std.specs.Prelude.{ℕ, ◌+◌, ◌≡◌, refl, List, [], Bool, true, false, cond, eqb, Result, Ok, Err}
use Rattle.std.proofs.Common.{ap}
use Rattle.update_format.specs.Update as U
use Rattle.update_format.specs.declared.Bounds.{Bounds}
use Rattle.update_format.specs.Update.{id_length, tag_length, Update}
use Rattle.update_format.specs.Decode.{slice, ids_at, author_of, count_of, first_predecessor, kind_of, body_at, named_count_at, named_count_of, named_of, row2, row3, row4, row5, row6, row7, row8, row9, operation_of, update_of, Decoded, refused, update, decode}
use Rattle.update_format.specs.declared.Malformed.{Malformed}
use Rattle.update_format.specs.declared.Malformed.TheVariants.{Length, Version, Author, Predecessors, Truncated, Kind, Layout, Unordered}
use Rattle.update_format.specs.declared.Operation.{Operation}
use Rattle.update_format.specs.declared.Operation.TheVariants.{Add, Remove, Insert, Delete}
use Rattle.update_format.specs.declared.Parsed.{Parsed}

-- document 01's number of each refusal
abbrev pub malformed_number : Malformed → ℕ
malformed_number Length = 2
malformed_number Version = 3
malformed_number Author = 4
malformed_number Predecessors = 5
malformed_number Truncated = 6
malformed_number Kind = 7
malformed_number Layout = 8
malformed_number Unordered = 9

-- row 7's refusal, of a kind byte that is none of the four
abbrev pub kind_refused : Malformed
kind_refused = Kind

-- the operation whose fields stand at the offsets
abbrev pub operation_at : List ℕ → Operation → U.Operation
operation_at b (Add tag) = U.Add (slice b tag tag_length)
operation_at b (Remove tag named count) = U.Remove (slice b tag tag_length) (ids_at b named count)
operation_at b (Insert anchor value) = U.Insert (slice b anchor id_length) (slice b value tag_length)
operation_at b (Delete deleted) = U.Delete (slice b deleted id_length)

-- the update that the offsets lay out in b
abbrev pub value_of : List ℕ → Parsed → Update
value_of b p = record { author = p.author; preds = ids_at b first_predecessor p.count; op = operation_at b p.operation }

abbrev pub decoded_of : List ℕ → Result Parsed Malformed → Decoded
decoded_of b (Ok p) = update (value_of b p)
decoded_of b (Err m) = refused (malformed_number m)

-- the offsets of the operation's fields, by the kind byte
unfoldable pub offsets_of : List ℕ → Operation
offsets_of b =
    cond (eqb (kind_of b) 1) (Add (body_at b))
    (cond (eqb (kind_of b) 2) (Remove (body_at b) (named_count_at b + 1) (named_count_of b))
    (cond (eqb (kind_of b) 3) (Insert (body_at b) (body_at b + id_length))
    (Delete (body_at b))))

unfoldable pub parsed_of : List ℕ → Parsed
parsed_of b = record { author = author_of b; count = count_of b; operation = offsets_of b }

-- rows 6 to 9, then the offsets
unfoldable pub operation_parse : List ℕ → Result Parsed Malformed
operation_parse b =
    cond (row6 b) (Err Truncated)
    (cond (row7 b) (Err Kind)
    (cond (row8 b) (Err Layout)
    (cond (row9 b) (Err Unordered)
    (Ok (parsed_of b)))))

-- rows 2 to 9 in their order, then the offsets
unfoldable pub parse_of : Bounds → List ℕ → Result Parsed Malformed
parse_of bounds b =
    cond (row2 bounds b) (Err Length)
    (cond (row3 b) (Err Version)
    (cond (row4 bounds b) (Err Author)
    (cond (row5 bounds b) (Err Predecessors)
    (operation_parse b))))

operation-back : (b : List ℕ) → operation_at b (offsets_of b) ≡ operation_of b
unfolding offsets_of operation_of named_of
operation-back b = go (eqb (kind_of b) 1) (eqb (kind_of b) 2) (eqb (kind_of b) 3)
  where
    go :
        (k l m : Bool) →
        operation_at b
        (cond k (Add (body_at b))
        (cond l (Remove (body_at b) (named_count_at b + 1) (named_count_of b))
        (cond m (Insert (body_at b) (body_at b + id_length)) (Delete (body_at b)))))
        ≡ cond k (U.Add (slice b (body_at b) tag_length))
        (cond l (U.Remove (slice b (body_at b) tag_length) (cond l (ids_at b (named_count_at b + 1) (named_count_of b)) []))
        (cond m (U.Insert (slice b (body_at b) id_length) (slice b (body_at b + id_length) tag_length)) (U.Delete (slice b (body_at b) id_length))))
    go true l m = refl
    go false true m = refl
    go false false true = refl
    go false false false = refl

-- the offsets lay out the update that the bytes are
pub value-back : (b : List ℕ) → value_of b (parsed_of b) ≡ update_of b
unfolding parsed_of update_of
value-back b = λ i. record { author = author_of b; preds = ids_at b first_predecessor (count_of b); op = operation-back b i }

-- the answer means what the bytes decode to
pub parse-decodes : (bounds : Bounds) (b : List ℕ) → decoded_of b (parse_of bounds b) ≡ decode bounds b
unfolding parse_of operation_parse decode
parse-decodes bounds b = go (row2 bounds b) (row3 b) (row4 bounds b) (row5 bounds b) (row6 b) (row7 b) (row8 b) (row9 b)
  where
    go :
        (a c d e f g h i : Bool) →
        decoded_of b
        (cond a (Err Length) (cond c (Err Version) (cond d (Err Author) (cond e (Err Predecessors)
        (cond f (Err Truncated) (cond g (Err Kind) (cond h (Err Layout) (cond i (Err Unordered) (Ok (parsed_of b))))))))))
        ≡ cond a (refused 2) (cond c (refused 3) (cond d (refused 4) (cond e (refused 5)
        (cond f (refused 6) (cond g (refused 7) (cond h (refused 8) (cond i (refused 9) (update (update_of b)))))))))
    go true c d e f g h i = refl
    go false true d e f g h i = refl
    go false false true e f g h i = refl
    go false false false true f g h i = refl
    go false false false false true g h i = refl
    go false false false false false true h i = refl
    go false false false false false false true i = refl
    go false false false false false false false true = refl
    go false false false false false false false false = ap update (value-back b)
