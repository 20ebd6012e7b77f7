-- The runs of bytes from an index on: the asked ids, and the stored ones.
use Rattle.std.specs.Prelude.{ℕ, zero, suc, ◌+◌, ◌*◌, ◌<◌, ◌≡◌, refl, List, [], ◌∷◌, ◌++◌, length, get_or, take, drop}
use Rattle.std.proofs.Common.{sym, ap, ap₂, ◌∙◌, arith, drop-drop, drop-cons, take-take}
use Rattle.std.proofs.Math.Seq.{take-nil}
use Rattle.update_format.specs.Update.{id_length, Id}
use Rattle.update_format.specs.Decode.{slice, id_count, ids_in}
use Rattle.update_format.specs.Slices.{ids-length, ids-get}
use Rattle.lookup_merge.specs.Merge.{Stored}
use Rattle.lookup_merge.specs.Layout.{stored_in}

-- the asked id at index j, and those after it
pub asked-from : (a : List ℕ) (j : ℕ) → j < id_count a → drop j (ids_in a) ≡ slice a (0 + id_length * j) id_length ∷ drop (suc j) (ids_in a)
asked-from a j h =
    drop-cons (ids_in a) j [] (omega (arith, ids-length a 0 (id_count a)))
    ∙ ap (λ (i : Id). i ∷ drop (suc j) (ids_in a)) (ids-get a 0 (id_count a) j h)

-- what stands at no index
abbrev no_stored : Stored
no_stored = record { id = []; byte = 0 }

pub stored-length : (ids bs : List ℕ) → length (stored_in ids bs) ≡ length bs
unfolding stored_in
stored-length ids [] = refl
stored-length ids (b ∷ bs) = ap suc (stored-length (drop id_length ids) bs)

stored-get : (ids bs : List ℕ) (i : ℕ) → i < length bs → get_or (stored_in ids bs) i no_stored ≡ record { id = slice ids (0 + id_length * i) id_length; byte = get_or bs i 0 }
unfolding stored_in
stored-get ids [] i h = absurd (omega arith)
stored-get ids (b ∷ bs) zero h = refl
stored-get ids (b ∷ bs) (suc i) h =
    let e : id_length + (0 + id_length * i) ≡ 0 + id_length * suc i = omega arith in
    let f : drop (0 + id_length * i) (drop id_length ids) ≡ drop (0 + id_length * suc i) ids = drop-drop (0 + id_length * i) id_length ids ∙ ap (λ (n : ℕ). drop n ids) e in
    stored-get (drop id_length ids) bs i (omega arith) ∙ ap (λ (r : List ℕ). record { id = take id_length r; byte = get_or bs i 0 }) f

-- the stored id at index i, and those after it
pub stored-from : (ids bs : List ℕ) (i : ℕ) → i < length bs
    → drop i (stored_in ids bs) ≡ record { id = slice ids (0 + id_length * i) id_length; byte = get_or bs i 0 } ∷ drop (suc i) (stored_in ids bs)
stored-from ids bs i h =
    drop-cons (stored_in ids bs) i no_stored (omega (arith, stored-length ids bs))
    ∙ ap (λ (x : Stored). x ∷ drop (suc i) (stored_in ids bs)) (stored-get ids bs i h)

drop-take : (n m : ℕ) (l : List ℕ) → drop n (take (n + m) l) ≡ take m (drop n l)
drop-take zero m l = let e : 0 + m ≡ m = omega arith in ap (λ (k : ℕ). take k l) e
drop-take (suc n) m [] = ap (drop (suc n)) (take-nil (suc n + m)) ∙ sym (take-nil m)
drop-take (suc n) m (x ∷ l) = let e : suc n + m ≡ suc (n + m) = omega arith in ap (λ (k : ℕ). drop (suc n) (take k (x ∷ l))) e ∙ drop-take n m l

-- only the bytes of as many ids as there are standings count
pub stored-take : (ids bs : List ℕ) → stored_in ids bs ≡ stored_in (take (id_length * length bs) ids) bs
unfolding stored_in
stored-take ids [] = refl
stored-take ids (b ∷ bs) =
    let e : id_length * suc (length bs) ≡ id_length + id_length * length bs = omega arith in
    let front : take id_length ids ≡ take id_length (take (id_length + id_length * length bs) ids) = sym (take-take id_length (id_length + id_length * length bs) ids (omega arith)) in
    let rest : drop id_length (take (id_length + id_length * length bs) ids) ≡ take (id_length * length bs) (drop id_length ids) = drop-take id_length (id_length * length bs) ids in
    rw e
    (ap₂ (λ (i : Id) (xs : List Stored). record { id = i; byte = b } ∷ xs) front
    (stored-take (drop id_length ids) bs ∙ ap (λ (r : List ℕ). stored_in r bs) (sym rest)))

-- one more
pub stored-then : (ids bs : List ℕ) (b : ℕ) → stored_in ids (bs ++ (b ∷ [])) ≡ stored_in ids bs ++ (record { id = slice ids (id_length * length bs) id_length; byte = b } ∷ [])
unfolding stored_in
stored-then ids [] b = refl
stored-then ids (c ∷ bs) b =
    let e : id_length + id_length * length bs ≡ id_length * suc (length bs) = omega arith in
    ap (λ (xs : List Stored). record { id = take id_length ids; byte = c } ∷ xs)
    (stored-then (drop id_length ids) bs b
    ∙ ap (λ (r : List ℕ). stored_in (drop id_length ids) bs ++ (record { id = take id_length r; byte = b } ∷ []))
    (drop-drop (id_length * length bs) id_length ids ∙ ap (λ (n : ℕ). drop n ids) e))
