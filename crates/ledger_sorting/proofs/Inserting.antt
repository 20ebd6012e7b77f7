-- A place put into a list of places.
use Prim.Native.Nat.{ℕ, zero, suc, ◌+◌, ◌≤◌, ◌<◌}
use mathlib.Core.Path.{◌≡◌, sym, ap, ap₂, subst, ◌∙◌}
use mathlib.Core.List.{List, [], ◌∷◌, ◌++◌, append_assoc}
use mathlib.Core.Bool.{Bool, true}
use native.Mathlib.Omega.{arith}
use native.Mathlib.Numerals.{add-one}
use lib.ListN.{length, get_or, take, drop, length-append, drop_of_length-le}
use lib.Seq.{length-take-le, take-suc, drop-cons, take_all, get_or-take}
use Rattle.std.proofs.Common.{length-drop, length-take}
use Rattle.bytes_order.specs.Member.{all}
use Rattle.bytes_order.specs.BoolLaws.{and-true→}
use Rattle.ledger_state.specs.State.{places}
use Rattle.ledger_sorting.specs.PlaceLists.{Places, ins, PlaceList, Lists, RoomFor}

all-get : (p : ℕ → Bool) (xs : List ℕ) (i : ℕ) → all p xs ≡ true → i < length xs → p (get_or xs i 0) ≡ true
unfolding all
all-get p [] i a h = absurd (omega arith)
all-get p (x ∷ xs) zero a h = (and-true→ (p x) (all p xs) a).0
all-get p (x ∷ xs) (suc i) a h = all-get p xs i (and-true→ (p x) (all p xs) a).1 (omega arith)

-- each is a place, also where a place is put among them
each-ins : (at k : ℕ) (xs : List ℕ) → ((i : ℕ) → i < length xs → get_or xs i 0 < places) → k < places
    → (i : ℕ) → i < length (ins at k xs) → get_or (ins at k xs) i 0 < places
each-ins zero k xs e h zero g = h
each-ins zero k xs e h (suc i) g = e i (omega arith)
each-ins (suc at) k [] e h zero g = h
each-ins (suc at) k [] e h (suc i) g = absurd (omega arith)
each-ins (suc at) k (x ∷ xs) e h zero g = e 0 (omega arith)
each-ins (suc at) k (x ∷ xs) e h (suc i) g = each-ins at k xs (λ j n. e (suc j) (omega arith)) h i (omega arith)

-- one place further
pub shift : (xs zs : List ℕ) (i y : ℕ) → take (i + 1) xs ≡ take i xs ++ (y ∷ []) → take i xs ++ (y ∷ zs) ≡ take (i + 1) xs ++ zs
shift xs zs i y e = sym (ap (λ (a : List ℕ). a ++ zs) e ∙ append_assoc (take i xs) (y ∷ []) zs)

-- the places by another name
pub renamed : {o : Places} {xs ys : List ℕ} → xs ≡ ys → Lists o xs → Lists o ys
renamed e a = record { is_list = a.is_list; are = a.are ∙ e }

-- one place more
pub length-ins : (at k : ℕ) (xs : List ℕ) → at ≤ length xs → length (ins at k xs) ≡ length xs + 1
length-ins at k xs h = omega (arith, length-append (take at xs) (k ∷ drop at xs), length-take-le at xs h, length-drop at xs)

-- a list into which a place was put, where it had room
pub inserted : {o o' : Places} (at k : ℕ) → RoomFor o k → at ≤ length o.items → o'.items ≡ ins at k o.items → Lists o' (ins at k o.items)
inserted {o} at k r h e =
    record {
      is_list = subst PlaceList (sym e)
          (record { room = omega (arith, r.room, length-ins at k o.items h); inside = each-ins at k o.items r.is_list.inside r.place_within });
      are = e;
    }

module _ (xs : List ℕ) (i : ℕ) where
  -- the i-th place
  abbrev nth : ℕ
  nth = get_or xs i 0

  pub next : i < length xs → drop i xs ≡ nth ∷ drop (i + 1) xs
  next h = rw add-one (drop-cons xs i 0 h)

  pub passed : i < length xs → take (i + 1) xs ≡ take i xs ++ (nth ∷ [])
  passed h = rw add-one (take-suc xs i 0 h)

  pub ended : length xs ≤ i → drop i xs ≡ []
  ended h = drop_of_length-le xs {i = i} h

  pub listed-passes : (p : ℕ → Bool) → all p xs ≡ true → i < length xs → p nth ≡ true
  listed-passes p a h = all-get p xs i a h

  pub below : PlaceList xs → i < length xs → nth < places
  below s h = s.inside i h

-- at the end
pub ins-end : (xs : List ℕ) (k : ℕ) → ins (length xs) k xs ≡ xs ++ (k ∷ [])
ins-end xs k = ap₂ (λ (a b : List ℕ). a ++ (k ∷ b)) (take_all (length xs) xs (omega arith)) (drop_of_length-le xs {i = length xs} (omega arith))

-- a list to which a place was added at the end, where it had room
pub pushed : {o o' : Places} {k : ℕ} → RoomFor o k → o'.items ≡ o.items ++ (k ∷ []) → Lists o' (o.items ++ (k ∷ []))
pushed {o} {k = k} r e =
    let f = ins-end o.items k in
    renamed f (inserted (length o.items) k r (omega arith) (e ∙ sym f))

-- the first n of a list
pub first-list : (n : ℕ) (xs : List ℕ) → PlaceList xs → PlaceList (take n xs)
first-list n xs s =
    record {
      room = omega (arith, s.room, length-take n xs);
      inside = λ i h.
          let k : i < n = omega (arith, length-take n xs) in
          let g : i < length xs = omega (arith, length-take n xs) in
          subst (λ (x : ℕ). x < places) (sym (get_or-take n xs i 0 k)) (s.inside i g);
    }
