-- The rows of the table in their order: the number that is returned is that of the first row that applies.
use Prim.Native.Nat.{ℕ, zero, suc, ◌+◌, ◌≤◌, ◌<◌}
use Rattle.std.specs.Prelude.{◌≡◌, List, [], ◌∷◌, Bool, true, false, cond, length, get_or}
use Rattle.std.proofs.Math.Path.{refl, ap}
use Rattle.std.proofs.Common.{sym, ◌∙◌}
use Rattle.std.proofs.lemmas.Bool.{false≢true}
use native.Mathlib.Omega.{arith}
use Rattle.update_format.specs.declared.Bounds.{Bounds}
use Rattle.update_format.specs.Update.{Update}
use Rattle.update_format.specs.Decode.{row2, row3, row4, row5, row6, row7, row8, row9, update_of, Decoded, refused, update, decode}

-- the rows' tests, each at its number; rows 0 and 1 say nothing of the bytes
unfoldable pub rows : Bounds → List ℕ → List Bool
rows bounds b = false ∷ false ∷ row2 bounds b ∷ row3 b ∷ row4 bounds b ∷ row5 bounds b ∷ row6 b ∷ row7 b ∷ row8 b ∷ row9 b ∷ []

-- row k applies to the bytes
unfoldable pub applies : Bounds → ℕ → List ℕ → Bool
applies bounds k b = get_or (rows bounds b) k false

-- row k is the first that applies
pub record FirstRow (bounds : Bounds) (k : ℕ) (b : List ℕ) : Type 0 where
  pub hit : applies bounds k b ≡ true
  pub above : (j : ℕ) → 2 ≤ j → j < k → applies bounds j b ≡ false

-- the first of the tests that passes, counted from n, refuses
from : ℕ → List Bool → Update → Decoded
from n [] u = update u
from n (r ∷ rs) u = cond r (refused n) (from (suc n) rs u)

decode-from : (bounds : Bounds) (b : List ℕ) → decode bounds b ≡ from 0 (rows bounds b) (update_of b)
unfolding decode from rows
decode-from bounds b = refl

record Found (n : ℕ) (rs : List Bool) (k : ℕ) : Type 0 where
  place : ℕ
  number : k ≡ n + place
  inside : place < length rs
  passes : get_or rs place false ≡ true
  fails : (j : ℕ) → j < place → get_or rs j false ≡ false

fails_more : (rs : List Bool) (p : ℕ) → ((j : ℕ) → j < p → get_or rs j false ≡ false) → (j : ℕ) → j < suc p → get_or (false ∷ rs) j false ≡ false
fails_more rs p h zero l = refl
fails_more rs p h (suc j) l = h j (omega arith)

from-refused : (n : ℕ) (rs : List Bool) (u : Update) (k : ℕ) → from n rs u ≡ refused k → Found n rs k
unfolding from
from-refused n [] u k h = let z : ◌≡◌ {A = ℕ} 0 1 = cc in absurd (omega arith)
from-refused n (true ∷ rs) u k h =
    let e : n ≡ k = cc in
    record { place = 0; number = omega arith; inside = omega arith; passes = refl; fails = λ j l. absurd (omega arith) }
from-refused n (false ∷ rs) u k h =
    let f = from-refused (suc n) rs u k h in
    record {
      place = suc f.place;
      number = omega arith;
      inside = omega arith;
      passes = f.passes;
      fails = fails_more rs f.place f.fails;
    }

refused-from : (n : ℕ) (rs : List Bool) (u : Update) (i : ℕ) → get_or rs i false ≡ true → ((j : ℕ) → j < i → get_or rs j false ≡ false) → from n rs u ≡ refused (n + i)
unfolding from
refused-from n [] u i h m = absurd (false≢true h)
refused-from n (r ∷ rs) u zero h m = let e : n ≡ n + 0 = omega arith in rw h (ap refused e)
refused-from n (r ∷ rs) u (suc i) h m =
    let e : suc n + i ≡ n + suc i = omega arith in
    rw (m 0 (omega arith)) (refused-from (suc n) rs u i h (λ j l. m (suc j) (omega arith)) ∙ ap refused e)

from-update : (n : ℕ) (rs : List Bool) (u v : Update) → from n rs u ≡ update v → ((j : ℕ) → get_or rs j false ≡ false) × (u ≡ v)
unfolding from
from-update n [] u v h = (λ j. refl, cc)
from-update n (true ∷ rs) u v h = let z : ◌≡◌ {A = ℕ} 0 1 = cc in absurd (omega arith)
from-update n (false ∷ rs) u v h =
    let r = from-update (suc n) rs u v h in
    (all r.0, r.1)
  where
    all : ((j : ℕ) → get_or rs j false ≡ false) → (j : ℕ) → get_or (false ∷ rs) j false ≡ false
    all g zero = refl
    all g (suc j) = g j

module _ (bounds : Bounds) (b : List ℕ) where
  found : (k : ℕ) → decode bounds b ≡ refused k → Found 0 (rows bounds b) k
  found k h = from-refused 0 (rows bounds b) (update_of b) k (sym (decode-from bounds b) ∙ h)

  -- a refusal has the number of the first row that applies ..
  pub refused-first : (k : ℕ) → decode bounds b ≡ refused k → FirstRow bounds k b
  unfolding applies
  refused-first k h =
      let f = found k h in
      let e : k ≡ f.place = omega arith in
      record { hit = rw e f.passes; above = λ j l m. f.fails j (omega arith) }

  all_above : (k : ℕ) → FirstRow bounds k b → (j : ℕ) → j < k → applies bounds j b ≡ false
  unfolding applies rows
  all_above k h zero l = refl
  all_above k h (suc zero) l = refl
  all_above k h (suc (suc j)) l = h.above (suc (suc j)) (omega arith) l

  -- .. and where a row is the first that applies, its number is returned
  pub first-refused : (k : ℕ) → FirstRow bounds k b → decode bounds b ≡ refused k
  unfolding applies
  first-refused k h =
      let e : 0 + k ≡ k = omega arith in
      decode-from bounds b ∙ refused-from 0 (rows bounds b) (update_of b) k h.hit (all_above k h) ∙ ap refused e

  from-two : (k : ℕ) → applies bounds k b ≡ true → 2 ≤ k
  unfolding applies rows
  from-two zero h = absurd (false≢true h)
  from-two (suc zero) h = absurd (false≢true h)
  from-two (suc (suc k)) h = omega arith

  -- no other number is returned
  pub refused-range : (k : ℕ) → decode bounds b ≡ refused k → (2 ≤ k) × (k ≤ 9)
  unfolding rows
  refused-range k h =
      let f = found k h in
      let n : f.place < 10 = f.inside in
      (from-two k (refused-first k h).hit, omega arith)

  -- where no row applies the update is returned
  pub update-none : (u : Update) → decode bounds b ≡ update u → ((k : ℕ) → applies bounds k b ≡ false) × (update_of b ≡ u)
  unfolding applies
  update-none u h = from-update 0 (rows bounds b) (update_of b) u (sym (decode-from bounds b) ∙ h)
