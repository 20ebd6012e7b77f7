-- A place put after an id: at the index after the first entry with it.
use Prim.Native.Nat.{ℕ, suc, ◌+◌, ◌≤◌, ◌<◌}
use mathlib.Core.Path.{◌≡◌, refl, ap, subst, ◌∙◌}
use mathlib.Core.List.{List, [], ◌∷◌}
use mathlib.Core.Bool.{Bool, true, false, not, cond}
use native.Mathlib.Omega.{arith}
use borrow.Author.Tests.{ltb-true, ltb-false}
use lib.Dec.{ltb}
use lib.ListN.{length}
use Rattle.std.specs.List.{position_or_len}
use Rattle.std.specs.Option.{MatchOption}
use Rattle.std.specs.Prelude.{Option, None, Some}
use Rattle.bytes_order.specs.Order.{same}
use Rattle.ledger_state.specs.State.{Book}
use Rattle.ledger_relations.specs.PlaceTests.{id_at}
use Rattle.ledger_sorting.specs.PlaceLists.{ins}
use Rattle.report_parts.specs.PlaceParts.{after}

module _ (l : Book) (s a : List ℕ) where
  -- whether the entry has the id, and the index of the first one with it
  abbrev pub has_id : ℕ → Bool
  has_id k = same (id_at l s k) a

  abbrev first : List ℕ → ℕ
  first xs = position_or_len has_id xs

  after-first : (e : ℕ) (xs : List ℕ) → first xs < length xs → ins (first xs + 1) e xs ≡ after l s a e xs
  unfolding after
  after-first e [] h = absurd (omega arith)
  after-first e (x ∷ xs) h = step (has_id x) h (after-first e xs)
    where
      step : (b : Bool) → cond (not b) (1 + first xs) 0 < suc (length xs) → (first xs < length xs → ins (first xs + 1) e xs ≡ after l s a e xs)
          → ins (cond (not b) (1 + first xs) 0 + 1) e (x ∷ xs) ≡ cond b (x ∷ e ∷ xs) (x ∷ after l s a e xs)
      step true h f = refl
      step false h f =
          let n : (1 + first xs) + 1 ≡ suc (first xs + 1) = omega arith in
          ap (λ (m : ℕ). ins m e (x ∷ xs)) n ∙ ap (λ (ys : List ℕ). x ∷ ys) (f (omega arith))

  after-none : (e : ℕ) (xs : List ℕ) → length xs ≤ first xs → ins (length xs) e xs ≡ after l s a e xs
  unfolding after
  after-none e [] h = refl
  after-none e (x ∷ xs) h = step (has_id x) h (after-none e xs)
    where
      step : (b : Bool) → suc (length xs) ≤ cond (not b) (1 + first xs) 0 → (length xs ≤ first xs → ins (length xs) e xs ≡ after l s a e xs)
          → ins (suc (length xs)) e (x ∷ xs) ≡ cond b (x ∷ e ∷ xs) (x ∷ after l s a e xs)
      step true h f = absurd (omega arith)
      step false h f = ap (λ (ys : List ℕ). x ∷ ys) (f (omega arith))

  -- the index after what `position` found, or the end
  pub after-position : (xs : List ℕ) (o : Option ℕ) (r : ℕ) {P : ℕ → Type 0} → o ≡ cond (ltb (first xs) (length xs)) (Some (first xs)) None
      → MatchOption o (r ≡ length xs) P → ((x : ℕ) → P x → r ≡ x + 1) → (r ≤ length xs) × ((e : ℕ) → ins r e xs ≡ after l s a e xs)
  after-position xs o r {P} found m f = step (ltb (first xs) (length xs)) refl found
    where
      step : (b : Bool) → ltb (first xs) (length xs) ≡ b → o ≡ cond b (Some (first xs)) None → (r ≤ length xs) × ((e : ℕ) → ins r e xs ≡ after l s a e xs)
      step true t e =
          let h = ltb-true (first xs) (length xs) t in
          let n = f (first xs) (subst (λ (o : Option ℕ). MatchOption o (r ≡ length xs) P) e m) in
          (omega (arith, h, n), λ k. ap (λ (i : ℕ). ins i k xs) n ∙ after-first k xs h)
      step false t e =
          let h = ltb-false (first xs) (length xs) t in
          let n : r ≡ length xs = subst (λ (o : Option ℕ). MatchOption o (r ≡ length xs) P) e m in
          (omega (arith, n), λ k. ap (λ (i : ℕ). ins i k xs) n ∙ after-none k xs h)
