-- The key of set entries: it orders those whose tags have one length by tag, then by author as a number, and tells any two apart.
use Rattle.std.specs.Prelude.{ℕ, ◌≡◌, refl, Bool, true, false, ◌&&◌, ◌||◌, length, ltb, eqb}
use Rattle.std.proofs.Common.{arith, ◌∙◌, ap, length-append}
use mathlib.Core.List.{List, [], ◌∷◌, ◌++◌, head-eq_of_cons-eq, tail-eq_of_cons-eq}
use Rattle.bytes_order.specs.Order.{before, same}
use Rattle.bytes_order.specs.OrderLaws.{before-append}
use Rattle.bytes_order.specs.Distinct.{Identifies}
use Rattle.rules.specs.SetEntry.{SetEntry, entry_key, entry_before}

pub entry-order : (e f : SetEntry) → length e.tag ≡ length f.tag → before (entry_key e) (entry_key f) ≡ entry_before e f
unfolding entry_key before
entry-order e f h =
    before-append e.tag f.tag (e.author ∷ []) (f.author ∷ []) h
    ∙ ap (λ (b : Bool). before e.tag f.tag || (same e.tag f.tag && b)) (last (ltb e.author f.author) (eqb e.author f.author))
  where
    last : (p q : Bool) → (p || (q && false)) ≡ p
    last true q = refl
    last false true = refl
    last false false = refl

-- two lists, each with one more element at its end, are equal only where both the lists and the elements are
last-reads : (xs ys : List ℕ) {a b : ℕ} → xs ++ (a ∷ []) ≡ ys ++ (b ∷ []) → (xs ≡ ys) × (a ≡ b)
last-reads [] [] e = (refl, head-eq_of_cons-eq e)
last-reads [] (y ∷ ys) {b = b} e = let h = ap length e in let k = length-append ys (b ∷ []) in absurd (omega arith)
last-reads (x ∷ xs) [] {a = a} e = let h = ap length e in let k = length-append xs (a ∷ []) in absurd (omega arith)
last-reads (x ∷ xs) (y ∷ ys) e = let h = last-reads xs ys (tail-eq_of_cons-eq e) in (λ i. head-eq_of_cons-eq e i ∷ h.0 i, h.1)

pub entry-key-injective : (e f : SetEntry) → entry_key e ≡ entry_key f → e ≡ f
unfolding entry_key
entry-key-injective e f p = let h = last-reads e.tag f.tag p in λ i. record { tag = h.0 i; author = h.1 i }

pub entry-key-identifies : (es : List SetEntry) → Identifies entry_key es
entry-key-identifies es e f m n p = entry-key-injective e f p
