-- How two strings of one length, each followed by another, stand to each other; and the order and the equality of std are those of this crate.
use Rattle.std.specs.Prelude.{ℕ, ◌≡◌, refl, List, [], ◌∷◌, ◌++◌, Bool, true, false, cond, ◌&&◌, ◌||◌, length, ltb, eqb, nat_eq}
use Rattle.std.specs.Cmp.Lexicographic.{slice_cmp, pointwise}
use Rattle.std.specs.declared.cmp.Ordering.TheVariants.{Less, Equal, Greater}
use Rattle.std.specs.Ordering.{nat_cmp}
use Rattle.std.proofs.Common.{sym, ◌∙◌, ap, ap₂}
use Rattle.bytes_order.specs.Order.{before, same}
use Rattle.bytes_order.specs.OrderLaws.{before-append, same-append}
use Rattle.bytes_order.specs.Compare.{order_of, then_by}

-- the order of two strings by their first bytes, and where these are equal by the rest: l and e say whether the first byte of one is less than and
-- equal to that of the other, p and s whether the rest comes before and is the same
step : (l e p s : Bool) → then_by (cond l Less (cond e Equal Greater)) (cond p Less (cond s Equal Greater)) ≡ cond (l || (e && p)) Less (cond (e && s) Equal Greater)
step true e p s = refl
step false true p s = refl
step false false p s = refl

pub order-append : (a b c d : List ℕ) → length a ≡ length b → order_of (a ++ c) (b ++ d) ≡ then_by (order_of a b) (order_of c d)
unfolding order_of
order-append a b c d h =
    ap₂ (λ (p q : Bool). cond p Less (cond q Equal Greater)) (before-append a b c d h) (same-append a b c d h)
    ∙ sym (step (before a b) (same a b) (before c d) (same c d))

-- what `a.cmp(b)` is
pub cmp_is_order : (a b : List ℕ) → slice_cmp nat_cmp a b ≡ order_of a b
unfolding order_of before same
cmp_is_order [] [] = refl
cmp_is_order [] (y ∷ ys) = refl
cmp_is_order (x ∷ xs) [] = refl
cmp_is_order (x ∷ xs) (y ∷ ys) = ap (then_by (nat_cmp x y)) (cmp_is_order xs ys) ∙ step (ltb x y) (eqb x y) (before xs ys) (same xs ys)

-- what `a == b` is
pub eq_is_same : (a b : List ℕ) → pointwise nat_eq a b ≡ same a b
unfolding same
eq_is_same [] [] = refl
eq_is_same [] (y ∷ ys) = refl
eq_is_same (x ∷ xs) [] = refl
eq_is_same (x ∷ xs) (y ∷ ys) = ap (λ (r : Bool). eqb x y && r) (eq_is_same xs ys)
