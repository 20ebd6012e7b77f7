-- A walk over the numbers below n: what `all` and `find` over a range yield.
use Rattle.std.proofs.Common.{◌≡◌, refl, ap, ap₂, ◌∙◌, ℕ, zero, suc, ◌+◌, Bool, true, false, ◌&&◌, arith}
use Rattle.std.specs.Prelude.{Option, None, Some, cond}
use Rattle.std.specs.Option.{option_map}
use Rattle.std.specs.List.{list_all, find, range_with_len}
use Rattle.bitset.specs.Below.{all_below, first_below, or_else}

and-assoc : (a b c : Bool) → (a && (b && c)) ≡ ((a && b) && c)
and-assoc true b c = refl
and-assoc false b c = refl

all-last : (p : ℕ → Bool) (a n : ℕ) → list_all p (range_with_len a (suc n)) ≡ (list_all p (range_with_len a n) && p (a + n))
all-last p a zero = and-true (p a) ∙ ap p (omega arith)
  where
    and-true : (b : Bool) → (b && true) ≡ b
    and-true true = refl
    and-true false = refl
all-last p a (suc n) =
    ap (λ (x : Bool). p a && x) (all-last p (a + 1) n ∙ ap (λ (m : ℕ). list_all p (range_with_len (a + 1) n) && p m) (omega arith))
    ∙ and-assoc (p a) (list_all p (range_with_len (a + 1) n)) (p (a + suc n))

pub all_range : (p : ℕ → Bool) (n : ℕ) → list_all p (range_with_len 0 n) ≡ all_below n p
unfolding all_below
all_range p zero = refl
all_range p (suc n) = all-last p 0 n ∙ ap₂ (λ (x : Bool) (m : ℕ). x && p m) (all_range p n) (omega arith)

-- the first of the numbers that passes
or-else-cond : (b : Bool) (k : ℕ) (x y : Option ℕ) → cond b (Some k) (or_else x y) ≡ or_else (cond b (Some k) x) y
unfolding or_else
or-else-cond true k x y = refl
or-else-cond false k x y = refl

find-last : (p : ℕ → Bool) (a n : ℕ) → find p (range_with_len a (suc n)) ≡ or_else (find p (range_with_len a n)) (cond (p (a + n)) (Some (a + n)) None)
unfolding or_else
find-last p a zero = ap (λ (m : ℕ). cond (p m) (Some m) None) (omega arith)
find-last p a (suc n) =
    ap (λ (x : Option ℕ). cond (p a) (Some a) x)
    (find-last p (a + 1) n
    ∙ ap (λ (m : ℕ). or_else (find p (range_with_len (a + 1) n)) (cond (p m) (Some m) None)) (omega arith))
    ∙ or-else-cond (p a) a (find p (range_with_len (a + 1) n)) (cond (p (a + suc n)) (Some (a + suc n)) None)

pub find_range : (p : ℕ → Bool) (n : ℕ) → find p (range_with_len 0 n) ≡ first_below n p
unfolding first_below
find_range p zero = refl
find_range p (suc n) = find-last p 0 n ∙ ap₂ (λ (x : Option ℕ) (m : ℕ). or_else x (cond (p m) (Some m) None)) (find_range p n) (omega arith)

pub option-same : (r : Option ℕ) → option_map (λ (x : ℕ). x) r ≡ r
option-same None = refl
option-same (Some k) = refl
