-- What a bundle answers, from what the calls within it answered.
use mathlib.Core.Path.{◌≡◌, refl, sym, ap, subst, ◌∙◌}
use Prim.Native.Nat.{ℕ, ◌*◌, ◌≤◌, ◌<◌}
use native.Mathlib.Omega.{arith}
use mathlib.Core.List.{List}
use Rattle.std.specs.Prelude.{Option, None, Some}
use mathlib.Core.Bool.{true}
use lib.ListN.{length}
use Rattle.bundle_format.specs.Bundle.{most_items, items_of}
use Rattle.bundle_format.proofs.BundleLaws.{some_one, items-few}
use Rattle.bundle_format.specs.Counted.{length_of}
use Rattle.ledger_state.specs.declared.Ledger.{Ledger}
use Rattle.ledger_state.specs.View.{book_of}
use Rattle.ledger_state.specs.Row1.{sound}
use Rattle.ledger_refusals.specs.Numbers.{row11_number, row13_number, put_bytes, refused_by}
use Rattle.bundle_answers.specs.AnswerBytes.{answer_length}
use Rattle.bundle_offering.specs.Bundle.{BundleRow, no_bundle, short, answered, Offerable, AllOffered}

-- by what counting the items answered
none-counted : (o : Option (List (List ℕ))) → None ≡ length_of o → o ≡ None
none-counted None e = refl
none-counted (Some xs) e = let z : ◌≡◌ {A = ℕ} 0 1 = cc in absurd (omega arith)

some-counted : (o : Option (List (List ℕ))) {n : ℕ} → Some n ≡ length_of o → (xs : List (List ℕ)) × (o ≡ Some xs)
some-counted None e = let z : ◌≡◌ {A = ℕ} 0 1 = cc in absurd (omega arith)
some-counted (Some xs) e = (xs, refl)

module _ (l : Ledger) (s b o : List ℕ) (fits : sound (book_of l) s ≡ true) {r : Option ℕ} (counted : r ≡ length_of (items_of b)) where
  pub bundle-none : r ≡ None → BundleRow l s b o (refused_by row13_number) l s o
  bundle-none h = no_bundle fits (none-counted (items_of b) (sym h ∙ counted))

  module _ {n : ℕ} (is : r ≡ Some n) where
    has-items : (xs : List (List ℕ)) × (items_of b ≡ Some xs)
    has-items = some-counted (items_of b) (sym is ∙ counted)

    number_of : {xs : List (List ℕ)} → items_of b ≡ Some xs → n ≡ length xs
    number_of e = some_one (sym is ∙ counted ∙ ap length_of e)

    pub number-few : n ≤ most_items
    number-few = subst (λ (k : ℕ). k ≤ most_items) (sym (number_of has-items.1)) (items-few most_items b has-items.0 has-items.1)

    pub bundle-short : length o < answer_length * n → BundleRow l s b o (refused_by row11_number) l s o
    bundle-short h = short has-items.0 fits has-items.1 (subst (λ (k : ℕ). length o < answer_length * k) (number_of has-items.1) h)

    pub bundle-offerable : answer_length * n ≤ length o → Offerable (book_of l) s b n o
    bundle-offerable h =
        record {
          is_sound = fits;
          items = has-items.0;
          read = has-items.1;
          number = number_of has-items.1;
          fits = subst (λ (k : ℕ). answer_length * k ≤ length o) (number_of has-items.1) h;
        }

    pub bundle-answered : answer_length * n ≤ length o → {l' : Ledger} {s' o' : List ℕ} → AllOffered l s b o l' s' o'
        → BundleRow l s b o (put_bytes (answer_length * n)) l' s' o'
    bundle-answered h {l'} {s'} a =
        let k : n ≡ length a.items = number_of a.read in
        rw (k, a.written)
        (answered a.items a.answers l' s' fits a.read (subst (λ (j : ℕ). answer_length * j ≤ length o) k h) a.calls)
