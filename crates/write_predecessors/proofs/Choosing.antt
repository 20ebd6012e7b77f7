-- The choice of the predecessors, by lists of places.
use Rattle.std.proofs.Common.{◌≡◌, refl, sym, ap, ◌∙◌, subst, ℕ, ◌+◌, ◌-◌, ◌≤◌, ◌<◌, List, [], ◌∷◌, ◌++◌, Bool, true, false, cond, length, get_or, set, take, arith, lt-ltb, le-ltb, le-leb, length-take}
use Rattle.std.proofs.Math.Seq.{take_all}
use Rattle.std.proofs.lemmas.Bool.{lt-leb}
use Rattle.ledger_sorting.proofs.Keeping.{keep-yes, keep-nothing}
use Rattle.ledger_sorting.proofs.Inserting.{below}
use Rattle.std.proofs.lemmas.Grind.{get_or_default_zero}
use Rattle.ledger_state.specs.Asked.{TwoPlaces}
use Rattle.std.proofs.Math.Dec.{leb}
use Rattle.std.specs.Prelude.{Option, None, Some}
use Rattle.std.specs.List.{position, position_or_len}
use Rattle.std.proofs.lemmas.List.{take_more, take_more_set}
use Rattle.std.proofs.lemmas.List.Sums.{position_or_len_is}
use Rattle.bytes_order.specs.Member.{keep}
use Rattle.bytes_order.specs.MemberLaws.{keep_append, keep-length, get_or-∈}
use Rattle.rules.specs.CausalOrder.{same_or_before}
use Rattle.bitset.specs.Below.{first_below}
use Rattle.bitset.specs.BelowLaws.{first_below-some→, first_below-none→}
use Rattle.ledger_state.specs.State.{places, Book}
use Rattle.ledger_state.specs.PlaceOrder.{order_at}
use Rattle.ledger_relations.specs.PlaceTests.{head_at, id_order}
use Rattle.ledger_sorting.specs.PlaceLists.{PlaceList}
use Rattle.write_highest.specs.Top.{top_below}
use Rattle.write_predecessors.specs.Choose.{heads_of, above_at, most_with, most_for, chosen_places}
use Rattle.write_predecessors.specs.ShapeLaws.{head-taken, chosen-nameable}

-- the places that pass, one after the other
module _ (p : ℕ → Bool) (xs : List ℕ) where
  pub none_kept : [] ≡ keep p (take 0 xs)
  unfolding keep
  none_kept = refl

  pub kept_few : (i : ℕ) → length (keep p (take i xs)) ≤ i
  kept_few i = omega (arith, keep-length p (take i xs), length-take i xs)

  module _ (i : ℕ) (h : i < length xs) where
    kept-more : keep p (take i xs) ++ keep p (get_or xs i 0 ∷ []) ≡ keep p (take (i + 1) xs)
    kept-more = sym (keep_append p (take i xs) (get_or xs i 0 ∷ [])) ∙ ap (keep p) (sym (take_more xs i 0 h))

    pub kept_yes : {b : Bool} → b ≡ p (get_or xs i 0) → b ≡ true → keep p (take i xs) ++ (get_or xs i 0 ∷ []) ≡ keep p (take (i + 1) xs)
    kept_yes e f = keep-yes p (keep p (take i xs)) (get_or xs i 0) e f ∙ kept-more

    pub kept_no : {b : Bool} → b ≡ p (get_or xs i 0) → b ≡ false → keep p (take i xs) ≡ keep p (take (i + 1) xs)
    kept_no e f = keep-nothing p (keep p (take i xs)) (get_or xs i 0) e f ∙ kept-more

-- the first place that passes, by its index
pub first-position : (p : ℕ → Bool) (xs : List ℕ) → position p xs ≡ first_below (length xs) (λ j. p (get_or xs j 0))
first-position p xs = go (first_below (length xs) (λ j. p (get_or xs j 0))) refl
  where
    go : (o : Option ℕ) → first_below (length xs) (λ j. p (get_or xs j 0)) ≡ o → position p xs ≡ o
    go None e =
        let n : position_or_len p xs ≡ length xs =
        position_or_len_is p xs (length xs) 0 (omega arith) (first_below-none→ (length xs) (λ j. p (get_or xs j 0)) e) (λ h. absurd (omega arith)) in
        rw (n, le-ltb (length xs) (length xs) (omega arith))
    go (Some k) e =
        let f = first_below-some→ (length xs) (λ j. p (get_or xs j 0)) e in
        let n : position_or_len p xs ≡ k = position_or_len_is p xs k 0 (omega (arith, f.0)) f.2 (λ h. f.1) in
        rw (n, lt-ltb k (length xs) f.0)

-- t is a place, and x one of a list of places
pub two_places : (xs : List ℕ) (t x k : ℕ) → PlaceList xs → t < places → k < length xs → x ≡ get_or xs k x → TwoPlaces t x
two_places xs t x k s h g e = record { first_within = h; second_within = subst (λ (y : ℕ). y < places) (sym (e ∙ get_or_default_zero xs k x g)) (below xs k s g) }

module _ (l : Book) (s : List ℕ) where
  -- the heads are places
  pub heads-listed : l.used ≤ places → (xs : List ℕ) → PlaceList xs → xs ≡ id_order l s → PlaceList (heads_of l s)
  unfolding heads_of
  heads-listed h xs list e = record {
    room = omega (arith, list.room, ap length e, keep-length (head_at l s) (id_order l s));
    inside = λ i g. let t = head-taken l s (get_or-∈ (heads_of l s) i 0 g) in omega arith;
  }

  pub heads-end : (xs : List ℕ) (i : ℕ) → length xs ≤ i → xs ≡ id_order l s → keep (head_at l s) (take i xs) ≡ heads_of l s
  unfolding heads_of
  heads-end xs i h e = ap (keep (head_at l s)) (take_all i xs h ∙ e)

  -- the places chosen are places
  pub chosen-listed : 0 < l.terms.bounds.predecessors → l.terms.bounds.predecessors ≤ places → l.used ≤ places → (a : ℕ) → PlaceList (chosen_places l s a)
  chosen-listed one few h a =
      let c = chosen-nameable l s one a in
      record {
        room = omega (arith, c.few);
        inside = λ i g. let t = head-taken l s (c.among (get_or (chosen_places l s a) i 0) (get_or-∈ (chosen_places l s a) i 0 g)) in omega arith;
      }

  -- the first head at or above place t
  pub above-position : (t : ℕ) (xs : List ℕ) → xs ≡ heads_of l s
      → position (λ (h : ℕ). same_or_before (order_at l t h)) xs ≡ first_below (length (heads_of l s)) (above_at l s t)
  unfolding above_at
  above-position t xs e =
      first-position (λ (h : ℕ). same_or_before (order_at l t h)) xs
      ∙ ap (λ (ys : List ℕ). first_below (length ys) (λ j. same_or_before (order_at l t (get_or ys j 0)))) e

  -- as many of the heads as an update names
  module _ (xs : List ℕ) (are : xs ≡ heads_of l s) (t : ℕ) where
    abbrev most : ℕ
    most = l.terms.bounds.predecessors

    abbrev above : Option ℕ
    above = first_below (length (heads_of l s)) (above_at l s t)

    pub above-within : {j : ℕ} → above ≡ Some j → j < length xs
    above-within e = omega (arith, (first_below-some→ (length (heads_of l s)) (above_at l s t) e).0, ap length are)

    pub most-none : above ≡ None → take most xs ≡ most_for l s (Some t)
    unfolding most_for most_with
    most-none e = ap (take most) are ∙ ap (most_with l s) (sym e)

    pub most-low : (j : ℕ) → above ≡ Some j → j < most → take most xs ≡ most_for l s (Some t)
    unfolding most_for most_with
    most-low j e h =
        ap (take most) are
        ∙ sym
        (ap (most_with l s) e
        ∙ ap (λ (b : Bool). cond b (take most (heads_of l s)) (take (most - 1) (heads_of l s) ++ (get_or (heads_of l s) j 0 ∷ []))) (lt-ltb j most h))

    pub most-high : 0 < most → (j : ℕ) → above ≡ Some j → most ≤ j → take most (set xs (most - 1) (get_or xs j 0)) ≡ most_for l s (Some t)
    unfolding most_for most_with
    most-high one j e h =
        ap (λ (n : ℕ). take n (set xs (most - 1) (get_or xs j 0))) (omega arith)
        ∙ take_more_set xs (most - 1) (get_or xs j 0) (omega (arith, above-within e))
        ∙ ap (λ (ys : List ℕ). take (most - 1) ys ++ (get_or ys j 0 ∷ [])) are
        ∙ sym
        (ap (most_with l s) e
        ∙ ap (λ (b : Bool). cond b (take most (heads_of l s)) (take (most - 1) (heads_of l s) ++ (get_or (heads_of l s) j 0 ∷ []))) (le-ltb j most h))

  module _ (xs : List ℕ) (are : xs ≡ heads_of l s) (a : ℕ) where
    chosen_by : {b : Bool} → leb (length (heads_of l s)) l.terms.bounds.predecessors ≡ b → chosen_places l s a ≡ cond b (heads_of l s) (most_for l s (top_below l s a l.used))
    unfolding chosen_places
    chosen_by e = ap (λ (b : Bool). cond b (heads_of l s) (most_for l s (top_below l s a l.used))) e

    pub chosen-few : length xs ≤ l.terms.bounds.predecessors → xs ≡ chosen_places l s a
    chosen-few h = are ∙ sym (chosen_by (le-leb (length (heads_of l s)) l.terms.bounds.predecessors (omega (arith, ap length are))))

    pub chosen-many : (t : Option ℕ) → l.terms.bounds.predecessors < length xs → top_below l s a l.used ≡ t → most_for l s t ≡ chosen_places l s a
    chosen-many t h e =
        ap (most_for l s) (sym e) ∙ sym (chosen_by (lt-leb (length (heads_of l s)) l.terms.bounds.predecessors (omega (arith, ap length are))))

    pub chosen-lowest : l.terms.bounds.predecessors < length xs → top_below l s a l.used ≡ None → take l.terms.bounds.predecessors xs ≡ chosen_places l s a
    unfolding most_for
    chosen-lowest h e = ap (take l.terms.bounds.predecessors) are ∙ chosen-many None h e
