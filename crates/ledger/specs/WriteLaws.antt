-- What is written is a well-formed update, whatever the ledger. For a ledger that stands it is of the author and the operation asked for, is held where it is
-- offered next, and so no fault, and forms no fork with the held updates of an author without a fork, neither before the offer nor after it.
use Rattle.std.specs.Prelude.{◌≡◌, refl, ℕ, ◌+◌, ◌-◌, ◌≤◌, ◌<◌, ◌⊎◌, List, [], ◌∷◌, ◌++◌, Bool, true, false, cond, length, take, drop}
use Rattle.std.proofs.Common.{sym, subst, ◌∙◌, arith, length-append, take_at}
use Rattle.std.proofs.Math.Path.{ap}
use Rattle.std.proofs.Math.Seq.{get_or-append_seam}
use Rattle.bytes_order.specs.Member.{◌∈◌}
use Rattle.bytes_order.specs.BoolLaws.{true-false}
use Rattle.sha256_fips180.specs.Fips180.{SHA-256}
use Rattle.update_format.specs.Update.{Id, max_length, Operation, Update, encode, WellFormed}
use Rattle.update_format.specs.Decode.{refused, decode, update}
use Rattle.update_format.specs.Laws.{decode-complete}
use Rattle.rules.specs.Standing.{Ancestor, Held}
use Rattle.rules.specs.ReadOff.{Forked, Fault}
use Rattle.rules.proofs.Growth.{Reached}
use Rattle.rules.specs.Writing.{written_of, writable_of}
use Rattle.rules.proofs.WritingLaws.{written_held, written-no-fault, written-no-fork, written-no-fork-next, add-writable}
use Rattle.bitset.specs.Below.{count_below}
use Rattle.bitset.specs.BelowLaws.{count_below-more, count_below-mono}
use Rattle.rules.specs.declared.Standing.{Standing}
use Rattle.rules.specs.declared.Standing.TheVariants.{Held as IsHeld, Waiting as IsWaiting}
use Rattle.rules.specs.Room.{has_room}
use Rattle.rules.proofs.TermsLaws.{some-predecessors}
use Rattle.ledger_state.proofs.RoomLaws.{room-stored}
use Rattle.ledger_state.specs.declared.Ledger.{Ledger}
use Rattle.ledger_state.specs.View.{book_of}
use Rattle.ledger_state.specs.State.{Place, Book, place_at, standing_count, is_held, is_void}
use Rattle.ledger_state.specs.Stands.{ident, rules, no_update, update_at, Stands}
use Rattle.ledger_state.specs.FindLaws.{stored_at, find-right}
use Rattle.ledger_state.proofs.TakeLaws.{stands-sound}
use Rattle.write_operations.specs.declared.Kind.{Kind}
use Rattle.write_operations.specs.declared.Kind.TheVariants.{Add as AnAdd}
use Rattle.write_operations.specs.Operations.{operation_for, bad_named, unordered_named}
use Rattle.ledger_refusals.specs.Numbers.{row11_number, row12_number, Output, put_bytes, refused_by}
use Rattle.ledger_offering.specs.Values.{OfferValues, taken_as}
use Rattle.ledger_offering.specs.Offer.{OfferRow, unfit as not-fit, malformed, known, full, taken}
use Rattle.ledger.specs.Calls.{says, only-held}
use Rattle.write_asking.specs.Write.{WrittenUpdate, Writing, unfit, author, layout, unordered, invalid, short, written}

-- the writer's answers taken apart
module _ (l : Book) (s : List ℕ) (a : ℕ) (k : Kind) (t : List ℕ) (i : Id) (named o : List ℕ) where
  pub record IsWritten (n : ℕ) (o' : List ℕ) : Type 0 where
    pub value : Update
    pub number : n ≡ length (encode value)
    pub output : o' ≡ encode value ++ drop (length (encode value)) o
    pub author_small : a < l.terms.bounds.authors
    pub named_good : bad_named named ≡ false
    pub named_ordered : unordered_named named ≡ false
    pub may : (us : List Update) → Stands l s us → writable_of rules l.terms.bounds.predecessors us a (operation_for k t i named) ≡ true
    pub is-written : WrittenUpdate l s a (operation_for k t i named) value

  record RefusedSays (n : ℕ) : Type 0 where
    void : n ≡ row12_number → (us : List Update) → Stands l s us → writable_of rules l.terms.bounds.predecessors us a (operation_for k t i named) ≡ false
    short-of : n ≡ row11_number → length o < max_length l.terms.bounds

  abbrev WroteSays : Output → List ℕ → Type 0
  WroteSays (put_bytes n) o' = IsWritten n o'
  WroteSays (refused_by n) o' = RefusedSays n

  wrote_says : {w : Output} {o' : List ℕ} → Writing l s a k t i named o w o' → WroteSays w o'
  wrote_says (unfit e) = record { void = λ q. absurd (omega arith); short-of = λ q. absurd (omega arith) }
  wrote_says (author e h) = record { void = λ q. absurd (omega arith); short-of = λ q. absurd (omega arith) }
  wrote_says (layout e h g) = record { void = λ q. absurd (omega arith); short-of = λ q. absurd (omega arith) }
  wrote_says (unordered e h g f) = record { void = λ q. absurd (omega arith); short-of = λ q. absurd (omega arith) }
  wrote_says (invalid e h g f n) = record { void = λ q. n; short-of = λ q. absurd (omega arith) }
  wrote_says (short u e h g f m w c) = record { void = λ q. absurd (omega arith); short-of = λ q. omega (arith, w.at_most) }
  wrote_says (written u e h g f m w c) =
      record {
        value = u;
        number = refl;
        output = refl;
        author_small = h;
        named_good = g;
        named_ordered = f;
        may = m;
        is-written = w;
      }

  pub says-written : {n : ℕ} {o' : List ℕ} → Writing l s a k t i named o (put_bytes n) o' → IsWritten n o'
  says-written w = wrote_says w

  pub says-invalid : {o' : List ℕ} → Writing l s a k t i named o (refused_by row12_number) o'
      → (us : List Update) → Stands l s us → writable_of rules l.terms.bounds.predecessors us a (operation_for k t i named) ≡ false
  says-invalid w = (wrote_says w).void refl

  -- a buffer as long as the longest update of the terms, 533 bytes at document 01's, is never too short, whatever the ledger
  pub says-short : {o' : List ℕ} → Writing l s a k t i named o (refused_by row11_number) o' → length o < max_length l.terms.bounds
  says-short w = (wrote_says w).short-of refl

-- "Add: always valid": the writer never refuses one with row 12
pub add-not-invalid : (l : Book) (s : List ℕ) (us : List Update) → Stands l s us → (a : ℕ) (t : List ℕ) (i : Id) (named o : List ℕ) {o' : List ℕ}
    → Writing l s a AnAdd t i named o (refused_by row12_number) o' → ⊥
unfolding operation_for
add-not-invalid l s us stands a t i named o w = true-false (add-writable rules l.terms.bounds.predecessors us a t) (says-invalid l s a AnAdd t i named o w us stands)

-- one more is held
more-held : (l r : Book) → r.used ≡ l.used + 1 → ((j : ℕ) → j < l.used → ((place_at l j).standing ≡ IsWaiting → ⊥) → place_at r j ≡ place_at l j)
    → (place_at r l.used).standing ≡ IsHeld → standing_count is_held l + 1 ≤ standing_count is_held r
unfolding standing_count is_held
more-held l r e kept new =
    let p : ℕ → Bool = λ (j : ℕ). is_held (place_at l j).standing in
    let q : ℕ → Bool = λ (j : ℕ). is_held (place_at r j).standing in
    let next : count_below r.used q ≡ count_below l.used q + 1 =
    ap (λ (n : ℕ). count_below n q) e ∙ count_below-more l.used q ∙ ap (λ (v : Standing). cond (is_held v) (count_below l.used q + 1) (count_below l.used q)) new in
    omega (arith, next, count_below-mono l.used p q (λ j h f. ap (λ (x : Place). is_held x.standing) (kept j h (not-waiting j f)) ∙ f))
  where
    not-waiting : (j : ℕ) → is_held (place_at l j).standing ≡ true → (place_at l j).standing ≡ IsWaiting → ⊥
    not-waiting j f g = true-false f (ap is_held g)

refused-update : {n : ℕ} {u : Update} → refused n ≡ update u → ⊥
refused-update e = let z : ◌≡◌ {A = ℕ} 0 1 = cc in omega arith

-- the written bytes: the first n of the output
module _ (l : Book) (s : List ℕ) (a : ℕ) (k : Kind) (t : List ℕ) (i : Id) (named o : List ℕ) {n : ℕ} {o' : List ℕ}
    (wrote : Writing l s a k t i named o (put_bytes n) o') where
  told : IsWritten l s a k t i named o n o'
  told = says-written l s a k t i named o wrote

  bytes-are : take n o' ≡ encode told.value
  bytes-are =
      ap (take n) told.output ∙ take_at (encode told.value) (drop (length (encode told.value)) o) n (sym told.number)

  -- whatever the ledger, they are a well-formed update
  pub written-well-formed : WellFormed l.terms.bounds (take n o')
  written-well-formed = record { value = told.value; bounded = told.is-written.laid_out; laid_out = sym bytes-are }

-- for a ledger that stands
module _ (l : Book) (s : List ℕ) (us : List Update) (stands : Stands l s us) (a : ℕ) (k : Kind) (t : List ℕ) (i : Id) (named o : List ℕ)
    {n : ℕ} {o' : List ℕ} (wrote : Writing l s a k t i named o (put_bytes n) o') where
  abbrev op : Operation
  op = operation_for k t i named

  abbrev new : Update
  new = written_of rules l.terms.bounds.predecessors us a op

  abbrev W : IsWritten l s a k t i named o n o'
  W = told l s a k t i named o wrote

  is-new : W.value ≡ new
  is-new = W.is-written.of_rules us stands

  bytes-new : take n o' ≡ encode new
  bytes-new = bytes-are l s a k t i named o wrote ∙ ap encode is-new

  -- they decode to the author and the operation asked for, and to the rules' update
  pub written-decodes : decode l.terms.bounds (take n o') ≡ update (written_of rules l.terms.bounds.predecessors us a (operation_for k t i named))
  written-decodes =
      ap (decode l.terms.bounds) (bytes-are l s a k t i named o wrote) ∙ decode-complete W.value W.is-written.laid_out ∙ ap update is-new

  pub written-author : (written_of rules l.terms.bounds.predecessors us a (operation_for k t i named)).author ≡ a
  written-author = ap (λ (u : Update). u.author) (sym is-new) ∙ W.is-written.by-author

  pub written-operation : (written_of rules l.terms.bounds.predecessors us a (operation_for k t i named)).op ≡ operation_for k t i named
  written-operation = ap (λ (u : Update). u.op) (sym is-new) ∙ W.is-written.with_operation

  -- it forms no fork: every held update of an author without a fork is its ancestor, also where the author has a fault
  pub written-forks-not : (Forked rules us a → ⊥) → (u : Update) → Held rules us u → u.author ≡ a
      → Ancestor rules us u (written_of rules l.terms.bounds.predecessors us a (operation_for k t i named))
  written-forks-not m u h e = written-no-fork rules l.terms.bounds.predecessors us stands.holds.distinct a op (some-predecessors l.terms stands.holds.terms_allowed) m u h e

  id-is : ident new ≡ SHA-256 (take n o')
  unfolding ident
  id-is = ap SHA-256 (sym bytes-new)

  same_update : {u : Update} → decode l.terms.bounds (take n o') ≡ update u → u ≡ written_of rules l.terms.bounds.predecessors us a (operation_for k t i named)
  same_update {u} d = let e : update u ≡ update new = sym d ∙ written-decodes in cc

  -- where no stored update has its id
  module _ (fresh : (u : Update) → u ∈ us → ident u ≡ SHA-256 (take n o') → ⊥) where
    is-held : Held rules (us ++ (new ∷ [])) new
    is-held = written_held rules l.terms.bounds.predecessors us stands.holds.distinct a op (λ u m e. fresh u m (e ∙ id-is)) (W.may us stands)

    -- by the rules after the offer it is held, and so none of the faults
    pub written-faults-not : Fault rules (us ++ (written_of rules l.terms.bounds.predecessors us a (operation_for k t i named) ∷ [])) (written_of rules l.terms.bounds.predecessors us a (operation_for k t i named)) → ⊥
    written-faults-not = written-no-fault rules l.terms.bounds.predecessors us stands.holds.distinct a op (λ u m e. fresh u m (e ∙ id-is)) (W.may us stands)

    -- in the set with it, a held update of its author is an ancestor of it, is the update itself, or has it as an ancestor
    pub written-forks-not-next : (Forked rules us a → ⊥) → (u : Update) → Held rules (us ++ (written_of rules l.terms.bounds.predecessors us a (operation_for k t i named) ∷ [])) u → u.author ≡ a
        → Ancestor rules (us ++ (written_of rules l.terms.bounds.predecessors us a (operation_for k t i named) ∷ [])) u (written_of rules l.terms.bounds.predecessors us a (operation_for k t i named))
        ⊎ Reached rules us (written_of rules l.terms.bounds.predecessors us a (operation_for k t i named)) u
    written-forks-not-next =
        written-no-fork-next rules l.terms.bounds.predecessors us stands.holds.distinct a op (λ u m e. fresh u m (e ∙ id-is))
        (some-predecessors l.terms stands.holds.terms_allowed)

    -- the place that the update took
    stands-held : (u : Update) (r : Book) {s' : List ℕ} → u ≡ new → Stands r s' (us ++ (u ∷ [])) → (place_at r l.used).standing ≡ IsHeld
    stands-held u r {s'} e after =
        let q : l.used ≡ length us = stands.holds.number in
        let here : l.used < length (us ++ (u ∷ [])) = omega (arith, length-append us (u ∷ [])) in
        let last : update_at (us ++ (u ∷ [])) l.used ≡ u = ap (update_at (us ++ (u ∷ []))) q ∙ get_or-append_seam us u [] no_update in
        only-held (us ++ (u ∷ [])) (place_at r l.used).standing (update_at (us ++ (u ∷ [])) l.used)
        (says r s' (us ++ (u ∷ [])) after (place_at r l.used).standing l.used here refl)
        (subst (λ (v : Update). Held rules (us ++ (u ∷ [])) v) (sym last)
        (subst (λ (v : Update). Held rules (us ++ (v ∷ [])) v) (sym e) is-held))

-- Offered next, where there is room for it and no stored update has its id, it is taken and held.
module _ (l : Ledger) (s : List ℕ) (us : List Update) (stands : Stands (book_of l) s us) (a : ℕ) (k : Kind) (t : List ℕ) (i : Id) (named o : List ℕ)
    {n : ℕ} {o' : List ℕ} (wrote : Writing (book_of l) s a k t i named o (put_bytes n) o') (room : has_room (book_of l).terms us (written_of rules (book_of l).terms.bounds.predecessors us a (operation_for k t i named)) ≡ true)
    (fresh : (u : Update) → u ∈ us → ident u ≡ SHA-256 (take n o') → ⊥) where
  abbrev before : Book
  before = book_of l

  pub written-taken : {x : OfferValues} {r : Ledger} {s' : List ℕ} → OfferRow l s (take n o') x r s'
      → (h v : ℕ) × (x ≡ taken_as IsHeld h v) × (1 ≤ h)
  written-taken (not-fit e) = absurd (true-false (stands-sound before s us stands) e)
  written-taken (malformed m e d) =
      absurd (refused-update (sym d ∙ written-decodes before s us stands a k t i named o wrote))
  written-taken (known u j e d f) =
      let r = find-right before s us stands.holds (SHA-256 (take n o')) j f in absurd (fresh (update_at us j) (stored_at us j r.0) r.1)
  written-taken (full u e d f g) =
      let is-new : u ≡ written_of rules before.terms.bounds.predecessors us a (operation_for k t i named) = same_update before s us stands a k t i named o wrote d in
      absurd (true-false room (ap (has_room before.terms us) (sym is-new) ∙ sym (room-stored before s u us stands.holds) ∙ g))
  written-taken (taken u r e d f g took) =
      let after : Book = book_of r in
      let v : (place_at after before.used).standing ≡ IsHeld =
      stands-held before s us stands a k t i named o wrote fresh u after
      (same_update before s us stands a k t i named o wrote d) (took.settles us stands) in (
        standing_count is_held after - standing_count is_held before,
        standing_count is_void after - standing_count is_void before,
        ap (λ (w : Standing). taken_as w (standing_count is_held after - standing_count is_held before) (standing_count is_void after - standing_count is_void before)) v,
        omega (arith, more-held before after took.used_next took.old_settled v),
      )
