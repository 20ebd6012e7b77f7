-- What an offer answers, from the rules alone: document 01's values, and the text that its command prints for them, with the updates stored before it. For a
-- ledger that stands the entry `offer` answers so: the update's own standing once settled, held after less held before, void after less void before.
use Rattle.std.specs.Prelude.{◌≡◌, refl, ℕ, ◌-◌, ◌<◌, List, [], ◌∷◌, ◌++◌, map, Bool, true, cond, ◌&&◌, length}
use Rattle.std.proofs.Common.{sym, ap₂, subst, ◌∙◌, arith, length-append}
use Rattle.std.proofs.Math.Path.{ap}
use Rattle.std.proofs.Math.Bool.{false}
use Rattle.std.proofs.Math.Seq.{get_or-append_seam}
use Rattle.bytes_order.specs.Order.{same}
use Rattle.bytes_order.specs.Member.{◌∈◌, member, keep, any}
use Rattle.bytes_order.specs.BoolLaws.{true-false, not-true→false, and-true→}
use Rattle.bytes_order.specs.OrderLaws.{same→eq}
use Rattle.bytes_order.specs.MemberLaws.{any→∈}
use Rattle.bytes_order.specs.DistinctLaws.{distinct-eq}
use Rattle.sha256_fips180.specs.Fips180.{SHA-256}
use Rattle.update_format.specs.Update.{Id, Update}
use Rattle.update_format.specs.Decode.{Decoded, refused, update, decode}
use Rattle.bytes_order.specs.Distinct.{Distinct}
use Rattle.rules.specs.declared.Standing.{Standing}
use Rattle.rules.specs.declared.Standing.TheVariants.{Held as IsHeld, Waiting as IsWaiting, Void as IsVoid}
use Rattle.rules.specs.Standing.{Held, Void, Waiting}
use Rattle.rules.specs.Settle.{Row, Table, is_held, is_void, held_in, void_in, settled_table}
use Rattle.rules.proofs.SettlingTable.{held_in_lem, void-in}
use Rattle.rules.proofs.Settling.{settled-decides}
use Rattle.rules.proofs.Decides.{Decides}
use Rattle.rules.specs.Terms.{Terms}
use Rattle.rules.specs.Room.{has_room}
use Rattle.ledger_state.proofs.RoomLaws.{room-stored}
use Rattle.ledger_state.specs.declared.Ledger.{Ledger}
use Rattle.ledger_state.specs.View.{book_of}
use Rattle.ledger_state.specs.State.{Book, place_at, standing_count}
use Rattle.ledger_state.specs.Stands.{ident, rules, no_update, update_at, Stands}
use Rattle.ledger_state.specs.FindLaws.{stored_at, find-right}
use Rattle.ledger_state.proofs.TakeLaws.{stands-sound}
use Rattle.ledger_state.proofs.CountLaws.{held-count, void-count}
use Rattle.ledger_refusals.specs.Numbers.{row10_number}
use Rattle.ledger_offering.specs.Values.{OfferValues, taken_as, known_as, refused_as}
use Rattle.ledger_offering.specs.Words.{values_text}
use Rattle.ledger_offering.specs.Offer.{OfferRow, unfit, malformed, known, full, taken}
use Rattle.ledger.specs.Calls.{says, only-held, only-waiting, only-void, decoded-id, found-known, none-new}

-- the standing of an id in a settled table
unfoldable pub standing_in : Table → Id → Standing
standing_in T i = cond (held_in T i) IsHeld (cond (void_in T i) IsVoid IsWaiting)

unfoldable pub held_number : Table → ℕ
held_number T = length (keep (λ (r : Row). is_held r.verdict) T)

unfoldable pub void_number : Table → ℕ
void_number T = length (keep (λ (r : Row). is_void r.verdict) T)

-- from the settled tables before and after: "held after less held before, and void after less void before"
unfoldable pub taken_for : Table → Table → Id → OfferValues
taken_for T T' i = taken_as (standing_in T' i) (held_number T' - held_number T) (void_number T' - void_number T)

-- the values of the answer to an offer to a ledger of these terms, with the updates stored before it
unfoldable pub answer_for : Terms → List Update → Decoded → OfferValues
answer_for t us (refused n) = refused_as n
answer_for t us (update u) =
    cond (member (ident u) (map ident us)) (known_as (standing_in (settled_table rules us) (ident u)))
    (cond (has_room t us u) (taken_for (settled_table rules us) (settled_table rules (us ++ (u ∷ []))) (ident u)) (refused_as row10_number))

-- and its text
abbrev pub offer_text : Terms → List Update → Decoded → List ℕ
offer_text t us d = values_text (answer_for t us d)

-- a test of the row with an id, in a table with distinct ids
row-test : (T : Table) (p : Standing → Bool) (i : Id) {r : Row} → Distinct (λ (q : Row). q.id) T → r ∈ T → r.id ≡ i
    → any (λ (q : Row). same q.id i && p q.verdict) T ≡ true → p r.verdict ≡ true
row-test T p i {r} once m e h =
    let q = any→∈ (λ (q : Row). same q.id i && p q.verdict) T h in
    let b = and-true→ (same q.0.id i) (p q.0.verdict) q.2 in
    let k : q.0 ≡ r = distinct-eq once q.1 m (same→eq q.0.id i b.0 ∙ sym e) in
    ap (λ (w : Row). p w.verdict) (sym k) ∙ b.1

module _ (l : Book) (s : List ℕ) (us : List Update) (stands : Stands l s us) where
  D : Decides rules us (settled_table rules us)
  D = settled-decides rules us stands.holds.distinct

  -- a place's standing is its update's verdict
  standing_by : (k : ℕ) → k < length us → (r : Row) → r ∈ settled_table rules us → r.update ≡ update_at us k → (v : Standing) → r.verdict ≡ v
      → (place_at l k).standing ≡ standing_in (settled_table rules us) (ident (update_at us k))
  unfolding standing_in is_held is_void held_in void_in
  standing_by k h r m e IsHeld q =
      let i : r.id ≡ ident (update_at us k) = D.has-id r m ∙ ap ident e in
      let w = only-held us (place_at l k).standing (update_at us k) (says l s us stands (place_at l k).standing k h refl) (subst (λ (u : Update). Held rules us u) e (D.held_right r m q)) in
      rw (w, held_in_lem m i q)
  standing_by k h r m e IsVoid q =
      let i : r.id ≡ ident (update_at us k) = D.has-id r m ∙ ap ident e in
      let w = only-void us (place_at l k).standing (update_at us k) (says l s us stands (place_at l k).standing k h refl) (subst (λ (u : Update). Void rules us u) e (D.void_right r m q)) in
      let n : held_in (settled_table rules us) (ident (update_at us k)) ≡ false =
      not-true→false (held_in (settled_table rules us) (ident (update_at us k))) (λ t. true-false (row-test (settled_table rules us) is_held (ident (update_at us k)) D.once m i t) (ap is_held q)) in
      rw (w, n, void-in m i q)
  standing_by k h r m e IsWaiting q =
      let i : r.id ≡ ident (update_at us k) = D.has-id r m ∙ ap ident e in
      let w = only-waiting us (place_at l k).standing (update_at us k) (says l s us stands (place_at l k).standing k h refl) (subst (λ (u : Update). Waiting rules us u) e (D.waiting_right r m q)) in
      let n : held_in (settled_table rules us) (ident (update_at us k)) ≡ false =
      not-true→false (held_in (settled_table rules us) (ident (update_at us k))) (λ t. true-false (row-test (settled_table rules us) is_held (ident (update_at us k)) D.once m i t) (ap is_held q)) in
      let o : void_in (settled_table rules us) (ident (update_at us k)) ≡ false =
      not-true→false (void_in (settled_table rules us) (ident (update_at us k))) (λ t. true-false (row-test (settled_table rules us) is_void (ident (update_at us k)) D.once m i t) (ap is_void q)) in
      rw (w, n, o)

  pub standing-right : (k : ℕ) → k < length us → (place_at l k).standing ≡ standing_in (settled_table rules us) (ident (update_at us k))
  standing-right k h =
      let r = D.row_for (update_at us k) (stored_at us k h) in
      standing_by k h r.0 r.1 r.2 r.0.verdict refl

-- the place that an offer takes says how the update stands, and the counts say what changed
taken-right : (l : Book) (s : List ℕ) (us : List Update) → Stands l s us → (u : Update) (r : Book) (s' : List ℕ) → Stands r s' (us ++ (u ∷ []))
    → taken_as (place_at r l.used).standing (standing_count is_held r - standing_count is_held l) (standing_count is_void r - standing_count is_void l)
    ≡ taken_for (settled_table rules us) (settled_table rules (us ++ (u ∷ []))) (ident u)
unfolding taken_for held_number void_number
taken-right l s us stands u r s' after =
    let k : l.used ≡ length us = stands.holds.number in
    let last : update_at (us ++ (u ∷ [])) (length us) ≡ u = get_or-append_seam us u [] no_update in
    let here : length us < length (us ++ (u ∷ [])) = omega (arith, length-append us (u ∷ [])) in
    let is : (place_at r l.used).standing ≡ standing_in (settled_table rules (us ++ (u ∷ []))) (ident u) =
    ap (λ (n : ℕ). (place_at r n).standing) k ∙ standing-right r s' (us ++ (u ∷ [])) after (length us) here
    ∙ ap (λ (v : Update). standing_in (settled_table rules (us ++ (u ∷ []))) (ident v)) last in
    let h = ap₂ ◌-◌ (held-count r s' (us ++ (u ∷ [])) after) (held-count l s us stands) in
    let v = ap₂ ◌-◌ (void-count r s' (us ++ (u ∷ [])) after) (void-count l s us stands) in
    λ i. taken_as (is i) (h i) (v i)

-- For a ledger that stands, the values of the answer are the rules'.
pub answer-right : (l : Ledger) (s : List ℕ) (us : List Update) → Stands (book_of l) s us → (b : List ℕ) {x : OfferValues} {r : Ledger} {s' : List ℕ}
    → OfferRow l s b x r s' → x ≡ answer_for (book_of l).terms us (decode (book_of l).terms.bounds b)
unfolding answer_for
answer-right l s us stands b (unfit e) = absurd (true-false (stands-sound (book_of l) s us stands) e)
answer-right l s us stands b (malformed n e d) = rw d
answer-right l s us stands b (known u k e d f) =
    let r = find-right (book_of l) s us stands.holds (SHA-256 b) k f in
    rw (d, found-known l s us stands b d f)
    (ap known_as (standing-right (book_of l) s us stands k r.0 ∙ ap (standing_in (settled_table rules us)) (r.1 ∙ sym (decoded-id l s us stands b d))))
answer-right l s us stands b (full u e d f n) =
    rw (d, none-new l s us stands b d f, sym (room-stored (book_of l) s u us stands.holds) ∙ n)
answer-right l s us stands b (taken u r e d f n t) =
    rw (d, none-new l s us stands b d f, sym (room-stored (book_of l) s u us stands.holds) ∙ n)
    (taken-right (book_of l) s us stands u (book_of r) _ (t.settles us stands))
