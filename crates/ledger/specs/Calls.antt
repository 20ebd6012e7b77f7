-- Demand 2, its first half: any list of offers to a fresh ledger, refused and repeated ones between, with any first contents of the store.
use Rattle.std.specs.Prelude.{◌≡◌, refl, ℕ, ◌<◌, List, [], ◌∷◌, ◌++◌, map, true, false, cond, length}
use Rattle.std.proofs.Math.Path.{sym, ap}
use Rattle.std.proofs.Common.{subst, ◌∙◌}
use Rattle.std.specs.Prelude.{Option, None, Some}
use Rattle.bytes_order.specs.Member.{◌∈◌, member}
use Rattle.bytes_order.specs.BoolLaws.{true-false}
use Rattle.bytes_order.specs.MemberLaws.{∈-cast, ∈-map, map-∈, ∈→member, member-false}
use Rattle.sha256_fips180.specs.Fips180.{SHA-256}
use Rattle.update_format.specs.Update.{Id, Update}
use Rattle.update_format.specs.Decode.{Decoded, refused, update, decode}
use Rattle.update_format.specs.Laws.{decode-sound}
use Rattle.rules.specs.Standing.{Held, Void, Waiting}
use Rattle.rules.proofs.LeastSets.{held-stored, void-stored, held-not-void}
use Rattle.rules.specs.Room.{has_room}
use Rattle.rules.proofs.TermsLaws.{document-allowed}
use Rattle.ledger_state.specs.declared.Ledger.{Ledger}
use Rattle.rules.specs.declared.Standing.{Standing}
use Rattle.rules.specs.declared.Standing.TheVariants.{Held as IsHeld, Waiting as IsWaiting, Void as IsVoid}
use Rattle.ledger_state.specs.State.{Terms, document_terms, store_length_of, room_in, Book, place_at, find_in}
use Rattle.ledger_state.specs.View.{book_of, fresh_ledger}
use Rattle.ledger_state.specs.Stands.{ident, rules, update_at, Stands}
use Rattle.ledger_state.specs.FindLaws.{stored_at, place_of, find-right, find-all, find_none}
use Rattle.ledger_state.proofs.RoomLaws.{room-stored}
use Rattle.ledger_state.proofs.TakeLaws.{stands-sound, fresh-stands}
use Rattle.ledger_offering.specs.Values.{OfferValues}
use Rattle.ledger_offering.specs.Offer.{OfferRow, unfit, malformed, known, full, taken}
use Rattle.ledger_offering.specs.Calls.{Calls, done, call, Offers}
use Rattle.ledger_offering.specs.CallsLaws.{offer-terms}
use Rattle.ledger.specs.Ask.{stands_as, unknown_id, asked_at, asked_of}

-- the stored updates after an offer to a ledger of these terms: a well-formed one with a new id is stored where there is room for it ("Two updates with one id count as
-- the same: the first is kept.")
unfoldable pub accept_decoded : Terms → List Update → Decoded → List Update
accept_decoded t us (refused n) = us
accept_decoded t us (update u) = cond (member (ident u) (map ident us)) us (cond (has_room t us u) (us ++ (u ∷ [])) us)

unfoldable pub stored_from : Terms → List Update → List (List ℕ) → List Update
stored_from t us [] = us
stored_from t us (b ∷ bs) = stored_from t (accept_decoded t us (decode t.bounds b)) bs

-- the first distinct well-formed updates, by id, in the order offered, as many as there are places
abbrev pub stored : Terms → List (List ℕ) → List Update
stored t bs = stored_from t [] bs

-- what a standing says of an update, and that the rules give an update only one
abbrev pub StandingSays : List Update → Standing → Update → Type 0
StandingSays us IsHeld u = Held rules us u
StandingSays us IsWaiting u = Waiting rules us u
StandingSays us IsVoid u = Void rules us u

pub only-held : (us : List Update) (v : Standing) (u : Update) → StandingSays us v u → Held rules us u → v ≡ IsHeld
only-held us IsHeld u a h = refl
only-held us IsWaiting u a h = absurd (a.not-held h)
only-held us IsVoid u a h = absurd (held-not-void rules us h a)

pub only-waiting : (us : List Update) (v : Standing) (u : Update) → StandingSays us v u → Waiting rules us u → v ≡ IsWaiting
only-waiting us IsHeld u a h = absurd (h.not-held a)
only-waiting us IsWaiting u a h = refl
only-waiting us IsVoid u a h = absurd (h.not-void a)

pub only-void : (us : List Update) (v : Standing) (u : Update) → StandingSays us v u → Void rules us u → v ≡ IsVoid
only-void us IsHeld u a h = absurd (held-not-void rules us a h)
only-void us IsWaiting u a h = absurd (a.not-void h)
only-void us IsVoid u a h = refl

module _ (l : Ledger) (s : List ℕ) (us : List Update) (stands : Stands (book_of l) s us) (b : List ℕ) where
  abbrev terms : Terms
  terms = (book_of l).terms

  -- an update that the bytes decode to has the id SHA-256 of the bytes
  pub decoded-id : {u : Update} → decode terms.bounds b ≡ update u → ident u ≡ SHA-256 b
  unfolding ident
  decoded-id {u} d = ap SHA-256 (decode-sound terms.bounds b u d).1

  -- an id that is found is known, one that is not is new
  pub found-known : {u : Update} {k : ℕ} → decode terms.bounds b ≡ update u → find_in (book_of l) (SHA-256 b) ≡ Some k → member (ident u) (map ident us) ≡ true
  found-known {u} {k} d f =
      let r = find-right (book_of l) s us stands.holds (SHA-256 b) k f in
      ∈→member (∈-cast (decoded-id d ∙ sym r.1) (∈-map ident (stored_at us k r.0)))

  pub none-new : {u : Update} → decode terms.bounds b ≡ update u → find_in (book_of l) (SHA-256 b) ≡ None → member (ident u) (map ident us) ≡ false
  none-new {u} d f =
      member-false (ident u) (map ident us)
      (λ m. let r = map-∈ ident us m in find_none (book_of l) s us stands.holds (SHA-256 b) f r.0 r.1 (r.2 ∙ decoded-id d))

  accept-known : {u : Update} → decode terms.bounds b ≡ update u → member (ident u) (map ident us) ≡ true → accept_decoded terms us (decode terms.bounds b) ≡ us
  unfolding accept_decoded
  accept-known d m = rw (d, m)

  accept-full : {u : Update} → decode terms.bounds b ≡ update u → member (ident u) (map ident us) ≡ false → room_in (book_of l) s u ≡ false → accept_decoded terms us (decode terms.bounds b) ≡ us
  unfolding accept_decoded
  accept-full {u} d m e = rw (d, m, sym (room-stored (book_of l) s u us stands.holds) ∙ e)

  accept-new : {u : Update} → decode terms.bounds b ≡ update u → member (ident u) (map ident us) ≡ false → room_in (book_of l) s u ≡ true
      → accept_decoded terms us (decode terms.bounds b) ≡ us ++ (u ∷ [])
  unfolding accept_decoded
  accept-new {u} d m e = rw (d, m, sym (room-stored (book_of l) s u us stands.holds) ∙ e)

  -- an offer leads from a ledger that stands to one that stands for what is then stored
  pub offer-stands : {v : OfferValues} {r : Ledger} {s' : List ℕ} → OfferRow l s b v r s' → Stands (book_of r) s' (accept_decoded terms us (decode terms.bounds b))
  unfolding accept_decoded
  offer-stands (unfit e) = absurd (true-false (stands-sound (book_of l) s us stands) e)
  offer-stands (malformed n e d) = rw d stands
  offer-stands (known u k e d f) = rw (accept-known d (found-known d f)) stands
  offer-stands (full u e d f n) = rw (accept-full d (none-new d f) n) stands
  offer-stands (taken u r e d f n t) = rw (accept-new d (none-new d f) n) (t.settles us stands)

-- from a ledger that stands, offers lead to one that stands for what is stored
pub calls-stand : {l l' : Ledger} {s s' : List ℕ} {bs : List (List ℕ)} {vs : List OfferValues} (us : List Update) → Stands (book_of l) s us → Calls l s bs vs l' s' → Stands (book_of l') s' (stored_from (book_of l).terms us bs)
unfolding stored_from
calls-stand us h done = h
calls-stand {l' = l'} {s' = s'} us h (call {l = l} {s = s} {b = b} {bs = bs} o c) =
    let next : List Update = accept_decoded (book_of l).terms us (decode (book_of l).terms.bounds b) in
    subst (λ (t : Terms). Stands (book_of l') s' (stored_from t next bs)) (offer-terms o) (calls-stand next (offer-stands l s us h b o) c)

-- Demand 2 of offers: after any offers to a fresh ledger, with any store of the length, the ledger stands for the updates stored: their set, and each
-- held, waiting or void exactly as the rules say for that set
pub offers-stand : {l' : Ledger} {s s' : List ℕ} {bs : List (List ℕ)} → length s ≡ store_length_of document_terms → Offers fresh_ledger s bs l' s' → Stands (book_of l') s' (stored document_terms bs)
unfolding fresh_ledger
offers-stand {s = s} h c = calls-stand [] (fresh-stands (book_of fresh_ledger) s refl h document-allowed) c.1

-- and `standing` answers so for every id
pub record AnswersFor (l : Book) (s : List ℕ) (us : List Update) : Type 0 where
  pub held_asked : (u : Update) → Held rules us u → asked_of l s (ident u) ≡ stands_as IsHeld
  pub waiting_asked : (u : Update) → Waiting rules us u → asked_of l s (ident u) ≡ stands_as IsWaiting
  pub void_asked : (u : Update) → Void rules us u → asked_of l s (ident u) ≡ stands_as IsVoid
  pub unknown_asked : (i : Id) → ((u : Update) → u ∈ us → ident u ≡ i → ⊥) → asked_of l s i ≡ unknown_id

module _ (l : Book) (s : List ℕ) (us : List Update) (stands : Stands l s us) where
  pub asked-found : (i : Id) (o : Option ℕ) → find_in l i ≡ o → asked_of l s i ≡ asked_at l o
  unfolding asked_of
  asked-found i o e = rw (stands-sound l s us stands, e)

  -- the place of an update says what the rules say
  pub says : (v : Standing) (k : ℕ) → k < length us → (place_at l k).standing ≡ v → StandingSays us v (update_at us k)
  says IsHeld k h e = stands.truthful.held_right k h e
  says IsWaiting k h e = stands.settled.waiting_right k h e
  says IsVoid k h e = stands.truthful.void_right k h e

  asked-says : (u : Update) → u ∈ us → (v : Standing) × StandingSays us v u × (asked_of l s (ident u) ≡ stands_as v)
  asked-says u m =
      let r = place_of us m in
      let v = (place_at l r.0).standing in
      let f : find_in l (ident u) ≡ Some r.0 = ap (λ (w : Update). find_in l (ident w)) (sym r.2) ∙ find-all l s us stands.holds r.0 r.1 in
      (v, subst (StandingSays us v) r.2 (says v r.0 r.1 refl), asked-found (ident u) (Some r.0) f)

  pub stands-answers : AnswersFor l s us
  stands-answers =
      record {
        held_asked = λ u h. let r = asked-says u (held-stored rules us h) in r.2 ∙ ap stands_as (only-held us r.0 u r.1 h);
        waiting_asked = λ u h. let r = asked-says u h.stored in r.2 ∙ ap stands_as (only-waiting us r.0 u r.1 h);
        void_asked = λ u h. let r = asked-says u (void-stored rules us h) in r.2 ∙ ap stands_as (only-void us r.0 u r.1 h);
        unknown_asked = λ i new. asked-found i None (unfound i new (find_in l i) refl);
      }
    where
      unfound : (i : Id) → ((u : Update) → u ∈ us → ident u ≡ i → ⊥) → (o : Option ℕ) → find_in l i ≡ o → find_in l i ≡ None
      unfound i new None e = e
      unfound i new (Some k) e =
          let r = find-right l s us stands.holds i k e in
          absurd (new (update_at us k) (stored_at us k r.0) r.1)
