-- Taking the next place: the ledger with the place taken, and what it is once settled.
use mathlib.Core.Path.{◌≡◌, refl, sym, ap, subst, ◌∙◌}
use Prim.Native.Nat.{ℕ, ◌+◌, ◌-◌, ◌<◌}
use native.Mathlib.Nat.{eq-or-lt_of_le}
use native.Mathlib.Omega.{arith}
use mathlib.Core.Logic.{⊎_elim}
use mathlib.Core.List.{List, [], ◌∷◌, ◌++◌}
use Rattle.std.specs.Prelude.{None}
use mathlib.Core.Bool.{Bool, true, false, cond}
use lib.ListN.{length}
use Rattle.bytes_order.specs.Member.{◌∈◌}
use Rattle.sha256_fips180.specs.Fips180.{SHA-256}
use Rattle.update_format.specs.Update.{Id, Update}
use Rattle.update_format.specs.Decode.{update, decode}
use Rattle.update_format.specs.Laws.{decode-sound, accepted}
use Rattle.bitset.specs.Below.{count_below}
use Rattle.bitset.specs.BelowLaws.{count_below-cong, count_below-more}
use Rattle.bitset.specs.BitsLaws.{within_more, within_none}
use Rattle.rules.specs.declared.Standing.{Standing}
use Rattle.rules.specs.declared.Standing.TheVariants.{Waiting}
use Rattle.bytes_copy.specs.Overwritten.{overwritten}
use Rattle.rules.specs.Room.{has_room}
use Rattle.ledger_state.specs.State.{room_in, start_of, Place, Book, place_at, with_taken, find_in, is_held, is_void, standing_count}
use Rattle.ledger_state.proofs.RoomLaws.{room→, room-stored}
use Rattle.ledger_state.specs.Row1.{sound}
use Rattle.ledger_state.proofs.Row1Laws.{SoundPlace, sound→, sound←}
use Rattle.ledger_settling.specs.Settle.{OthersWait, SettledFrom}
use Rattle.ledger_settling.specs.Worklist.{NewestWaits}
use Rattle.ledger_state.specs.Stands.{ident, Holds, Truthful, Stands}
use Rattle.ledger_state.specs.FindLaws.{find_none}
use Rattle.ledger_state.proofs.TakeLaws.{taken-new, taken-old, take-holds, take-truthful}
use Rattle.ledger_settling.specs.WaitLaws.{taken-others}
use Rattle.ledger_settling.specs.SettleLaws.{settled_kept, settled-sound, settled-stands}
use Rattle.ledger_settling.specs.CountLaws.{steps-counted}
use Rattle.ledger_offering.specs.Offer.{Took}

-- the place that is taken is the newest, and waits
pub taken-newest : (l : Book) (i : Id) (n : ℕ) {t : Book} → t ≡ with_taken l i n → l.used < l.terms.places → NewestWaits t l.used
taken-newest l i n grown free =
    subst (λ (m : Book). NewestWaits m l.used) (sym grown)
    (record { used_within = omega arith; newest = refl; waiting = ap (λ (p : Place). p.standing) (taken-new l i n) })

-- what taking a place comes to, with the two counts: "held after less held before, and void after less void before"
pub record TookWith (l : Book) (s b : List ℕ) (u : Update) (held void : ℕ) (r : Book) (s' : List ℕ) : Type 0 where
  pub took : Took l s b u r s'
  pub held_right : held ≡ standing_count is_held r - standing_count is_held l
  pub void_right : void ≡ standing_count is_void r - standing_count is_void l

-- the update u with bytes b is offered, and a place is free
module _ (l : Book) (s b : List ℕ) (u : Update) (fits : sound l s ≡ true) (decodes : decode l.terms.bounds b ≡ update u) (room : room_in l s u ≡ true) where
  free : l.used < l.terms.places
  free = room→ l s u room

  abbrev place : Place
  place = record { id = SHA-256 b; length = length b; ancestors = 0; standing = Waiting }

  abbrev taken : Book
  taken = with_taken l (SHA-256 b) (length b)

  at_new : place_at taken l.used ≡ place
  at_new = taken-new l (SHA-256 b) (length b)

  at_old : (k : ℕ) → (k ≡ l.used → ⊥) → place_at taken k ≡ place_at l k
  at_old = taken-old l (SHA-256 b) (length b)

  -- row 1 does not come up by taking the place
  taken-sound : (s' : List ℕ) → length s' ≡ length s → sound taken s' ≡ true
  taken-sound s' same =
      let h = sound→ l s fits in
      let sized = accepted l.terms.bounds b u decodes in
      sound← taken s'
      (record {
        terms_allowed = h.terms_allowed;
        store = same ∙ h.store;
        few = omega (arith, free);
        each = λ k g.
            ⊎_elim
            (λ (e : k ≡ l.used).
            subst (SoundPlace l.terms (l.used + 1)) (sym (ap (place_at taken) e ∙ at_new))
            (record { long = sized.long; short = sized.short; inside = within_none (l.used + 1) }))
            (λ (i : k < l.used).
            let p = h.each k i in
            subst (SoundPlace l.terms (l.used + 1)) (sym (at_old k (λ (e : k ≡ l.used). omega arith)))
            (record {
              long = p.long;
              short = p.short;
              inside = within_more (place_at l k).ancestors l.used (l.used + 1) (omega arith) p.inside;
            }))
            (eq-or-lt_of_le (omega arith));
      })

  -- i is the id, t the ledger with the place taken, r what it is once settled, with the two counts, and s' the store with the bytes written
  module _ {i : Id} (hashed : i ≡ SHA-256 b) (unknown : find_in l i ≡ None) {t r : Book} {held void : ℕ} (grown : t ≡ with_taken l i (length b)) {s' : List ℕ}
      (wrote : s' ≡ overwritten s (start_of l.terms l.used) b) (same : length s' ≡ length s) (settling : SettledFrom t s' held void r) where
    settled : SettledFrom taken s' held void r
    settled = subst (λ (m : Book). SettledFrom m s' held void r) (grown ∙ ap (λ (j : Id). with_taken l j (length b)) hashed) settling

    taken-stands : (us : List Update) → Stands l s us → Stands r s' (us ++ (u ∷ []))
    unfolding ident
    taken-stands us h =
        let d = decode-sound l.terms.bounds b u decodes in
        let roomy : has_room l.terms us u ≡ true = sym (room-stored l s u us h.holds) ∙ room in
        let new : (v : Update) → v ∈ us → ident v ≡ ident u → ⊥ =
        λ v m e. find_none l s us h.holds i unknown v m (e ∙ ap SHA-256 d.1 ∙ sym hashed) in
        settled-stands taken s' (us ++ (u ∷ [])) r
        (subst (λ (x : List ℕ). Holds taken x (us ++ (u ∷ []))) (sym wrote)
        (subst (λ (x : List ℕ). Holds (with_taken l (SHA-256 x) (length x)) (overwritten s (start_of l.terms l.used) x) (us ++ (u ∷ []))) d.1
        (take-holds l s us u h d.0 roomy new)))
        (subst (λ (x : List ℕ). Truthful (with_taken l (SHA-256 x) (length x)) (us ++ (u ∷ []))) d.1
        (take-truthful l s us u h d.0 roomy new))
        (subst (OthersWait taken) (sym wrote) (taken-others l s us h (SHA-256 b) b free (accepted l.terms.bounds b u decodes).short))
        settled

    place-taken : Took l s b u r s'
    place-taken =
        let kept = settled_kept taken s' r settled in
        record {
          terms_kept = kept.terms_kept;
          used_next = kept.used_kept;
          new_id = kept.id_kept l.used ∙ ap (λ (p : Place). p.id) at_new;
          new_length = kept.length_kept l.used ∙ ap (λ (p : Place). p.length) at_new;
          old_id = λ k h. kept.id_kept k ∙ ap (λ (p : Place). p.id) (at_old k (λ (e : k ≡ l.used). omega arith));
          old_length = λ k h. kept.length_kept k ∙ ap (λ (p : Place). p.length) (at_old k (λ (e : k ≡ l.used). omega arith));
          old_settled = λ k h n.
              let e = at_old k (λ (e : k ≡ l.used). omega arith) in
              kept.settled_kept k (λ q. n (ap (λ (p : Place). p.standing) (sym e) ∙ q)) ∙ e;
          untaken = λ k h. kept.untaken_kept k (omega arith) ∙ at_old k (λ (e : k ≡ l.used). omega arith);
          still_sound = settled-sound taken s' r settled (taken-sound s' same);
          settles = taken-stands;
        }

    -- the place that is taken waits, so each other standing is as often there as before
    count-taken : (p : Standing → Bool) → p Waiting ≡ false → standing_count p taken ≡ standing_count p l
    unfolding standing_count
    count-taken p w =
        let before : ℕ → Bool = λ k. p (place_at l k).standing in
        let after : ℕ → Bool = λ k. p (place_at taken k).standing in
        count_below-more l.used after
        ∙ ap (λ (c : Bool). cond c (count_below l.used after + 1) (count_below l.used after)) (ap (λ (q : Place). p q.standing) at_new ∙ w)
        ∙ count_below-cong l.used after before (λ k g. ap (λ (q : Place). p q.standing) (at_old k (λ (e : k ≡ l.used). omega arith)))

    pub took-with : TookWith l s b u held void r s'
    unfolding is_held is_void
    took-with =
        let counts = steps-counted settled.reached in
        record {
          took = place-taken;
          held_right = omega (arith, counts.held_more, count-taken is_held refl);
          void_right = omega (arith, counts.void_more, count-taken is_void refl);
        }
