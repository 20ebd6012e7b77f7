-- Taking the next place, the fresh ledger, and what a ledger that stands says.
use Rattle.std.specs.Prelude.{◌≡◌, refl, ℕ, ◌+◌, ◌≤◌, ◌<◌, List, [], ◌∷◌, ◌++◌, true, length}
use Rattle.std.proofs.Common.{sym, ◌∙◌, ap, subst, subst₂, arith, not-suc-le-zero, le_refl, eq-or-lt_of_le, ⊎_elim, length-append}
use mathlib.Core.List.Memᴰ
use Rattle.std.proofs.Math.ListN.{get_or-append}
use Rattle.std.proofs.lemmas.List.{get_or_at}
use Rattle.bytes_copy.specs.Overwritten.{overwritten}
use Rattle.bytes_copy.specs.OverwrittenLaws.{overwritten-length, overwritten-back, overwritten-before}
use Rattle.bytes_order.specs.BoolLaws.{true-false}
use Rattle.bytes_order.specs.Member.{◌∈◌}
use Rattle.bytes_order.specs.MemberLaws.{∈-singleton}
use Rattle.bytes_order.specs.Distinct.{Distinct, distinct_nil, distinct_cons}
use Rattle.bytes_order.specs.DistinctLaws.{distinct_append}
use Rattle.update_format.specs.Update.{Id, Update, Bounded, encode}
use Rattle.update_format.specs.Decode.{slice}
use Rattle.update_format.specs.Laws.{encode-within}
use Rattle.rules.specs.Standing.{Ancestor, Held, Void}
use Rattle.rules.proofs.LeastSets.{ancestor-stored}
use Rattle.rules.proofs.Growth.{grow-ancestor, grow-held, grow-void, held-ancestors-stay, added_more, added-cases}
use Rattle.bitset.specs.Bits.{has, within}
use Rattle.bitset.specs.BitsLaws.{within→, within_more, within_none}
use Rattle.rules.specs.declared.Standing.TheVariants.{Held as IsHeld, Waiting as IsWaiting, Void as IsVoid}
use Rattle.rules.specs.Terms.{allowed}
use Rattle.rules.specs.Room.{has_room}
use Rattle.rules.proofs.RoomLaws.{none-fit, one-more-fits}
use Rattle.ledger_state.specs.State.{start_of, store_length_of, Place, Book, place_at, with_taken}
use Rattle.ledger_state.proofs.BookLaws.{replaced-same, replaced-other}
use Rattle.ledger_state.specs.Row1.{sound}
use Rattle.ledger_state.proofs.Row1Laws.{sound←, holds-sound, start-next, start-inside}
use Rattle.ledger_state.specs.Stands.{ident, rules, no_update, update_at, Holds, Truthful, Stands}
use Rattle.ledger_state.proofs.RoomLaws.{room→, room-stored}
use Rattle.ledger_state.proofs.StandingLaws.{held≢waiting, void≢waiting}

-- a ledger that stands is never row 1
pub stands-sound : (l : Book) (s : List ℕ) (us : List Update) → Stands l s us → sound l s ≡ true
stands-sound l s us h = sound← l s (holds-sound l s us h.holds)

-- no place taken: it stands for no updates, with any store of the length, whatever the free places hold
pub fresh-stands : (l : Book) (s : List ℕ) → l.used ≡ 0 → length s ≡ store_length_of l.terms → allowed l.terms ≡ true → Stands l s []
fresh-stands l s empty store terms =
    record {
      holds =
          record {
            terms_allowed = terms;
            store_whole = store;
            room = none-fit l.terms;
            number = empty;
            bounded = λ u m. absurd (Memᴰ.not-nil m);
            distinct = distinct_nil;
            ids = λ k g. absurd (not-suc-le-zero g);
            lengths = λ k g. absurd (not-suc-le-zero g);
            bytes = λ k g. absurd (not-suc-le-zero g);
            inside = λ k g. absurd (not-suc-le-zero g);
          };
      truthful =
          record {
            held_right = λ k g. absurd (not-suc-le-zero g);
            void_right = λ k g. absurd (not-suc-le-zero g);
            above_right = λ k j g. absurd (not-suc-le-zero g);
            above_all = λ k j g. absurd (not-suc-le-zero g);
            none_above = λ k g. absurd (not-suc-le-zero g);
          };
      settled = record { waiting_right = λ k g. absurd (not-suc-le-zero g) };
    }

-- the place that is taken, and the others, which are as they were
module _ (l : Book) (i : Id) (n : ℕ) where
  abbrev new-place : Place
  new-place = record { id = i; length = n; ancestors = 0; standing = IsWaiting }

  pub taken-new : place_at (with_taken l i n) l.used ≡ record { id = i; length = n; ancestors = 0; standing = IsWaiting }
  taken-new = replaced-same l.place l.used new-place

  pub taken-old : (k : ℕ) → (k ≡ l.used → ⊥) → place_at (with_taken l i n) k ≡ place_at l k
  taken-old = replaced-other l.place l.used new-place

module _ (l : Book) (s : List ℕ) (us : List Update) (u : Update) (stands : Stands l s us) (bounded : Bounded l.terms.bounds u)
    (room : has_room l.terms us u ≡ true) (new : (v : Update) → v ∈ us → ident v ≡ ident u → ⊥) where
  abbrev more : List Update
  more = us ++ (u ∷ [])

  abbrev place : Place
  place = record { id = ident u; length = length (encode u); ancestors = 0; standing = IsWaiting }

  abbrev taken : Book
  taken = with_taken l (ident u) (length (encode u))

  one_more : length more ≡ length us + 1
  one_more = length-append us (u ∷ [])

  more-distinct : Distinct ident more
  more-distinct =
      distinct_append stands.holds.distinct (distinct_cons (λ y m. absurd (Memᴰ.not-nil m)) distinct_nil)
      (λ x y m n e. new x m (e ∙ ap ident (∈-singleton n)))

  -- a place and its update: those of before, or the new ones
  taken-cases : (P : ℕ → Place → Update → Type 0) → ((k : ℕ) → k < length us → P k (place_at l k) (update_at us k)) → P (length us) place u
      → (k : ℕ) → k < length more → P k (place_at taken k) (update_at more k)
  taken-cases P old last k g =
      ⊎_elim
      (λ (e : k ≡ length us).
      let a : place_at taken k ≡ place =
      ap (place_at taken) (e ∙ sym number) ∙ taken-new l (ident u) (length (encode u)) in
      let b : update_at more k ≡ u = get_or_at us u [] no_update k (sym e) in
      subst₂ (P k) (sym a) (sym b) (subst (λ (i : ℕ). P i place u) (sym e) last))
      (λ (h : k < length us).
      subst₂ (P k)
      (sym (taken-old l (ident u) (length (encode u)) k (λ (e : k ≡ l.used). omega (arith, number))))
      (sym (get_or-append us (u ∷ []) no_update k h))
      (old k h))
      (eq-or-lt_of_le (omega (arith, one_more)))
    where
      number : l.used ≡ length us
      number = stands.holds.number

  pub take-holds : Holds (with_taken l (ident u) (length (encode u))) (overwritten s (start_of l.terms l.used) (encode u)) (us ++ (u ∷ []))
  take-holds =
      let h = stands.holds in
      let at = start_of l.terms l.used in
      let free : l.used < l.terms.places = room→ l s u (room-stored l s u us h ∙ room) in
      let fits : at + length (encode u) ≤ length s = omega (arith, h.store_whole, start-inside l.terms l.used free, (encode-within u bounded).1) in
      record {
        terms_allowed = h.terms_allowed;
        store_whole = overwritten-length s at (encode u) fits ∙ h.store_whole;
        room = one-more-fits l.terms us u room;
        number = ap (λ (n : ℕ). n + 1) h.number ∙ sym one_more;
        bounded = λ v m.
            ⊎_elim (λ (n : v ∈ us). h.bounded v n) (λ (e : v ≡ u). subst (Bounded l.terms.bounds) (sym e) bounded) (added-cases us u m);
        distinct = more-distinct;
        ids = taken-cases (λ _ p v. p.id ≡ ident v) h.ids refl;
        lengths = taken-cases (λ _ p v. p.length ≡ length (encode v)) h.lengths refl;
        bytes =
            taken-cases (λ k p v. slice (overwritten s at (encode u)) (start_of l.terms k) p.length ≡ encode v)
            (λ k g.
            overwritten-before s at (encode u) fits (start_of l.terms k) (place_at l k).length
            (omega (arith, ((holds-sound l s us h).each k (omega (arith, h.number))).short, start-next l.terms k l.used (omega (arith, h.number))))
            ∙ h.bytes k g)
            (subst (λ (n : ℕ). slice (overwritten s at (encode u)) (start_of l.terms n) (length (encode u)) ≡ encode u) h.number
            (overwritten-back s at (encode u) fits));
        inside =
            taken-cases (λ _ p v. within p.ancestors (length more) ≡ true)
            (λ k g. within_more (place_at l k).ancestors (length us) (length more) (omega (arith, one_more)) (h.inside k g))
            (within_none (length more));
      }

  pub take-truthful : Truthful (with_taken l (ident u) (length (encode u))) (us ++ (u ∷ []))
  take-truthful =
      let h = stands.holds in
      let t = stands.truthful in
      let grows = added_more us u in
      record {
        held_right =
            taken-cases (λ _ p v. p.standing ≡ IsHeld → Held rules more v)
            (λ k g q. grow-held rules us more grows more-distinct (t.held_right k g q))
            (λ q. absurd (held≢waiting (sym q)));
        void_right =
            taken-cases (λ _ p v. p.standing ≡ IsVoid → Void rules more v)
            (λ k g q. grow-void rules us more grows more-distinct (t.void_right k g q))
            (λ q. absurd (void≢waiting (sym q)));
        above_right = λ k j gk gj.
            taken-cases (λ _ p v. p.standing ≡ IsHeld → has p.ancestors j ≡ true → Ancestor rules more (update_at more j) v)
            (λ i g q.
            taken-cases (λ a _ x. has (place_at l i).ancestors a ≡ true → Ancestor rules more x (update_at us i))
            (λ a b e. grow-ancestor rules us more grows more-distinct (t.above_right i a g b q e))
            (λ e. absurd (true-false e (within→ (place_at l i).ancestors (length us) (h.inside i g) (length us) (le_refl _))))
            j
            gj)
            (λ q. absurd (held≢waiting (sym q)))
            k
            gk;
        above_all = λ k j gk gj.
            taken-cases (λ _ p v. p.standing ≡ IsHeld → Ancestor rules more (update_at more j) v → has p.ancestors j ≡ true)
            (λ i g q.
            let stay : (x : Update) → Ancestor rules more x (update_at us i) → Ancestor rules us x (update_at us i) =
            λ x. held-ancestors-stay rules us more grows more-distinct (t.held_right i g q) in
            taken-cases (λ a _ x. Ancestor rules more x (update_at us i) → has (place_at l i).ancestors a ≡ true)
            (λ a b e. t.above_all i a g b q (stay (update_at us a) e))
            (λ e. absurd (new u (ancestor-stored rules us (stay u e)) refl))
            j
            gj)
            (λ q. absurd (held≢waiting (sym q)))
            k
            gk;
        none_above = taken-cases (λ _ p v. (p.standing ≡ IsHeld → ⊥) → p.ancestors ≡ 0) t.none_above (λ _. refl);
      }
