-- Entries put one after the other, each at the beginning or right after its anchor, make the walk of their tree: where parents come before their
-- children, and of two siblings the one that is walked later. In order: the walk of siblings (`Walked`); one entry more with nothing under it; an entry put under its anchor; what
-- is put is there once (`Put`); entries in the order of a key, each anchored at the beginning or at one with a smaller key (`Descending`, `Rooted`). Main law, at the end:
-- `put-all`, that all of them put are the walk (`IsWalk`).
use Prim.Native.Nat.{ℕ}
use Rattle.std.specs.Prelude.{◌≡◌, ◌⊎◌, ◌&&◌}
use Rattle.std.proofs.Math.Path.{refl, ap, subst}
use Rattle.std.proofs.Common.{sym, ◌∙◌}
use Rattle.std.proofs.Math.Logic.{inl, inr, ⊎_elim}
use mathlib.Core.List.Memᴰ
use mathlib.Core.List.{List, [], ◌∷◌, ◌++◌, append_assoc}
use Rattle.std.proofs.Math.Bool.{Bool, true, false, cond, not}
use Rattle.bytes_order.specs.Order.{before, same}
use Rattle.bytes_order.specs.Member.{◌∈◌, keep, concat_map}
use Rattle.bytes_order.specs.Distinct.{Distinct, distinct_nil, distinct_cons}
use Rattle.bytes_order.specs.Ascending.{Ascending, ascending-nil, ascending-cons}
use Rattle.bytes_order.specs.BoolLaws.{bool_cases, true-false, not-true→false, and-true→}
use Rattle.bytes_order.specs.OrderLaws.{same→eq, eq→same, ne→same-false, before-asym, before→ne}
use Rattle.bytes_order.specs.MemberLaws.{∈-cases, keep-none, concat_map-append}
use Rattle.update_format.specs.Update.{Id}
use Rattle.rules.specs.Standing.{beginning}
use Rattle.rules.proofs.TableLaws.{not-true→}
use Rattle.ledger_relations.specs.PlaceTests.{id_at}
use Rattle.report_parts.specs.PlaceParts.{after, put_by, put_entry, put_all}
use Rattle.update_fields.specs.Fields.{anchor_in}
use Rattle.ledger_state.specs.State.{Book, decoded_at}

module _ (l : Book) (s : List ℕ) where
  abbrev pub anchor_at : ℕ → Id
  anchor_at k = anchor_in (decoded_at l s k)

  -- an anchor at the list's beginning, and one under x
  unfoldable pub at_start : Id → Bool
  at_start a = same a beginning

  unfoldable pub under_at : ℕ → Id → Bool
  under_at x a = not (same a beginning) && same a (id_at l s x)

  -- the entries whose anchor passes a test
  unfoldable pub entries_at : List ℕ → (Id → Bool) → List ℕ
  entries_at O p = keep (λ (k : ℕ). p (anchor_at k)) O

  -- the walk of siblings, with what hangs under each in the order of O, is the second list
  pub data Walked (O : List ℕ) : List ℕ → List ℕ → Type 0 where
    none : Walked O [] []
    entry : {e : ℕ} {es below next : List ℕ} → Walked O (entries_at O (under_at e)) below → Walked O es next → Walked O (e ∷ es) (e ∷ (below ++ next))

  -- e right after each entry that it hangs under
  under_all : ℕ → List ℕ → List ℕ
  under_all e xs = concat_map (λ (x : ℕ). x ∷ cond (under_at x (anchor_at e)) (e ∷ []) []) xs

  -- one more entry, the first of all, with nothing under it
  module _ {O : List ℕ} {e : ℕ} (leaf : (x : ℕ) → x ∈ e ∷ O → under_at e (anchor_at x) ≡ false) where
    no-child : Walked (e ∷ O) (entries_at (e ∷ O) (under_at e)) []
    unfolding entries_at
    no-child = subst (λ (es : List ℕ). Walked (e ∷ O) es []) (sym (keep-none (λ (k : ℕ). under_at e (anchor_at k)) (e ∷ O) leaf)) Walked.none

    first-child : (p : Id → Bool) {w : List ℕ} → Walked (e ∷ O) (entries_at O p) w → Walked (e ∷ O) (entries_at (e ∷ O) p) (cond (p (anchor_at e)) (e ∷ []) [] ++ w)
    unfolding entries_at keep
    first-child p {w} h = step (p (anchor_at e))
      where
        step : (c : Bool) → Walked (e ∷ O) (cond c (e ∷ entries_at O p) (entries_at O p)) (cond c (e ∷ []) [] ++ w)
        step true = Walked.entry no-child h
        step false = h

    walked_more : {es w : List ℕ} → Walked O es w → Walked (e ∷ O) es (under_all e w)
    unfolding under_all concat_map
    walked_more Walked.none = Walked.none
    walked_more (Walked.entry {e = x} {es = es} {below = below} {next = next} b n) =
        subst (λ (w : List ℕ). Walked (e ∷ O) (x ∷ es) (x ∷ w))
        (append_assoc (cond (under_at x (anchor_at e)) (e ∷ []) []) (under_all e below) (under_all e next)
        ∙ ap (λ (w : List ℕ). cond (under_at x (anchor_at e)) (e ∷ []) [] ++ w) (sym (concat_map-append (λ (y : ℕ). y ∷ cond (under_at y (anchor_at e)) (e ∷ []) []) below next)))
        (Walked.entry (first-child (under_at x) (walked_more b)) (walked_more n))

  -- where it hangs under no entry, nothing is put
  under_none : (e : ℕ) (xs : List ℕ) → ((x : ℕ) → x ∈ xs → under_at x (anchor_at e) ≡ false) → under_all e xs ≡ xs
  unfolding under_all concat_map
  under_none e [] h = refl
  under_none e (x ∷ xs) h =
      λ i. x ∷ (cond (h x (Memᴰ.head refl) i) (e ∷ []) [] ++ under_none e xs (λ y m. h y (Memᴰ.tail m)) i)

  -- an anchor that is not the beginning is one entry's id
  module _ (e : ℕ) (free : same (anchor_at e) beginning ≡ false) where
    hangs : (x : ℕ) → id_at l s x ≡ anchor_at e → under_at x (anchor_at e) ≡ true
    unfolding under_at
    hangs x q = ap (λ (b : Bool). not b && same (anchor_at e) (id_at l s x)) free ∙ eq→same (anchor_at e) (id_at l s x) (sym q)

    hangs-not : (x : ℕ) → (id_at l s x ≡ anchor_at e → ⊥) → under_at x (anchor_at e) ≡ false
    unfolding under_at
    hangs-not x n = ap (λ (b : Bool). not b && same (anchor_at e) (id_at l s x)) free ∙ ne→same-false (anchor_at e) (id_at l s x) (λ q. n (sym q))

    after-under : {xs : List ℕ} → Distinct (id_at l s) xs → (q : ℕ) → q ∈ xs → id_at l s q ≡ anchor_at e → after l s (anchor_at e) e xs ≡ under_all e xs
    unfolding after under_all concat_map
    after-under distinct_nil q m h = absurd (Memᴰ.not-nil m)
    after-under (distinct_cons {x = x} {xs = xs} n d) q m h =
        step (bool_cases (same (id_at l s x) (anchor_at e))) (λ (k : q ∈ xs). after-under d q k h)
      where
        here : Bool → List ℕ
        here b = cond b (x ∷ e ∷ xs) (x ∷ after l s (anchor_at e) e xs)

        there : Bool → List ℕ
        there b = x ∷ (cond b (e ∷ []) [] ++ under_all e xs)

        step : (same (id_at l s x) (anchor_at e) ≡ true) ⊎ (same (id_at l s x) (anchor_at e) ≡ false) → (q ∈ xs → after l s (anchor_at e) e xs ≡ under_all e xs)
            → here (same (id_at l s x) (anchor_at e)) ≡ there (under_at x (anchor_at e))
        step (inl t) below =
            let p : id_at l s x ≡ anchor_at e = same→eq (id_at l s x) (anchor_at e) t in
            ap here t ∙ ap (λ (w : List ℕ). x ∷ e ∷ w) (sym (under_none e xs (λ y k. hangs-not y (λ r. n y k (p ∙ sym r))))) ∙ ap there (sym (hangs x p))
        step (inr t) below =
            let p : id_at l s x ≡ anchor_at e → ⊥ = λ r. true-false (eq→same (id_at l s x) (anchor_at e) r) t in
            ap here t
            ∙ ap (λ (w : List ℕ). x ∷ w) (below (⊎_elim (λ (r : q ≡ x). absurd (p (ap (id_at l s) (sym r) ∙ h))) (λ (k : q ∈ xs). k) (∈-cases m)))
            ∙ ap there (sym (hangs-not x p))

  -- what is put is there once, with all that was there
  module _ (a : Id) (e : ℕ) where
    after-∈ : (xs : List ℕ) {x : ℕ} → x ∈ after l s a e xs → (x ≡ e) ⊎ (x ∈ xs)
    unfolding after
    after-∈ [] m = ⊎_elim inl inr (∈-cases m)
    after-∈ (y ∷ ys) {x} m = step (same (id_at l s y) a) m (λ (k : x ∈ after l s a e ys). after-∈ ys k)
      where
        step : (b : Bool) → x ∈ cond b (y ∷ e ∷ ys) (y ∷ after l s a e ys) → (x ∈ after l s a e ys → (x ≡ e) ⊎ (x ∈ ys)) → (x ≡ e) ⊎ (x ∈ y ∷ ys)
        step true k below =
            ⊎_elim (λ (q : x ≡ y). inr (Memᴰ.head q)) (λ (j : x ∈ e ∷ ys). ⊎_elim (λ (q : x ≡ e). inl q) (λ (i : x ∈ ys). inr (Memᴰ.tail i)) (∈-cases j)) (∈-cases k)
        step false k below =
            ⊎_elim (λ (q : x ≡ y). inr (Memᴰ.head q)) (λ (j : x ∈ after l s a e ys). ⊎_elim (λ (q : x ≡ e). inl q) (λ (i : x ∈ ys). inr (Memᴰ.tail i)) (below j)) (∈-cases k)

    ∈-after : (xs : List ℕ) {x : ℕ} → x ∈ e ∷ xs → x ∈ after l s a e xs
    unfolding after
    ∈-after [] m = m
    ∈-after (y ∷ ys) {x} m = step (same (id_at l s y) a) (∈-cases m) (λ (k : x ∈ e ∷ ys). ∈-after ys k)
      where
        step : (b : Bool) → (x ≡ e) ⊎ (x ∈ y ∷ ys) → (x ∈ e ∷ ys → x ∈ after l s a e ys) → x ∈ cond b (y ∷ e ∷ ys) (y ∷ after l s a e ys)
        step true (inl q) below = Memᴰ.tail (Memᴰ.head q)
        step true (inr k) below = ⊎_elim (λ (q : x ≡ y). Memᴰ.head q) (λ (i : x ∈ ys). Memᴰ.tail (Memᴰ.tail i)) (∈-cases k)
        step false (inl q) below = Memᴰ.tail (below (Memᴰ.head q))
        step false (inr k) below = ⊎_elim (λ (q : x ≡ y). Memᴰ.head q) (λ (i : x ∈ ys). Memᴰ.tail (below (Memᴰ.tail i))) (∈-cases k)

    after-distinct : {xs : List ℕ} → Distinct (id_at l s) xs → ((x : ℕ) → x ∈ xs → id_at l s e ≡ id_at l s x → ⊥) → Distinct (id_at l s) (after l s a e xs)
    unfolding after
    after-distinct distinct_nil h = distinct_cons h distinct_nil
    after-distinct (distinct_cons {x = y} {xs = ys} n d) h = step (same (id_at l s y) a) (after-distinct d (λ x m. h x (Memᴰ.tail m)))
      where
        step : (b : Bool) → Distinct (id_at l s) (after l s a e ys) → Distinct (id_at l s) (cond b (y ∷ e ∷ ys) (y ∷ after l s a e ys))
        step true below =
            distinct_cons (λ z m q. ⊎_elim (λ (r : z ≡ e). h y (Memᴰ.head refl) (sym (q ∙ ap (id_at l s) r))) (λ (k : z ∈ ys). n z k q) (∈-cases m))
            (distinct_cons (λ z m. h z (Memᴰ.tail m)) d)
        step false below =
            distinct_cons (λ z m q. ⊎_elim (λ (r : z ≡ e). h y (Memᴰ.head refl) (sym (q ∙ ap (id_at l s) r))) (λ (k : z ∈ ys). n z k q) (after-∈ ys m)) below

  -- the entries O, put so far, and their walk w
  pub record Put (O w : List ℕ) : Type 0 where
    pub walked : Walked O (entries_at O at_start) w
    pub forth : (x : ℕ) → x ∈ w → x ∈ O
    pub back : (x : ℕ) → x ∈ O → x ∈ w
    pub once : Distinct (id_at l s) w

  put_one : {O w : List ℕ} {e : ℕ} → Put O w → ((x : ℕ) → x ∈ e ∷ O → under_at e (anchor_at x) ≡ false)
      → ((x : ℕ) → x ∈ O → id_at l s e ≡ id_at l s x → ⊥)
      → (same (anchor_at e) beginning ≡ false → (q : ℕ) × (q ∈ O) × (id_at l s q ≡ anchor_at e))
      → Put (e ∷ O) (put_entry l s e w)
  unfolding put_entry put_by at_start under_at
  put_one {O} {w} {e} h leaf fresh parent = step (same (anchor_at e) beginning) refl
    where
      more : Walked (e ∷ O) (entries_at (e ∷ O) at_start) (cond (same (anchor_at e) beginning) (e ∷ []) [] ++ under_all e w)
      more = first-child leaf at_start (walked_more leaf h.walked)

      both : {x : ℕ} → x ∈ e ∷ w → x ∈ e ∷ O
      both {x} m = ⊎_elim (λ (q : x ≡ e). Memᴰ.head q) (λ (k : x ∈ w). Memᴰ.tail (h.forth x k)) (∈-cases m)

      back' : {x : ℕ} → x ∈ e ∷ O → x ∈ e ∷ w
      back' {x} m = ⊎_elim (λ (q : x ≡ e). Memᴰ.head q) (λ (k : x ∈ O). Memᴰ.tail (h.back x k)) (∈-cases m)

      fresh' : (x : ℕ) → x ∈ w → id_at l s e ≡ id_at l s x → ⊥
      fresh' x m = fresh x (h.forth x m)

      step : (b : Bool) → same (anchor_at e) beginning ≡ b → Put (e ∷ O) (cond b (e ∷ w) (after l s (anchor_at e) e w))
      step true q = record {
        walked = subst (Walked (e ∷ O) (entries_at (e ∷ O) at_start))
            (λ i. cond (q i) (e ∷ []) [] ++ under_none e w (λ x m. ap (λ (b : Bool). not b && same (anchor_at e) (id_at l s x)) q) i) more;
        forth = λ x m. both m;
        back = λ x m. back' m;
        once = distinct_cons fresh' h.once;
      }
      step false q =
          let f = parent q in
          record {
            walked = subst (Walked (e ∷ O) (entries_at (e ∷ O) at_start))
                (λ i. cond (q i) (e ∷ []) [] ++ sym (after-under e q h.once f.0 (h.back f.0 f.1) f.2) i) more;
            forth = λ x m. both (⊎_elim (λ (r : x ≡ e). Memᴰ.head r) (λ (k : x ∈ w). Memᴰ.tail k) (after-∈ (anchor_at e) e w m));
            back = λ x m. ∈-after (anchor_at e) e w (back' m);
            once = after-distinct (anchor_at e) e h.once fresh';
          }

  -- of each entry the key comes after the keys of those that follow
  pub data Descending (key : ℕ → List ℕ) : List ℕ → Type 0 where
    descending-nil : Descending key []
    descending-cons : {x : ℕ} {xs : List ℕ} → ((y : ℕ) → y ∈ xs → before (key y) (key x) ≡ true) → Descending key xs → Descending key (x ∷ xs)

  -- entries with ids of their own, each anchored at the beginning or at one with a smaller key
  pub record Rooted (key : ℕ → List ℕ) (es : List ℕ) : Type 0 where
    pub apart : (x y : ℕ) → x ∈ es → y ∈ es → id_at l s x ≡ id_at l s y → x ≡ y
    pub parent : (x : ℕ) → x ∈ es → same (anchor_at x) beginning ≡ false → (q : ℕ) × (q ∈ es) × (id_at l s q ≡ anchor_at x) × (before (key q) (key x) ≡ true)

  -- w is the walk of the entries es, largest key first
  pub record IsWalk (key : ℕ → List ℕ) (es w : List ℕ) : Type 0 where
    pub from-largest : List ℕ
    pub is-put : Put from-largest w
    pub descending : Descending key from-largest
    pub only : (x : ℕ) → x ∈ from-largest → x ∈ es
    pub all_in : (x : ℕ) → x ∈ es → x ∈ from-largest

  module _ {key : ℕ → List ℕ} {All : List ℕ} (rooted : Rooted key All) where
    -- the entries O are put, the entries es are to come
    record Between (O es w : List ℕ) : Type 0 where
      is-put : Put O w
      descending : Descending key O
      later : (x y : ℕ) → x ∈ O → y ∈ es → before (key x) (key y) ≡ true
      only : (x : ℕ) → x ∈ O → x ∈ All
      to-come : (x : ℕ) → x ∈ es → x ∈ All
      all_in : (x : ℕ) → x ∈ All → (x ∈ O) ⊎ (x ∈ es)

    next : {O es w : List ℕ} {e : ℕ} → ((y : ℕ) → y ∈ es → before (key e) (key y) ≡ true) → Between O (e ∷ es) w → Between (e ∷ O) es (put_entry l s e w)
    unfolding under_at
    next {O} {es} {w} {e} smallest b = record {
      is-put = put_one b.is-put leaf (λ x m q. before→ne (key x) (key e) (larger x m) (ap key (sym (rooted.apart e x e-in (b.only x m) q)))) parent;
      descending = descending-cons larger b.descending;
      later = λ x y m k. ⊎_elim (λ (q : x ≡ e). subst (λ (z : ℕ). before (key z) (key y) ≡ true) (sym q) (smallest y k)) (λ (i : x ∈ O). b.later x y i (Memᴰ.tail k)) (∈-cases m);
      only = only';
      to-come = λ x m. b.to-come x (Memᴰ.tail m);
      all_in = λ x m. ⊎_elim (λ (k : x ∈ O). inl (Memᴰ.tail k)) (λ (k : x ∈ e ∷ es). ⊎_elim (λ (q : x ≡ e). inl (Memᴰ.head q)) (λ (i : x ∈ es). inr i) (∈-cases k)) (b.all_in x m);
    }
      where
        e-in : e ∈ All
        e-in = b.to-come e (Memᴰ.head refl)

        larger : (x : ℕ) → x ∈ O → before (key x) (key e) ≡ true
        larger x m = b.later x e m (Memᴰ.head refl)

        only' : (x : ℕ) → x ∈ e ∷ O → x ∈ All
        only' x m = ⊎_elim (λ (q : x ≡ e). subst (λ (z : ℕ). z ∈ All) (sym q) e-in) (λ (k : x ∈ O). b.only x k) (∈-cases m)

        -- nothing put is larger than e
        smaller : (x : ℕ) → x ∈ e ∷ O → before (key e) (key x) ≡ true → ⊥
        smaller x m h =
            ⊎_elim (λ (q : x ≡ e). before→ne (key e) (key x) h (ap key (sym q))) (λ (k : x ∈ O). true-false h (before-asym (key x) (key e) (larger x k))) (∈-cases m)

        leaf : (x : ℕ) → x ∈ e ∷ O → (not (same (anchor_at x) beginning) && same (anchor_at x) (id_at l s e)) ≡ false
        leaf x m =
            not-true→false (not (same (anchor_at x) beginning) && same (anchor_at x) (id_at l s e))
            (λ h. let g = and-true→ (not (same (anchor_at x) beginning)) (same (anchor_at x) (id_at l s e)) h in
            let f = rooted.parent x (only' x m) (not-true→ (same (anchor_at x) beginning) g.0) in
            let q : f.0 ≡ e = rooted.apart f.0 e f.1 e-in (f.2 ∙ same→eq (anchor_at x) (id_at l s e) g.1) in
            smaller x m (subst (λ (z : ℕ). before (key z) (key x) ≡ true) q f.3))

        parent : same (anchor_at e) beginning ≡ false → (q : ℕ) × (q ∈ O) × (id_at l s q ≡ anchor_at e)
        parent h =
            let f = rooted.parent e e-in h in (
              f.0,
              ⊎_elim (λ (k : f.0 ∈ O). k)
                  (λ (k : f.0 ∈ e ∷ es). absurd
                  (⊎_elim (λ (q : f.0 ≡ e). before→ne (key f.0) (key e) f.3 (ap key q))
                  (λ (i : f.0 ∈ es). true-false f.3 (before-asym (key e) (key f.0) (smallest f.0 i))) (∈-cases k)))
                  (b.all_in f.0 f.1),
              f.2,
            )

    run : {O es w : List ℕ} → Ascending key es → Between O es w → IsWalk key All (put_all l s w es)
    unfolding put_all
    run {O} ascending-nil b = record {
      from-largest = O;
      is-put = b.is-put;
      descending = b.descending;
      only = b.only;
      all_in = λ x m. ⊎_elim (λ (k : x ∈ O). k) (λ (k : x ∈ []). absurd (Memᴰ.not-nil k)) (b.all_in x m);
    }
    run {O} {w = w} (ascending-cons {x = x} h d) b = run {O = x ∷ O} d (next h b)

    pub put-all : Ascending key All → IsWalk key All (put_all l s [] All)
    unfolding entries_at keep
    put-all d = run d (record {
      is-put = record { walked = Walked.none; forth = λ x m. m; back = λ x m. m; once = distinct_nil };
      descending = descending-nil;
      later = λ x y m k. absurd (Memᴰ.not-nil m);
      only = λ x m. absurd (Memᴰ.not-nil m);
      to-come = λ x m. m;
      all_in = λ x m. inr m;
    })
