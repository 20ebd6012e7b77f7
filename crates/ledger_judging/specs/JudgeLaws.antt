-- The judgement of a place is that of the rules: with places that hold the updates `us` and say only what is so, a place judged to hold is Held, with
-- exactly its ancestors in the word; one judged to fail is Void; and one that goes on waiting is not decided by what its predecessors say. At the start when the
-- predecessors of a place are all held. In order: that (`ready-at→`, `→ready-at`); validity by a word that has exactly the ancestors' places; the places of the predecessors and
-- of their ancestors; the antichain rule. Main laws, at the end: `judged-held`, `judged-above`, `judged-above-all`, `judged-void`, and of one that goes on waiting
-- `judged-no-void` and `judged-not-ready`.
use Rattle.std.specs.Prelude.{◌≡◌, ℕ, ◌<◌, List, Bool, cond}
use Rattle.std.proofs.Math.Path.{refl, ap, subst}
use Rattle.std.proofs.Common.{sym, ◌∙◌, subst₂}
use Rattle.std.proofs.Math.Logic.{inl, inr, ⊎_elim}
use Rattle.std.specs.Prelude.{Option, None, Some}
use Rattle.std.proofs.Math.Bool.{true, false}
use Rattle.std.proofs.lemmas.Bool.{false≢true}
use Rattle.std.proofs.Math.ListN.{length}
use Rattle.bytes_order.specs.Order.{same}
use Rattle.bytes_order.specs.Member.{◌∈◌}
use Rattle.bytes_order.specs.BoolLaws.{true-false, or-true→, or_left, or_right, and-true→, and-true}
use Rattle.bytes_order.specs.OrderLaws.{same→eq, eq→same}
use Rattle.bytes_order.specs.MemberLaws.{∈-cast, all→∈, ∈→all}
use Rattle.bytes_order.specs.DistinctLaws.{distinct-index}
use Rattle.update_format.specs.Update.{Id, Operation, Add, Remove, Insert, Delete, Update}
use Rattle.update_format.specs.Decode.{Decoded}
use Rattle.rules.specs.Standing.{beginning, Ancestor, InsertAncestor, Valid, Known, Antichain, Held, PredsHeld, Void}
use Rattle.rules.specs.Settle.{is_add, is_insert}
use Rattle.update_fields.specs.Fields.{test_of}
use Rattle.rules.proofs.LeastSets.{ancestor-stored, ancestor-cases}
use Rattle.rules.proofs.SettlingTable.{is_add→, →is_add, is_insert→, →is_insert}
use Rattle.bitset.specs.Bits.{has, join}
use Rattle.bitset.specs.BitsLaws.{has_join}
use Rattle.rules.specs.declared.Standing.TheVariants.{Held as IsHeld, Void as IsVoid}
use Rattle.ledger_judging.specs.declared.Gathered.{Gathered}
use Rattle.ledger_judging.specs.declared.Judgement.{Judgement}
use Rattle.ledger_judging.specs.declared.Judgement.TheVariants.{Holds as Judged-holds, Fails, Waits}
use Rattle.ledger_state.specs.State.{Book, place_at, decoded_at, find_in}
use Rattle.ledger_judging.specs.Antichain.{antichain_at}
use Rattle.ledger_judging.specs.AntichainLaws.{antichain-at→, →antichain-at}
use Rattle.ledger_judging.specs.Judge.{nothing_gathered, gather, names_at, names_ancestor, valid, judge_ready, judge_gathered, judge_decoded, judge_at, all_held, ready_decoded, ready_at}
use Rattle.ledger_state.specs.Stands.{ident, rules, no_update, update_at, Holds, Truthful}
use Rattle.ledger_state.specs.FindLaws.{stored_at, stored-update, place_of, find-right, find-all}
use Rattle.ledger_judging.specs.GatherLaws.{AllHeld, gathered-void→, gathered-void←, gathered-ready→, gathered-ready←, all-held→, all-held←, gathered-direct→, gathered-direct←, gathered-held, gathered-above→, gathered-above←}

-- the predecessors of its update are all held exactly where each is at a held place
module _ (l : Book) (s : List ℕ) (us : List Update) (holds : Holds l s us) (k : ℕ) (h : k < length us) where
  ready-update : ready_at l s k ≡ all_held (gather l nothing_gathered (update_at us k).preds)
  unfolding ready_at ready_decoded
  ready-update = ap (ready_decoded l) (stored-update l s us holds k h)

  pub ready-at→ : ready_at l s k ≡ true → AllHeld l us (update_at us k).preds
  ready-at→ e = all-held→ l s us holds (update_at us k).preds (sym ready-update ∙ e)

  pub →ready-at : AllHeld l us (update_at us k).preds → ready_at l s k ≡ true
  →ready-at a = ready-update ∙ all-held← l s us holds (update_at us k).preds a

-- the word has exactly the places of the ancestors of u
record AncestorWord (us : List Update) (u : Update) (w : ℕ) : Type 0 where
  only : (j : ℕ) → j < length us → has w j ≡ true → Ancestor rules us (update_at us j) u
  each : (j : ℕ) → j < length us → Ancestor rules us (update_at us j) u → has w j ≡ true

-- the operations are valid by such a word as by the rules
module _ {l : Book} {s : List ℕ} {us : List Update} (holds : Holds l s us) {u : Update} {w : ℕ} (word : AncestorWord us u w) where
  names→ : (p : Operation → Bool) (i : Id) → names_ancestor l s p w i ≡ true
      → (x : Update) × Ancestor rules us x u × (ident x ≡ i) × (p x.op ≡ true)
  unfolding names_ancestor names_at test_of
  names→ p i = step (find_in l i) refl
    where
      step : (o : Option ℕ) → find_in l i ≡ o → names_at l s p w o ≡ true
          → (x : Update) × Ancestor rules us x u × (ident x ≡ i) × (p x.op ≡ true)
      step None f e = absurd (false≢true e)
      step (Some j) f e =
          let r = find-right l s us holds i j f in
          let q = and-true→ (has w j) (test_of p (decoded_at l s j)) e in
          (update_at us j, word.only j r.0 q.0, r.1, ap (test_of p) (sym (stored-update l s us holds j r.0)) ∙ q.1)

  →names : (p : Operation → Bool) {i : Id} {x : Update} → Ancestor rules us x u → ident x ≡ i → p x.op ≡ true → names_ancestor l s p w i ≡ true
  unfolding names_ancestor names_at test_of
  →names p {i} {x} a e q =
      let r = place_of us (ancestor-stored rules us a) in
      let f : find_in l i ≡ Some r.0 = ap (find_in l) (sym e ∙ ap ident (sym r.2)) ∙ find-all l s us holds r.0 r.1 in
      ap (names_at l s p w) f
      ∙ and-true (has w r.0) (test_of p (decoded_at l s r.0))
      (word.each r.0 r.1 (subst (λ (y : Update). Ancestor rules us y u) (sym r.2) a))
      (ap (test_of p) (stored-update l s us holds r.0 r.1) ∙ ap (λ (y : Update). p y.op) r.2 ∙ q)

  insert→ : (i : Id) → names_ancestor l s is_insert w i ≡ true → InsertAncestor rules us u i
  insert→ i e =
      let a = names→ is_insert i e in
      let o = is_insert→ a.0.op a.3 in
      record { found = a.0; above = a.1; has-id = a.2; anchor = o.0; value = o.1; is-insert = o.2 }

  →insert : {i : Id} → InsertAncestor rules us u i → names_ancestor l s is_insert w i ≡ true
  →insert a = →names is_insert a.above a.has-id (→is_insert a.is-insert)

  valid→ : (o : Operation) → valid l s w o ≡ true → Valid rules us u o
  unfolding valid
  valid→ (Add t) e = tt
  valid→ (Remove t named) e = λ i m.
      let a = names→ (is_add t) i (all→∈ (names_ancestor l s (is_add t) w) named e i m) in
      record { found = a.0; above = a.1; has-id = a.2; is-add = is_add→ t a.0.op a.3 }
  valid→ (Insert a v) e =
      ⊎_elim (λ (h : same a beginning ≡ true). inl (same→eq a beginning h)) (λ (h : names_ancestor l s is_insert w a ≡ true). inr (insert→ a h))
      (or-true→ (same a beginning) (names_ancestor l s is_insert w a) e)
  valid→ (Delete i) e = insert→ i e

  →valid : (o : Operation) → Valid rules us u o → valid l s w o ≡ true
  unfolding valid
  →valid (Add t) v = refl
  →valid (Remove t named) v =
      ∈→all (names_ancestor l s (is_add t) w) named (λ i m. let a = v i m in →names (is_add t) a.above a.has-id (→is_add t a.is-add))
  →valid (Insert a x) v =
      ⊎_elim (λ (h : a ≡ beginning). or_left (same a beginning) (names_ancestor l s is_insert w a) (eq→same a beginning h))
      (λ (h : InsertAncestor rules us u a). or_right (same a beginning) (names_ancestor l s is_insert w a) (→insert h)) v
  →valid (Delete i) v = →insert v

-- what a judgement of u says
Says : Book → List Update → Update → Judgement → Type 0
Says l us u (Judged-holds w) = Held rules us u × AncestorWord us u w
Says l us u Fails = Void rules us u
Says l us u Waits =
    ((j : ℕ) → j < length us → ident (update_at us j) ∈ u.preds → (place_at l j).standing ≡ IsVoid → ⊥)
    × (Known rules us u → ((j : ℕ) → j < length us → ident (update_at us j) ∈ u.preds → (place_at l j).standing ≡ IsHeld) → ⊥)

module _ (l : Book) (s : List ℕ) (us : List Update) (holds : Holds l s us) where
  module _ (truthful : Truthful l us) where
    module _ {u : Update} (stored : u ∈ us) where
      abbrev gathered : Gathered
      gathered = gather l nothing_gathered u.preds

      -- all predecessors are held
      module _ (ready : AllHeld l us u.preds) where
        preds-known : Known rules us u
        preds-known = record { found = λ i m. let r = ready i m in (update_at us r.0, stored_at us r.0 r.1, r.2) }

        pred-held : (j : ℕ) → j < length us → ident (update_at us j) ∈ u.preds → (place_at l j).standing ≡ IsHeld
        pred-held j h p =
            let r = ready (ident (update_at us j)) p in
            ap (λ (k : ℕ). (place_at l k).standing) (sym (distinct-index no_update holds.distinct r.0 j r.1 h r.2)) ∙ r.3

        preds-held : PredsHeld rules us u
        preds-held v m p =
            let r = place_of us m in
            subst (Held rules us) r.2 (truthful.held_right r.0 r.1 (pred-held r.0 r.1 (∈-cast (ap ident r.2) p)))

        -- the places of the predecessors, and of their ancestors
        direct-has : (j : ℕ) → j < length us → ident (update_at us j) ∈ u.preds → has gathered.direct j ≡ true
        direct-has j h p = gathered-direct← l s us holds u.preds j h p (pred-held j h p)

        above-has : (j : ℕ) {y : Update} → j < length us → y ∈ us → ident y ∈ u.preds → Ancestor rules us (update_at us j) y
            → has gathered.above j ≡ true
        above-has j h m p a =
            let r = place_of us m in
            let q = ∈-cast (ap ident r.2) p in
            let held = pred-held r.0 r.1 q in
            gathered-above← l s us holds u.preds j r.0 r.1 q held
            (truthful.above_all r.0 j r.1 h held (subst (Ancestor rules us (update_at us j)) (sym r.2) a))

        has_above : (j : ℕ) → j < length us → has gathered.above j ≡ true
            → (y : Update) × (y ∈ us) × (ident y ∈ u.preds) × Ancestor rules us (update_at us j) y
        has_above j h e =
            let r = gathered-above→ l s us holds u.preds j e in
            (update_at us r.0, stored_at us r.0 r.1, r.2, truthful.above_right r.0 j r.1 h r.3 r.4)

        word : ℕ
        word = join gathered.direct gathered.above

        word-right : AncestorWord us u word
        unfolding word
        word-right =
            record {
              only = λ j h e.
                  ⊎_elim
                  (λ (d : has gathered.direct j ≡ true).
                  Ancestor.direct (stored_at us j h) (gathered-direct→ l s us holds u.preds j d).1)
                  (λ (d : has gathered.above j ≡ true). let r = has_above j h d in Ancestor.further r.1 r.2 r.3)
                  (or-true→ (has gathered.direct j) (has gathered.above j) (sym (has_join gathered.direct gathered.above j) ∙ e));
              each = λ j h a.
                  has_join gathered.direct gathered.above j
                  ∙ ⊎_elim
                  (λ (d : (update_at us j ∈ us) × (ident (update_at us j) ∈ u.preds)).
                  or_left (has gathered.direct j) (has gathered.above j) (direct-has j h d.1))
                  (λ (d : (y : Update) × (y ∈ us) × (ident y ∈ u.preds) × Ancestor rules us (update_at us j) y).
                  or_right (has gathered.direct j) (has gathered.above j) (above-has j h d.1 d.2 d.3))
                  (ancestor-cases rules us a);
            }

        -- the antichain rule
        antichain→ : antichain_at l gathered.direct ≡ true → Antichain rules us u
        antichain→ e x y mx my px py a =
            let r = place_of us mx in
            let q = place_of us my in
            antichain-at→ holds truthful gathered.direct (gathered-held l s us holds u.preds) e r.0 q.0
            (direct-has r.0 r.1 (∈-cast (ap ident r.2) px))
            (direct-has q.0 q.1 (∈-cast (ap ident q.2) py))
            (subst₂ (Ancestor rules us) (sym r.2) (sym q.2) a)

        →antichain : Antichain rules us u → antichain_at l gathered.direct ≡ true
        →antichain n =
            →antichain-at holds truthful gathered.direct (gathered-held l s us holds u.preds)
            (λ j k x y a.
            let d = gathered-direct→ l s us holds u.preds j x in
            let e = gathered-direct→ l s us holds u.preds k y in
            n (update_at us j) (update_at us k) (stored_at us j d.0) (stored_at us k e.0) d.1 e.1 a)

        ready-says : Says l us u (judge_ready l s u.op gathered.direct gathered.above)
        unfolding judge_ready Says word
        ready-says = step (antichain_at l gathered.direct) (valid l s word u.op) refl refl
          where
            step : (a v : Bool) → antichain_at l gathered.direct ≡ a → valid l s word u.op ≡ v
                → Says l us u (cond a (cond v (Judged-holds word) Fails) Fails)
            step true true e f = (
              Held.held stored preds-known preds-held
                  (record {
                    antichain = antichain→ e;
                    valid = valid→ holds word-right u.op f;
                  }),
              word-right,
            )
            step true false e f = Void.broken stored preds-known preds-held (λ d. true-false (→valid holds word-right u.op d.valid) f)
            step false v e f =
                Void.broken stored preds-known preds-held
                (λ d. true-false (→antichain d.antichain) e)

      gathered-says : Says l us u (judge_gathered l s u.op gathered)
      unfolding judge_gathered Says
      gathered-says = step gathered.void gathered.ready refl refl
        where
          known-held : Known rules us u
              → ((j : ℕ) → j < length us → ident (update_at us j) ∈ u.preds → (place_at l j).standing ≡ IsHeld) → AllHeld l us u.preds
          known-held known below i m =
              let q = known.found i m in
              let r = place_of us q.1 in
              let e : ident (update_at us r.0) ≡ i = ap ident r.2 ∙ q.2 in
              (r.0, r.1, e, below r.0 r.1 (∈-cast e m))

          step : (v r : Bool) → gathered.void ≡ v → gathered.ready ≡ r
              → Says l us u (cond v Fails (cond r (judge_ready l s u.op gathered.direct gathered.above) Waits))
          step true r e f =
              let p = gathered-void→ l s us holds u.preds e in
              Void.after stored (stored_at us p.0 p.1) p.2 (truthful.void_right p.0 p.1 p.3)
          step false true e f = ready-says (gathered-ready→ l s us holds u.preds e f)
          step false false e f = (
            λ j h m x. true-false (gathered-void← l s us holds u.preds j h m x) e,
            λ known below. true-false (gathered-ready← l s us holds u.preds (known-held known below)) f,
          )

    judged : (k : ℕ) → k < length us → Says l us (update_at us k) (judge_at l s k)
    unfolding judge_at judge_decoded
    judged k h =
        subst (λ (d : Decoded). Says l us (update_at us k) (judge_decoded l s d)) (sym (stored-update l s us holds k h))
        (gathered-says (stored_at us k h))

    pub judged-held : (k w : ℕ) → k < length us → judge_at l s k ≡ Judged-holds w → Held rules us (update_at us k)
    unfolding Says
    judged-held k w h e = (subst (Says l us (update_at us k)) e (judged k h)).0

    pub judged-above : (k w j : ℕ) → k < length us → j < length us → judge_at l s k ≡ Judged-holds w → has w j ≡ true
        → Ancestor rules us (update_at us j) (update_at us k)
    unfolding Says
    judged-above k w j h g e = (subst (Says l us (update_at us k)) e (judged k h)).1.only j g

    pub judged-above-all : (k w j : ℕ) → k < length us → j < length us → judge_at l s k ≡ Judged-holds w
        → Ancestor rules us (update_at us j) (update_at us k) → has w j ≡ true
    unfolding Says
    judged-above-all k w j h g e = (subst (Says l us (update_at us k)) e (judged k h)).1.each j g

    pub judged-void : (k : ℕ) → k < length us → judge_at l s k ≡ Fails → Void rules us (update_at us k)
    unfolding Says
    judged-void k h e = subst (Says l us (update_at us k)) e (judged k h)

    pub judged-no-void : (k j : ℕ) → k < length us → j < length us → judge_at l s k ≡ Waits → ident (update_at us j) ∈ (update_at us k).preds
        → (place_at l j).standing ≡ IsVoid → ⊥
    unfolding Says
    judged-no-void k j h g e = (subst (Says l us (update_at us k)) e (judged k h)).0 j g

    pub judged-not-ready : (k : ℕ) → k < length us → judge_at l s k ≡ Waits → Known rules us (update_at us k)
        → ((j : ℕ) → j < length us → ident (update_at us j) ∈ (update_at us k).preds → (place_at l j).standing ≡ IsHeld) → ⊥
    unfolding Says
    judged-not-ready k h e = (subst (Says l us (update_at us k)) e (judged k h)).1
