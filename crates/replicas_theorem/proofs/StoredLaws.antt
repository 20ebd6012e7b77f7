-- The updates stored after a list of offers are those of its set, where they fit and no two share an id.
use Rattle.std.proofs.Math.Path.{◌≡◌, refl}
use Rattle.std.proofs.Common.{sym, ◌∙◌, ap, arith}
use Rattle.std.specs.Prelude.{ℕ, Bool, true, false, cond}
use Rattle.std.proofs.Math.Logic.{⊎_elim}
use mathlib.Core.List.Memᴰ
use mathlib.Core.List.{List, [], ◌∷◌, ◌++◌, map}
use Rattle.bytes_order.specs.Member.{◌∈◌, member, SameMembers}
use Rattle.bytes_order.specs.MemberLaws.{∈-cast, ∈-cases, ∈-singleton, ∈-append-left, ∈-append-right, append-∈, ∈-map, map-∈, member→∈, member-false→}
use Rattle.bytes_order.specs.Distinct.{Distinct, distinct_nil, distinct_cons, Identifies}
use Rattle.bytes_order.specs.DistinctLaws.{distinct_append}
use Rattle.update_format.specs.Update.{Update}
use Rattle.update_format.specs.Decode.{Decoded, refused, update, decode, update_of}
use Rattle.rules.specs.Terms.{Terms}
use Rattle.rules.specs.Room.{has_room, RoomForAll}
use Rattle.rules.proofs.RoomLaws.{each_fits}
use Rattle.ledger_state.specs.Stands.{ident}
use Rattle.ledger.specs.Calls.{accept_decoded, stored_from, stored}
use Rattle.replicas_theorem.specs.Sets.{set_of, updates_of, Fits}
use Rattle.replicas_theorem.proofs.SetLaws.{well-formed→decode, set-∈, Apart, ∈-updates, updates-identified}

module _ (terms : Terms) where
  module _ (S : List Update) where
    -- distinct updates of the set S
    record Within (us : List Update) : Type 0 where
      distinct : Distinct ident us
      inside : (u : Update) → u ∈ us → u ∈ S

    -- us' is stored after an offer that is decoded to d
    record Accepts (us : List Update) (d : Decoded) (us' : List Update) : Type 0 where
      within : Within us'
      earlier : (u : Update) → u ∈ us → u ∈ us'
      offered : (u : Update) → d ≡ update u → u ∈ us'

    -- us' is stored after the offers bs
    record Stores (us : List Update) (bs : List (List ℕ)) (us' : List Update) : Type 0 where
      within : Within us'
      earlier : (u : Update) → u ∈ us → u ∈ us'
      offered : (b : List ℕ) (u : Update) → b ∈ bs → decode terms.bounds b ≡ update u → u ∈ us'

  -- where there is room for the set, and the id tells its updates apart
  module _ (S : List Update) (fit : RoomForAll terms S) (one : Identifies ident S) where
    module _ (us : List Update) (w : Within S us) where
      -- there is room for an update of the set with a new id
      room : {u : Update} → u ∈ S → (ident u ∈ map ident us → ⊥) → has_room terms us u ≡ true
      room {u} m new = each_fits terms ident S us fit w.distinct w.inside u m new

      appended : {u : Update} → u ∈ S → (ident u ∈ map ident us → ⊥) → Within S (us ++ (u ∷ []))
      appended {u} m new =
          record {
            distinct =
                distinct_append w.distinct (distinct_cons (λ v k e. Memᴰ.not-nil k) distinct_nil)
                (λ v v' k k' e. new (∈-cast (ap ident (sym (∈-singleton k')) ∙ sym e) (∈-map ident k)));
            inside = λ v k. ⊎_elim (λ (i : v ∈ us). w.inside v i) (λ (i : v ∈ u ∷ []). ∈-cast (∈-singleton i) m) (append-∈ us k);
          }

      accepts : (d : Decoded) → ((u : Update) → d ≡ update u → u ∈ S) → Accepts S us d (accept_decoded terms us d)
      unfolding accept_decoded
      accepts (refused n) f = record { within = w; earlier = λ u m. m; offered = λ u e. let z : ◌≡◌ {A = ℕ} 0 1 = cc in absurd (omega arith) }
      accepts (update u) f = step (member (ident u) (map ident us)) refl
        where
          known : ident u ∈ map ident us → u ∈ us
          known m = let r = map-∈ ident us m in ∈-cast (one u r.0 (f u refl) (w.inside r.0 r.1) (sym r.2)) r.1

          step : (b : Bool) → member (ident u) (map ident us) ≡ b
              → Accepts S us (update u) (cond b us (cond (has_room terms us u) (us ++ (u ∷ [])) us))
          step true e =
              record {
                within = w;
                earlier = λ v m. m;
                offered = λ v q. let p : v ≡ u = cc in ∈-cast p (known (member→∈ (ident u) (map ident us) e));
              }
          step false e =
              rw (room (f u refl) (member-false→ e))
              (record {
                within = appended (f u refl) (member-false→ e);
                earlier = λ v m. ∈-append-left (u ∷ []) m;
                offered = λ v q. let p : v ≡ u = cc in ∈-append-right us (Memᴰ.head p);
              })

    stores : (us : List Update) (bs : List (List ℕ)) → Within S us → ((b : List ℕ) (u : Update) → b ∈ bs → decode terms.bounds b ≡ update u → u ∈ S)
        → Stores S us bs (stored_from terms us bs)
    unfolding stored_from
    stores us [] w f = record { within = w; earlier = λ u m. m; offered = λ b u m e. absurd (Memᴰ.not-nil m) }
    stores us (b ∷ bs) w f =
        let a = accepts us w (decode terms.bounds b) (λ u e. f b u (Memᴰ.head refl) e) in
        let r = stores (accept_decoded terms us (decode terms.bounds b)) bs a.within (λ c u m e. f c u (Memᴰ.tail m) e) in
        record {
          within = r.within;
          earlier = λ u m. r.earlier u (a.earlier u m);
          offered =
              λ c u m e.
              ⊎_elim (λ (q : c ≡ b). r.earlier u (a.offered u (ap (decode terms.bounds) (sym q) ∙ e))) (λ (k : c ∈ bs). r.offered c u k e) (∈-cases m);
        }

  module _ (bs : List (List ℕ)) (fits : Fits terms bs) (one : Apart terms.bounds bs bs) where
    all-stored : Stores (updates_of terms.bounds bs) [] bs (stored terms bs)
    all-stored =
        stores (updates_of terms.bounds bs) fits (updates-identified terms.bounds bs bs one) [] bs
        (record { distinct = distinct_nil; inside = λ u m. absurd (Memᴰ.not-nil m) })
        (∈-updates terms.bounds bs)

    pub stored-distinct : Distinct ident (stored terms bs)
    stored-distinct = all-stored.within.distinct

    -- the stored updates are those of the set
    pub stored_same : SameMembers (stored terms bs) (updates_of terms.bounds bs)
    stored_same =
        record {
          forth = all-stored.within.inside;
          back =
              λ u m.
              let r = map-∈ update_of (set_of terms.bounds bs) m in
              let s = set-∈ terms.bounds bs r.1 in
              all-stored.offered r.0 u s.0 (well-formed→decode terms.bounds r.0 s.1 ∙ ap update r.2);
        }
