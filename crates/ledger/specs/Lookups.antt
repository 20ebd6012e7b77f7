-- Demand 2 of the entry `standings` (document 02, E3): for a ledger that stands, each byte is what `standing` answers for its id, and what the rules say of it; and bytes and
-- comparisons are those of the walk through the ids of the updates stored.
use Rattle.std.specs.Prelude.{◌≡◌, refl, ℕ, zero, suc, ◌<◌, List, [], ◌∷◌, ◌++◌, map, true, length, get_or, drop}
use Rattle.std.proofs.Common.{sym, ap, ◌∙◌, arith, map-id}
use Rattle.std.proofs.lemmas.Simd.{map-map}
use Rattle.std.specs.Prelude.{Option, None, Some}
use Rattle.std.proofs.Math.ListN.{get_or-append}
use Rattle.bytes_order.specs.Order.{ascending}
use Rattle.bytes_order.specs.Member.{◌∈◌}
use Rattle.bytes_order.specs.MemberLaws.{map-∈, ∈-map, ∈-cast, map-cong}
use Rattle.bytes_order.specs.Sort.{sort}
use Rattle.bytes_order.specs.Ascending.{Ascending}
use Rattle.bytes_order.specs.SortLaws.{ascending→Ascending, ascending-map, ascending-unique, sort-∈, ∈-sort, sort-ascending}
use Rattle.update_format.specs.Update.{Id, Update}
use Rattle.update_format.specs.Decode.{ids_in}
use Rattle.rules.specs.declared.Standing.{Standing}
use Rattle.rules.specs.declared.Standing.TheVariants.{Held as IsHeld, Waiting as IsWaiting, Void as IsVoid}
use Rattle.rules.specs.Standing.{Held, Void, Waiting}
use Rattle.rules.specs.Settle.{settled_table}
use Rattle.standing_bytes.specs.StandingByte.{standing_byte, unknown_byte}
use Rattle.lookup_merge.specs.Merge.{Stored, id_of, merge}
use Rattle.lookup_merge.specs.ClosedForm.{closed_form}
use Rattle.lookup_merge.proofs.ClosedForm.{comparisons-closed}
use Rattle.lookup_merge.proofs.LookupLaws.{byte_for, byte_for-∈, byte_for-none, answers-length, merge-finds}
use Rattle.ledger_state.specs.State.{Book, place_at, find_in}
use Rattle.ledger_state.specs.Stands.{ident, rules, update_at, Stands}
use Rattle.ledger_state.specs.FindLaws.{stored_at, place_of, find-right, find_none}
use Rattle.lookup_standings.specs.Lookup.{LookupValues, compared_ids, place_id, stored_id, IdOrder, look_up, LookupRow, unfit, uneven, unordered, short, answered}
use Rattle.lookup_standings.specs.IdOrderLaws.{listed-ascend}
use Rattle.ledger.specs.Ask.{AskedValues, stands_as, unknown_id, asked_of}
use Rattle.ledger.specs.Answers.{standing_in, standing-right}
use Rattle.ledger.specs.Calls.{StandingSays, asked-found, says}

-- the byte that tells what `standing` answers
pub data Told : AskedValues → ℕ → Type 0 where
  told_standing : (v : Standing) → Told (stands_as v) (standing_byte v)
  told_unknown : Told unknown_id unknown_byte

-- the byte of an id by the rules: "0 held, 1 waiting, 2 void, 3 unknown"
pub data RuledByte (us : List Update) (i : Id) : ℕ → Type 0 where
  byte_held : (u : Update) → ident u ≡ i → Held rules us u → RuledByte us i (standing_byte IsHeld)
  byte_waiting : (u : Update) → ident u ≡ i → Waiting rules us u → RuledByte us i (standing_byte IsWaiting)
  byte_void : (u : Update) → ident u ≡ i → Void rules us u → RuledByte us i (standing_byte IsVoid)
  byte_unknown : ((u : Update) → u ∈ us → ident u ≡ i → ⊥) → RuledByte us i unknown_byte

-- the ids of the updates in ascending order, each with the byte of its standing by the rules
abbrev ruled_id : List Update → Id → Stored
ruled_id us i = record { id = i; byte = standing_byte (standing_in (settled_table rules us) i) }

abbrev pub ruled_ids : List Update → List Stored
ruled_ids us = map (ruled_id us) (sort (λ (i : Id). i) (map ident us))

-- Ids looked up among the updates us: the bytes and the comparisons are those of the walk beside their ids, the comparisons those of the closed form, and each byte the rules'.
pub record LookupRuled (us : List Update) (a o : List ℕ) (n : ℕ) (o' : List ℕ) : Type 0 where
  pub counted : n ≡ (merge (ruled_ids us) (ids_in a)).comparisons
  pub closed : n ≡ closed_form (sort (λ (i : Id). i) (map ident us)) (ids_in a)
  pub written : o' ≡ (merge (ruled_ids us) (ids_in a)).answers ++ drop (length (ids_in a)) o
  pub each : (k : ℕ) → k < length (ids_in a) → RuledByte us (get_or (ids_in a) k []) (get_or o' k 0)

get_d_map : (f : Id → ℕ) (is : List Id) (k : ℕ) → k < length is → get_or (map f is) k 0 ≡ f (get_or is k [])
get_d_map f [] k h = absurd (omega arith)
get_d_map f (i ∷ is) zero h = refl
get_d_map f (i ∷ is) (suc k) h = get_d_map f is k (omega arith)

asked-ascend : (a : List ℕ) → ascending (ids_in a) ≡ true → Ascending (λ (i : Id). i) (ids_in a)
asked-ascend a u = ascending→Ascending (ids_in a) (ap ascending (map-id (ids_in a)) ∙ u)

module _ {l : Book} {s : List ℕ} {us : List Update} (stands : Stands l s us) {ks : List ℕ} (o : IdOrder l ks) where
  abbrev listed : List Stored
  listed = map (stored_id l) ks

  -- a listed place holds an update, whose id it has
  place-below : {k : ℕ} → k ∈ ks → k < length us
  place-below {k} m = omega (arith, o.taken k m, stands.holds.number)

  listed-id : {k : ℕ} → k ∈ ks → place_id l k ≡ ident (update_at us k)
  listed-id {k} m = stands.holds.ids k (place-below m)

  -- the byte that is found, by where the id is found
  abbrev byte_at : Option ℕ → ℕ
  byte_at None = unknown_byte
  byte_at (Some k) = standing_byte (place_at l k).standing

  byte-at : (i : Id) (f : Option ℕ) → find_in l i ≡ f → byte_for listed i ≡ byte_at f
  byte-at i None e =
      byte_for-none listed i
      (λ x m d.
      let q = map-∈ (stored_id l) ks m in
      find_none l s us stands.holds i e (update_at us q.0) (stored_at us q.0 (place-below q.1)) (sym (listed-id q.1) ∙ ap id_of q.2 ∙ d))
  byte-at i (Some k) e =
      let r = find-right l s us stands.holds i k e in
      let q = o.every k (omega (arith, r.0, stands.holds.number)) in
      let d : place_id l q.0 ≡ i = q.2 ∙ stands.holds.ids k r.0 ∙ r.1 in
      let t : (place_at l q.0).standing ≡ (place_at l k).standing =
      standing-right l s us stands q.0 (place-below q.1)
      ∙ ap (standing_in (settled_table rules us)) (sym (listed-id q.1) ∙ d ∙ sym r.1)
      ∙ sym (standing-right l s us stands k r.0) in
      byte_for-∈ listed i (listed-ascend l o) (∈-map (stored_id l) q.1) d ∙ ap standing_byte t

  told_at : (i : Id) (f : Option ℕ) → find_in l i ≡ f → Told (asked_of l s i) (byte_for listed i)
  told_at i None e = rw (asked-found l s us stands i None e, byte-at i None e) told_unknown
  told_at i (Some k) e = rw (asked-found l s us stands i (Some k) e, byte-at i (Some k) e) (told_standing (place_at l k).standing)

  ruled-says : (i : Id) (k : ℕ) (v : Standing) → ident (update_at us k) ≡ i → StandingSays us v (update_at us k) → RuledByte us i (standing_byte v)
  ruled-says i k IsHeld e h = byte_held (update_at us k) e h
  ruled-says i k IsWaiting e h = byte_waiting (update_at us k) e h
  ruled-says i k IsVoid e h = byte_void (update_at us k) e h

  ruled-at : (i : Id) (f : Option ℕ) → find_in l i ≡ f → RuledByte us i (byte_for listed i)
  ruled-at i None e = rw (byte-at i None e) (byte_unknown (find_none l s us stands.holds i e))
  ruled-at i (Some k) e =
      let r = find-right l s us stands.holds i k e in
      rw (byte-at i (Some k) e) (ruled-says i k (place_at l k).standing r.1 (says l s us stands (place_at l k).standing k r.0 refl))

  -- the listed ids are those of the updates
  ids-listed : map (place_id l) ks ≡ sort (λ (i : Id). i) (map ident us)
  ids-listed =
      ascending-unique (ascending-map (λ (i : Id). i) (place_id l) o.ascends (λ k. refl)) (sort-ascending (λ (i : Id). i) (map ident us))
      (record {
        forth = λ i m.
            let q = map-∈ (place_id l) ks m in
            ∈-sort (λ (j : Id). j) (λ j k m n e. e) (∈-cast (sym q.2 ∙ listed-id q.1) (∈-map ident (stored_at us q.0 (place-below q.1))));
        back = λ i m.
            let q = map-∈ ident us (sort-∈ (λ (j : Id). j) (map ident us) m) in
            let p = place_of us q.1 in
            let t = o.every p.0 (omega (arith, p.1, stands.holds.number)) in
            ∈-cast (sym q.2 ∙ ap ident (sym p.2) ∙ sym (stands.holds.ids p.0 p.1) ∙ sym t.2) (∈-map (place_id l) t.1);
      })

  listed-ruled : listed ≡ ruled_ids us
  listed-ruled =
      map-cong (stored_id l) (λ (k : ℕ). ruled_id us (place_id l k)) ks
      (λ k m.
      ap (λ (v : Standing). record { id = place_id l k; byte = standing_byte v })
      (standing-right l s us stands k (place-below m) ∙ ap (standing_in (settled_table rules us)) (sym (listed-id m))))
      ∙ sym (map-map (ruled_id us) (place_id l) ks)
      ∙ ap (map (ruled_id us)) ids-listed

  -- the comparisons in closed form, of the updates' ids
  counts-closed : (a : List ℕ) → ascending (ids_in a) ≡ true → (look_up l ks a).comparisons ≡ closed_form (sort (λ (i : Id). i) (map ident us)) (ids_in a)
  counts-closed a u =
      comparisons-closed listed (ids_in a) (listed-ascend l o) (asked-ascend a u)
      ∙ ap (λ (is : List Id). closed_form is (ids_in a)) (map-map id_of (stored_id l) ks ∙ ids-listed)

  -- each byte of the answers
  byte_of : (a b : List ℕ) → ascending (ids_in a) ≡ true → (k : ℕ) → k < length (ids_in a) → get_or ((look_up l ks a).answers ++ b) k 0 ≡ byte_for listed (get_or (ids_in a) k [])
  byte_of a b u k h =
      get_or-append (look_up l ks a).answers b 0 k (omega (arith, answers-length listed (ids_in a)))
      ∙ ap (λ (bs : List ℕ). get_or bs k 0) (merge-finds listed (ids_in a) (listed-ascend l o) (asked-ascend a u))
      ∙ get_d_map (byte_for listed) (ids_in a) k h

-- For a ledger that stands, ids that are answered are answered by the rules.
pub lookup-ruled : {l : Book} {s : List ℕ} (us : List Update) → Stands l s us → {a o o' : List ℕ} {v : LookupValues} → LookupRow l s a o v o' → (n : ℕ) → v ≡ compared_ids n
    → LookupRuled us a o n o'
lookup-ruled us h (unfit e) n q = let z : ◌≡◌ {A = ℕ} 0 1 = cc in absurd (omega arith)
lookup-ruled us h (uneven e w) n q = let z : ◌≡◌ {A = ℕ} 0 1 = cc in absurd (omega arith)
lookup-ruled us h (unordered e w u) n q = let z : ◌≡◌ {A = ℕ} 0 1 = cc in absurd (omega arith)
lookup-ruled us h (short e w u g) n q = let z : ◌≡◌ {A = ℕ} 0 1 = cc in absurd (omega arith)
lookup-ruled {l} us h {a = a} {o = o} (answered ks e w u g t) n q =
    let p : (look_up l ks a).comparisons ≡ n = cc in
    record {
      counted = sym p ∙ ap (λ (xs : List Stored). (merge xs (ids_in a)).comparisons) (listed-ruled h t);
      closed = sym p ∙ counts-closed h t a u;
      written = ap (λ (xs : List Stored). (merge xs (ids_in a)).answers ++ drop (length (ids_in a)) o) (listed-ruled h t);
      each = λ k j. rw (byte_of h t a (drop (length (ids_in a)) o) u k j) (ruled-at h t (get_or (ids_in a) k []) (find_in l (get_or (ids_in a) k [])) refl);
    }

-- And each byte is what `standing` answers for its id.
pub lookup-singly : {l : Book} {s : List ℕ} (us : List Update) → Stands l s us → {a o o' : List ℕ} {v : LookupValues} → LookupRow l s a o v o' → (n : ℕ) → v ≡ compared_ids n
    → (k : ℕ) → k < length (ids_in a) → Told (asked_of l s (get_or (ids_in a) k [])) (get_or o' k 0)
lookup-singly us h (unfit e) n q k j = let z : ◌≡◌ {A = ℕ} 0 1 = cc in absurd (omega arith)
lookup-singly us h (uneven e w) n q k j = let z : ◌≡◌ {A = ℕ} 0 1 = cc in absurd (omega arith)
lookup-singly us h (unordered e w u) n q k j = let z : ◌≡◌ {A = ℕ} 0 1 = cc in absurd (omega arith)
lookup-singly us h (short e w u g) n q k j = let z : ◌≡◌ {A = ℕ} 0 1 = cc in absurd (omega arith)
lookup-singly {l} us h {a = a} {o = o} (answered ks e w u g t) n q k j =
    rw (byte_of h t a (drop (length (ids_in a)) o) u k j) (told_at h t (get_or (ids_in a) k []) (find_in l (get_or (ids_in a) k [])) refl)
