-- The laws of the set of a list of offers: its members, and the updates that they are.
use Rattle.std.specs.Prelude.{◌≡◌, refl, ℕ, ◌≤◌, true, length}
use Rattle.std.proofs.Common.{sym, ◌∙◌, subst}
use Rattle.std.proofs.Math.Path.{ap}
use mathlib.Core.List.{List, ◌++◌}
use Rattle.std.proofs.lemmas.Bool.{false≢true}
use Rattle.std.proofs.lemmas.List.{length-map}
use Rattle.bytes_order.specs.Member.{◌∈◌, keep, SameMembers}
use Rattle.bytes_order.specs.MemberLaws.{∈-cast, ∈-append-left, ∈-append-right, ∈-map, map-∈, ∈-keep, keep-∈}
use Rattle.bytes_order.specs.Distinct.{Distinct}
use Rattle.bytes_order.specs.DistinctLaws.{distinct-map}
use Rattle.bytes_order.specs.SortLaws.{∈-sort, sort-∈, sort-ascending, sort-distinct, ascending-unique}
use Rattle.sha256_fips180.specs.Fips180.{SHA-256}
use Rattle.update_format.specs.declared.Bounds.{Bounds}
use Rattle.update_format.specs.Update.{Update, encode}
use Rattle.update_format.specs.Decode.{Decoded, refused, update, decode, update_of}
use Rattle.update_format.specs.Rows.{update-none}
use Rattle.update_format.specs.Laws.{decode-sound}
use Rattle.rules.specs.Terms.{Terms}
use Rattle.ledger_state.specs.Stands.{ident}
use Rattle.replicas_theorem.specs.Sets.{is_update, well_formed, set_of, updates_of, Fits, NoCollision}

is-update : (d : Decoded) → is_update d ≡ true → (u : Update) × (d ≡ update u)
unfolding is_update
is-update (refused n) e = absurd (false≢true e)
is-update (update u) e = (u, refl)

module _ (bounds : Bounds) where
  -- well-formed bytes decode to their update, and are its bytes
  pub well-formed→decode : (b : List ℕ) → well_formed bounds b ≡ true → decode bounds b ≡ update (update_of b)
  unfolding well_formed
  well-formed→decode b e = let r = is-update (decode bounds b) e in r.1 ∙ ap update (sym (update-none bounds b r.0 r.1).1)

  pub decode→well-formed : (b : List ℕ) (u : Update) → decode bounds b ≡ update u → well_formed bounds b ≡ true
  unfolding well_formed is_update
  decode→well-formed b u e = ap is_update e

  -- the members of a set
  pub set-∈ : (bs : List (List ℕ)) {b : List ℕ} → b ∈ set_of bounds bs → (b ∈ bs) × (well_formed bounds b ≡ true)
  unfolding set_of
  set-∈ bs m = keep-∈ (well_formed bounds) bs (sort-∈ (λ (b : List ℕ). b) (keep (well_formed bounds) bs) m)

  pub ∈-set : (bs : List (List ℕ)) {b : List ℕ} → b ∈ bs → well_formed bounds b ≡ true → b ∈ set_of bounds bs
  unfolding set_of
  ∈-set bs m e = ∈-sort (λ (b : List ℕ). b) (λ b c i j q. q) (∈-keep (well_formed bounds) m e)

  set-left : (xs ys : List (List ℕ)) {b : List ℕ} → b ∈ set_of bounds xs → b ∈ set_of bounds (xs ++ ys)
  set-left xs ys m = let r = set-∈ xs m in ∈-set (xs ++ ys) (∈-append-left ys r.0) r.1

  set-right : (xs ys : List (List ℕ)) {b : List ℕ} → b ∈ set_of bounds ys → b ∈ set_of bounds (xs ++ ys)
  set-right xs ys m = let r = set-∈ ys m in ∈-set (xs ++ ys) (∈-append-right xs r.0) r.1

  -- the SHA-256 tells the members of two sets apart
  abbrev pub Apart : List (List ℕ) → List (List ℕ) → Type 0
  Apart xs ys = (b c : List ℕ) → b ∈ set_of bounds xs → c ∈ set_of bounds ys → SHA-256 b ≡ SHA-256 c → b ≡ c

  -- so it is within each of two lists without a collision, and between them
  module _ (xs ys : List (List ℕ)) (none : NoCollision bounds xs ys) where
    pub first-apart : Apart xs xs
    first-apart b c m n = none b c (set-left xs ys m) (set-left xs ys n)

    pub second-apart : Apart ys ys
    second-apart b c m n = none b c (set-right xs ys m) (set-right xs ys n)

    pub both-apart : Apart xs ys
    both-apart b c m n = none b c (set-left xs ys m) (set-right xs ys n)

  -- a set is determined by its members
  pub set-unique : (xs ys : List (List ℕ)) → SameMembers (set_of bounds xs) (set_of bounds ys) → set_of bounds xs ≡ set_of bounds ys
  unfolding set_of
  set-unique xs ys s = ascending-unique (sort-ascending (λ (b : List ℕ). b) (keep (well_formed bounds) xs)) (sort-ascending (λ (b : List ℕ). b) (keep (well_formed bounds) ys)) s

  set-distinct : (bs : List (List ℕ)) → Distinct (λ (b : List ℕ). b) (set_of bounds bs)
  unfolding set_of
  set-distinct bs = sort-distinct (λ (b : List ℕ). b) (keep (well_formed bounds) bs)

  pub set-encode : (bs : List (List ℕ)) {b : List ℕ} → b ∈ set_of bounds bs → encode (update_of b) ≡ b
  set-encode bs {b} m = (decode-sound bounds b (update_of b) (well-formed→decode b (set-∈ bs m).1)).1

  pub set-ident : (bs : List (List ℕ)) {b : List ℕ} → b ∈ set_of bounds bs → ident (update_of b) ≡ SHA-256 b
  unfolding ident
  set-ident bs m = ap SHA-256 (set-encode bs m)

  -- what an offer decodes to is an update of the set
  pub ∈-updates : (bs : List (List ℕ)) (b : List ℕ) (u : Update) → b ∈ bs → decode bounds b ≡ update u → u ∈ updates_of bounds bs
  ∈-updates bs b u m e = ∈-cast (sym (update-none bounds b u e).1) (∈-map update_of (∈-set bs m (decode→well-formed b u e)))

  -- where the SHA-256 tells bytes apart, the id tells updates apart
  pub updates-identified : (xs ys : List (List ℕ)) → Apart xs ys → (u v : Update) → u ∈ updates_of bounds xs → v ∈ updates_of bounds ys → ident u ≡ ident v → u ≡ v
  updates-identified xs ys one u v m n e =
      let r = map-∈ update_of (set_of bounds xs) m in
      let q = map-∈ update_of (set_of bounds ys) n in
      let h : SHA-256 r.0 ≡ SHA-256 q.0 = sym (set-ident xs r.1) ∙ ap ident r.2 ∙ e ∙ ap ident (sym q.2) ∙ set-ident ys q.1 in
      sym r.2 ∙ ap update_of (one r.0 q.0 r.1 q.1 h) ∙ q.2

  pub updates-distinct : (bs : List (List ℕ)) → Apart bs bs → Distinct ident (updates_of bounds bs)
  updates-distinct bs one =
      distinct-map ident update_of (set-distinct bs) (λ b c m n e. one b c m n (sym (set-ident bs m) ∙ e ∙ set-ident bs n))

  -- the same updates are the same bytes
  updates-⊆ : (xs ys : List (List ℕ)) → ((u : Update) → u ∈ updates_of bounds xs → u ∈ updates_of bounds ys) → (b : List ℕ) → b ∈ set_of bounds xs → b ∈ set_of bounds ys
  updates-⊆ xs ys f b m =
      let r = map-∈ update_of (set_of bounds ys) (f (update_of b) (∈-map update_of m)) in
      ∈-cast (sym (set-encode xs m) ∙ ap encode (sym r.2) ∙ set-encode ys r.1) r.1

  pub updates-unique : (xs ys : List (List ℕ)) → SameMembers (updates_of bounds xs) (updates_of bounds ys) → set_of bounds xs ≡ set_of bounds ys
  updates-unique xs ys s = set-unique xs ys (record { forth = updates-⊆ xs ys s.forth; back = updates-⊆ ys xs s.back })

-- a list fits exactly where its set has no more members than there are places
pub fits← : (t : Terms) (bs : List (List ℕ)) → length (set_of t.bounds bs) ≤ t.places → Fits t bs
fits← t bs h = record { few = subst (λ (n : ℕ). n ≤ t.places) (sym (length-map (set_of t.bounds bs) update_of)) h }

pub fits→ : (t : Terms) (bs : List (List ℕ)) → Fits t bs → length (set_of t.bounds bs) ≤ t.places
fits→ t bs f = subst (λ (n : ℕ). n ≤ t.places) (length-map (set_of t.bounds bs) update_of) f.few
