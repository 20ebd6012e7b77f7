-- Hours tags: a tag is read as hours exactly where it is an hours tag, and as plain exactly where it is none; the limits that a tag says and its last six bytes are all
-- that it has, and the six bytes do not count.
use Rattle.std.specs.Prelude.{Option, None, Some, ℕ, zero, suc, ◌+◌, ◌*◌, ◌/◌, ◌%◌, ◌≤◌, ◌<◌, ◌≡◌, List, [], ◌∷◌, ◌++◌, Bool, true, false, cond, ◌&&◌, length, get_or, take, drop, eqb, leb}
use native.Mathlib.Omega.{arith}
use Rattle.std.proofs.Math.Path.{refl}
use Rattle.std.proofs.Common.{sym, ap, ap₂, ◌∙◌, get_or-take, drop-cons, leb-true, le-leb, eqb-true, eq-eqb}
use Rattle.bytes_order.specs.BoolLaws.{true-false, not-true→false, and-true→, and-true}
use Rattle.bytes_words.specs.Words.{Bytes, bytes_in}
use Rattle.bytes_pairs.specs.Pairs.{pair_at}
use Rattle.bytes_words.proofs.WordsLaws.{big-bytes_in}
use Rattle.bytes_pairs.specs.PairsLaws.{pair-drop, pair-bytes, pair-laid}
use Rattle.update_format.specs.Update.{tag_length}
use Rattle.hours_tags.specs.declared.Limits.{Limits}
use Rattle.hours_tags.specs.Hours.{hours_mark, last_start, shortest_run, longest_run, limits_in, Bounded, HoursTag, bounded, read_tag, tag_of}

-- the bounds as a test
pub bounded→ : (h : Limits) → bounded h ≡ true → Bounded h
unfolding bounded
bounded→ h e =
    let a = and-true→ (leb h.earliest h.latest) _ e in
    let b = and-true→ (leb h.latest last_start) _ a.1 in
    let c = and-true→ (leb shortest_run h.shortest) _ b.1 in
    let d = and-true→ (leb h.shortest h.longest) _ c.1 in
    let i = leb-true h.earliest h.latest a.0 in
    let j = leb-true h.latest last_start b.0 in
    let k = leb-true shortest_run h.shortest c.0 in
    let m = leb-true h.shortest h.longest d.0 in
    let n = leb-true h.longest longest_run d.1 in
    record {
      earliest_to = omega arith;
      latest_to = j;
      shortest_from = k;
      shortest_to = omega arith;
      longest_from = omega arith;
      longest_to = n;
      starts_ordered = i;
      runs_ordered = m;
    }

pub →bounded : (h : Limits) → Bounded h → bounded h ≡ true
unfolding bounded
→bounded h b =
    and-true _ _ (le-leb h.earliest h.latest b.starts_ordered)
    (and-true _ _ (le-leb h.latest last_start b.latest_to)
    (and-true _ _ (le-leb shortest_run h.shortest b.shortest_from)
    (and-true _ _ (le-leb h.shortest h.longest b.runs_ordered) (le-leb h.longest longest_run b.longest_to))))

pub unbounded : (h : Limits) → (Bounded h → ⊥) → bounded h ≡ false
unbounded h n = not-true→false (bounded h) (λ e. n (bounded→ h e))

-- what a tag is read as
is_hours : List ℕ → Bool
is_hours t = eqb (length t) tag_length && (eqb (get_or t 0 0) hours_mark && bounded (limits_in t))

is-hours : (t : List ℕ) → length t ≡ tag_length → get_or t 0 0 ≡ hours_mark → Bounded (limits_in t) → is_hours t ≡ true
unfolding is_hours
is-hours t s m b = and-true _ _ (eq-eqb (length t) tag_length s) (and-true _ _ (eq-eqb (get_or t 0 0) hours_mark m) (→bounded (limits_in t) b))

hours-tag : (t : List ℕ) → is_hours t ≡ true → HoursTag t (limits_in t)
unfolding is_hours
hours-tag t e =
    let a = and-true→ (eqb (length t) tag_length) _ e in
    let b = and-true→ (eqb (get_or t 0 0) hours_mark) _ a.1 in
    record { sized = eqb-true (length t) tag_length a.0; marked = eqb-true (get_or t 0 0) hours_mark b.0; says = refl; in_bounds = bounded→ (limits_in t) b.1 }

read_by : (t : List ℕ) (b : Bool) → is_hours t ≡ b → read_tag t ≡ cond b (Some (limits_in t)) None
unfolding is_hours read_tag
read_by t b e = ap (λ (c : Bool). cond c (Some (limits_in t)) None) e

-- read as hours exactly where it is an hours tag
pub →hours : {t : List ℕ} {h : Limits} → HoursTag t h → read_tag t ≡ Some h
→hours {t} {h} g =
    let e = g.says in
    read_by t true (is-hours t g.sized g.marked (rw e g.in_bounds)) ∙ ap Some e

pub hours→ : (t : List ℕ) {h : Limits} → read_tag t ≡ Some h → HoursTag t h
hours→ t {h} e = by-test (is_hours t) refl
  where
    by-test : (b : Bool) → is_hours t ≡ b → HoursTag t h
    by-test true q = let p : limits_in t ≡ h = let r = read_by t true q in cc in rw (← p) (hours-tag t q)
    by-test false q = let z : ◌≡◌ {A = ℕ} 0 1 = let r = read_by t false q in cc in absurd (omega arith)

-- and as plain exactly where it is none
pub →plain : {t : List ℕ} → ((h : Limits) → HoursTag t h → ⊥) → read_tag t ≡ None
→plain {t} n = read_by t false (not-true→false (is_hours t) (λ e. n (limits_in t) (hours-tag t e)))

pub plain→ : (t : List ℕ) → read_tag t ≡ None → (h : Limits) → HoursTag t h → ⊥
plain→ t e h g = let r = →hours g in let z : ◌≡◌ {A = ℕ} 0 1 = cc in omega arith

-- read by its parts
pub hours-read : (t : List ℕ) → length t ≡ tag_length → get_or t 0 0 ≡ hours_mark → bounded (limits_in t) ≡ true → read_tag t ≡ Some (limits_in t)
hours-read t s m b = →hours (record { sized = s; marked = m; says = refl; in_bounds = bounded→ (limits_in t) b })

pub plain-unbounded : (t : List ℕ) → bounded (limits_in t) ≡ false → read_tag t ≡ None
plain-unbounded t e = →plain (λ h g. true-false (let p = g.says in →bounded (limits_in t) (rw p g.in_bounds)) e)

-- the tag that is laid out from limits within the bounds says them, whatever its last six bytes
module _ (h : Limits) (b : Bounded h) (free : List ℕ) where
  laid-limits : limits_in (tag_of h free) ≡ h
  unfolding bytes_in
  laid-limits =
      let e : pair_at (tag_of h free) 2 ≡ h.earliest = big-bytes_in 2 (omega (arith, b.earliest_to)) in
      let l : pair_at (tag_of h free) 4 ≡ h.latest = big-bytes_in 2 (omega (arith, b.latest_to)) in
      let s : pair_at (tag_of h free) 6 ≡ h.shortest = big-bytes_in 2 (omega (arith, b.shortest_to)) in
      let g : pair_at (tag_of h free) 8 ≡ h.longest = big-bytes_in 2 (omega (arith, b.longest_to)) in
      λ i. record { pond = h.pond; earliest = e i; latest = l i; shortest = s i; longest = g i }

  laid-length : length free ≡ 6 → length (tag_of h free) ≡ tag_length
  unfolding bytes_in
  laid-length e = omega arith

  pub tag_back : length free ≡ 6 → read_tag (tag_of h free) ≡ Some h
  tag_back e = →hours (record { sized = laid-length e; marked = refl; says = laid-limits; in_bounds = b })

-- and no other tag does
pub tag-only : (t : List ℕ) {h : Limits} → Bytes t → read_tag t ≡ Some h → t ≡ tag_of h (drop 10 t)
tag-only t {h} bytes e =
    let g = hours→ t e in
    let w : length t ≡ 16 = g.sized in
    let m = g.marked in
    rw (← g.says)
    (pair-drop t 0 (omega arith)
    ∙ ap₂ (λ (x : ℕ) (r : List ℕ). x ∷ get_or t 1 0 ∷ r) m
    (pair-laid t 2 bytes (omega arith)
    ∙ ap (λ (r : List ℕ). bytes_in 2 (pair_at t 2) ++ r)
    (pair-laid t 4 bytes (omega arith)
    ∙ ap (λ (r : List ℕ). bytes_in 2 (pair_at t 4) ++ r)
    (pair-laid t 6 bytes (omega arith) ∙ ap (λ (r : List ℕ). bytes_in 2 (pair_at t 6) ++ r) (pair-laid t 8 bytes (omega arith))))))

-- "the last six bytes are free": tags with the same first ten bytes are read alike
module _ (t u : List ℕ) (sized : length t ≡ tag_length) (other-sized : length u ≡ tag_length) (same-ten : take 10 t ≡ take 10 u) where
  same_byte : (i : ℕ) → i < 10 → get_or t i 0 ≡ get_or u i 0
  same_byte i h = sym (get_or-take 10 t i 0 h) ∙ ap (λ (b : List ℕ). get_or b i 0) same-ten ∙ get_or-take 10 u i 0 h

  same-pair : (i : ℕ) → i + 2 ≤ 10 → pair_at t i ≡ pair_at u i
  same-pair i h =
      pair-bytes t i (omega arith)
      ∙ ap₂ (λ (x y : ℕ). 256 * x + y) (same_byte i (omega arith)) (same_byte (i + 1) (omega arith))
      ∙ sym (pair-bytes u i (omega arith))

  same-limits : limits_in t ≡ limits_in u
  same-limits =
      let p = same_byte 1 (omega arith) in
      let e = same-pair 2 (omega arith) in
      let l = same-pair 4 (omega arith) in
      let s = same-pair 6 (omega arith) in
      let g = same-pair 8 (omega arith) in
      λ i. record { pond = p i; earliest = e i; latest = l i; shortest = s i; longest = g i }

  pub free_bytes : read_tag t ≡ read_tag u
  unfolding read_tag
  free_bytes = rw (sized, other-sized, same_byte 0 (omega arith), same-limits) refl
