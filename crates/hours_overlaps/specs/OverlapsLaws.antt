-- The byte of a set entry: the computed one is that of the definition, and there is no other; a further entry lowers no byte.
use Rattle.std.specs.Prelude.{Option, None, Some, ℕ, ◌≤◌, ◌≡◌, List, map, Bool, ◌&&◌, eqb}
use Rattle.std.proofs.Common.{arith, sym, ◌∙◌, eqb-true, eq-eqb}
use Rattle.std.proofs.Math.Path.{refl, ap}
use Rattle.std.proofs.Math.Bool.{true, false, not}
use Rattle.std.proofs.lemmas.Bool.{not-true}
use Rattle.bytes_order.specs.BoolLaws.{true-false, not-true→false, and-true→, and-true}
use Rattle.bytes_order.specs.Order.{same}
use Rattle.bytes_order.specs.OrderLaws.{eq→same, same-false→ne, ne→same-false}
use Rattle.bytes_order.specs.Member.{◌∈◌, any}
use Rattle.bytes_order.specs.MemberLaws.{any→∈, ∈→any}
use Rattle.rules.specs.SetEntry.{SetEntry, entry_key}
use Rattle.rules.proofs.SetEntryLaws.{entry-key-injective}
use Rattle.hours_tags.specs.declared.Limits.{Limits}
use Rattle.hours_tags.specs.Hours.{Bounded, HoursTag, read_tag}
use Rattle.hours_tags.specs.HoursLaws.{hours→, →hours, plain→}
use Rattle.hours_runs.specs.Runs.{Surely, May, surely, may}
use Rattle.hours_runs.specs.RunsLaws.{surely→, →surely, may→, →may, surely-may}
use Rattle.hours_overlaps.specs.Overlaps.{plain_byte, none_byte, may_byte, surely_byte, Other, OverlapByte, byte-surely, byte-may, byte-none, byte-plain, meets, byte_by, reading_byte, reading_of, some_other, overlap_byte}

-- a test decides a relation of limits within the bounds
pub record DecidesLimits (R : Limits → Limits → Type 0) (r : Limits → Limits → Bool) : Type 0 where
  pub forth : (g h : Limits) → Bounded g → Bounded h → r g h ≡ true → R g h
  pub back : (g h : Limits) → Bounded g → Bounded h → R g h → r g h ≡ true

pub surely-decides : DecidesLimits Surely surely
surely-decides = record { forth = surely→; back = →surely }

pub may-decides : DecidesLimits May may
may-decides = record { forth = may→; back = →may }

-- what is read meets limits
meets→ : (r : Limits → Limits → Bool) (g : Limits) (x : Option Limits) → meets r g x ≡ true → (h : Limits) × (x ≡ Some h) × (g.pond ≡ h.pond) × (r g h ≡ true)
unfolding meets
meets→ r g None e = absurd (true-false e refl)
meets→ r g (Some h) e = let t = and-true→ (eqb g.pond h.pond) (r g h) e in (h, refl, eqb-true g.pond h.pond t.0, t.1)

→meets : (r : Limits → Limits → Bool) (g h : Limits) {x : Option Limits} → x ≡ Some h → g.pond ≡ h.pond → r g h ≡ true → meets r g x ≡ true
unfolding meets
→meets r g h e p q = rw e (and-true (eqb g.pond h.pond) (r g h) (eq-eqb g.pond h.pond p) q)

module _ (es : List SetEntry) (e : SetEntry) where
  -- whether there is such another entry
  module _ {R : Limits → Limits → Type 0} {r : Limits → Limits → Bool} (d : DecidesLimits R r) {g : Limits} (own : HoursTag e.tag g) where
    pub other→ : some_other es e r g ≡ true → Other es e R
    unfolding some_other
    other→ q =
        let a = any→∈ (λ (f : SetEntry). not (same (entry_key e) (entry_key f)) && meets r g (reading_of f)) es q in
        let f = a.0 in
        let t = and-true→ (not (same (entry_key e) (entry_key f))) (meets r g (reading_of f)) a.2 in
        let m = meets→ r g (reading_of f) t.1 in
        let k = hours→ f.tag m.1 in
        record {
          own-limits = g;
          own-hours = own;
          other = f;
          in-set = a.1;
          differs = λ p. same-false→ne (entry_key e) (entry_key f) (not-true (same (entry_key e) (entry_key f)) t.0) (ap entry_key p);
          limits = m.0;
          hours = k;
          same-pond = m.2;
          related = d.forth g m.0 own.in_bounds k.in_bounds m.3;
        }

    pub →other : Other es e R → some_other es e r g ≡ true
    unfolding some_other
    →other o =
        let f = o.other in
        let p : o.own-limits ≡ g = let a = →hours o.own-hours in let b = →hours own in cc in
        let s : g.pond ≡ o.limits.pond = ap (λ (h : Limits). h.pond) (sym p) ∙ o.same-pond in
        let k : R g o.limits = rw p at o.related in
        ∈→any (λ (f : SetEntry). not (same (entry_key e) (entry_key f)) && meets r g (reading_of f)) o.in-set
        (and-true (not (same (entry_key e) (entry_key f))) (meets r g (reading_of f))
        (rw (ne→same-false (entry_key e) (entry_key f) (λ q. o.differs (entry-key-injective e f q))) refl)
        (→meets r g o.limits (→hours o.hours) s (d.back g o.limits own.in_bounds o.hours.in_bounds k)))

    pub other_none : some_other es e r g ≡ false → Other es e R → ⊥
    other_none q o = true-false (→other o) q

  -- the computed byte is that of the definition
  by_tests : {g : Limits} → HoursTag e.tag g → (s m : Bool) → some_other es e surely g ≡ s → some_other es e may g ≡ m → OverlapByte es e (byte_by s m)
  unfolding byte_by
  by_tests own true m p q = byte-surely (other→ surely-decides own p)
  by_tests own false true p q = byte-may (other_none surely-decides own p) (other→ may-decides own q)
  by_tests {g} own false false p q = byte-none g own (other_none surely-decides own p) (other_none may-decides own q)

  by-reading : (x : Option Limits) → reading_of e ≡ x → OverlapByte es e (reading_byte (some_other es e surely) (some_other es e may) x)
  unfolding reading_byte
  by-reading None p = byte-plain (plain→ e.tag p)
  by-reading (Some g) p = by_tests (hours→ e.tag p) (some_other es e surely g) (some_other es e may g) refl refl

  pub byte-right : OverlapByte es e (overlap_byte es e)
  unfolding overlap_byte
  byte-right = by-reading (reading_of e) refl

  -- and there is no other
  no-hours : {C : Type 0} {R : Limits → Limits → Type 0} → ((h : Limits) → HoursTag e.tag h → ⊥) → Other es e R → C
  no-hours n o = absurd (n o.own-limits o.own-hours)

  pub byte_one : {a b : ℕ} → OverlapByte es e a → OverlapByte es e b → a ≡ b
  byte_one (byte-surely o) (byte-surely p) = refl
  byte_one (byte-surely o) (byte-may n p) = absurd (n o)
  byte_one (byte-surely o) (byte-none h g n m) = absurd (n o)
  byte_one (byte-surely o) (byte-plain n) = no-hours n o
  byte_one (byte-may n o) (byte-surely p) = absurd (n p)
  byte_one (byte-may n o) (byte-may m p) = refl
  byte_one (byte-may n o) (byte-none h g m k) = absurd (k o)
  byte_one (byte-may n o) (byte-plain m) = no-hours m o
  byte_one (byte-none h g n m) (byte-surely p) = absurd (n p)
  byte_one (byte-none h g n m) (byte-may k p) = absurd (m p)
  byte_one (byte-none h g n m) (byte-none i j k l) = refl
  byte_one (byte-none h g n m) (byte-plain k) = absurd (k h g)
  byte_one (byte-plain n) (byte-surely p) = no-hours n p
  byte_one (byte-plain n) (byte-may k p) = no-hours n p
  byte_one (byte-plain n) (byte-none h g k l) = absurd (n h g)
  byte_one (byte-plain n) (byte-plain k) = refl

-- An entry's byte falls only when another entry goes: where every other entry of es is among fs, the byte of e among fs is not lower.
module _ (es fs : List SetEntry) (e : SetEntry) (stay : (f : SetEntry) → f ∈ es → (e ≡ f → ⊥) → f ∈ fs) where
  stays : {R : Limits → Limits → Type 0} → Other es e R → Other fs e R
  stays o =
      record {
        own-limits = o.own-limits;
        own-hours = o.own-hours;
        other = o.other;
        in-set = stay o.other o.in-set o.differs;
        differs = o.differs;
        limits = o.limits;
        hours = o.hours;
        same-pond = o.same-pond;
        related = o.related;
      }

  not_lower : {a b : ℕ} → OverlapByte es e a → OverlapByte fs e b → a ≤ b
  not_lower (byte-surely o) (byte-surely p) = omega arith
  not_lower (byte-surely o) (byte-may n p) = absurd (n (stays o))
  not_lower (byte-surely o) (byte-none h g n m) = absurd (n (stays o))
  not_lower (byte-surely o) (byte-plain n) = absurd (n o.own-limits o.own-hours)
  not_lower (byte-may n o) (byte-surely p) = omega arith
  not_lower (byte-may n o) (byte-may m p) = omega arith
  not_lower (byte-may n o) (byte-none h g m k) = absurd (k (stays o))
  not_lower (byte-may n o) (byte-plain m) = absurd (m o.own-limits o.own-hours)
  not_lower (byte-none h g n m) (byte-surely p) = omega arith
  not_lower (byte-none h g n m) (byte-may k p) = omega arith
  not_lower (byte-none h g n m) (byte-none i j k l) = omega arith
  not_lower (byte-none h g n m) (byte-plain k) = absurd (k h g)
  not_lower (byte-plain n) b = omega arith

  pub byte-falls-not : overlap_byte es e ≤ overlap_byte fs e
  byte-falls-not = not_lower (byte-right es e) (byte-right fs e)
