-- Runs: where two overlap; that the comparisons of limits decide "surely" and "may", in both directions; that both are symmetric and that what surely overlaps may overlap;
-- and that runs which are cut at the week's end overlap as they do uncut.
use Rattle.std.specs.Prelude.{ℕ, ◌+◌, ◌≤◌, ◌<◌, ◌≡◌, Bool, true, false, ◌&&◌, ltb, leb}
use Rattle.std.proofs.Common.{arith}
use Rattle.std.proofs.Math.Path.{refl}
use borrow.Author.Tests.{ltb-true, ltb-false, leb-true, leb-false, lt-ltb}
use Rattle.bytes_order.specs.BoolLaws.{and-true→, and-true}
use Rattle.hours_tags.specs.declared.Limits.{Limits}
use Rattle.hours_tags.specs.Hours.{last_start, Bounded}
use Rattle.hours_runs.specs.Runs.{Covers, Overlap, Choice, Surely, May, surely, may}

-- two runs that overlap start each before the other ends
pub overlap→ : {s r s' r' : ℕ} → Overlap s r s' r' → (s < s' + r') × (s' < s + r)
overlap→ o = (omega (arith, o.in_one, o.in_other), omega (arith, o.in_one, o.in_other))

-- runs that start each before the other ends, of which none is empty, overlap: they meet at the later start
pub →overlap : {s r s' r' : ℕ} → 1 ≤ r → 1 ≤ r' → s < s' + r' → s' < s + r → Overlap s r s' r'
→overlap {s} {r} {s'} {r'} some some' one other = by-test (leb s s') refl
  where
    by-test : (b : Bool) → leb s s' ≡ b → Overlap s r s' r'
    by-test true e =
        let h = leb-true s s' e in
        record { minute = s'; in_one = record { from_start = h; before_end = other }; in_other = record { from_start = omega arith; before_end = omega arith } }
    by-test false e =
        let h = leb-false s s' e in
        record { minute = s; in_one = record { from_start = omega arith; before_end = omega arith }; in_other = record { from_start = omega arith; before_end = one } }

-- "one that starts as another ends does not overlap it"
pub end-no-overlap : {s r r' : ℕ} → Overlap s r (s + r) r' → ⊥
end-no-overlap o = omega (arith, o.in_one, o.in_other)

-- Runs cut at the week's end: a minute that both cover is in the week.
pub record CutOverlap (s r s' r' : ℕ) : Type 0 where
  pub overlap : Overlap s r s' r'
  pub in_week : overlap.minute ≤ last_start

-- Runs that start in the week overlap in the week, if they overlap at all: they meet at the later start. So cutting changes no overlap.
pub cut-overlap : {s r s' r' : ℕ} → s ≤ last_start → s' ≤ last_start → Overlap s r s' r' → CutOverlap s r s' r'
cut-overlap {s} {r} {s'} {r'} in_week in-week' o = by-test (leb s s') refl
  where
    by-test : (b : Bool) → leb s s' ≡ b → CutOverlap s r s' r'
    by-test true e =
        let h = leb-true s s' e in
        record {
          overlap = record {
            minute = s';
            in_one = record { from_start = h; before_end = omega (arith, o.in_one, o.in_other) };
            in_other = record { from_start = omega arith; before_end = omega (arith, o.in_one, o.in_other) };
          };
          in_week = in-week';
        }
    by-test false e =
        let h = leb-false s s' e in
        record {
          overlap = record {
            minute = s;
            in_one = record { from_start = omega arith; before_end = omega (arith, o.in_one, o.in_other) };
            in_other = record { from_start = omega arith; before_end = omega (arith, o.in_one, o.in_other) };
          };
          in_week = in_week;
        }

-- an overlap of two runs is one of the two turned round
pub overlap-turned : {s r s' r' : ℕ} → Overlap s r s' r' → Overlap s' r' s r
overlap-turned o = record { minute = o.minute; in_one = o.in_other; in_other = o.in_one }

-- both relations are symmetric
pub surely-turned : (g h : Limits) → Surely g h → Surely h g
surely-turned g h all s r s' r' c d = overlap-turned (all s' r' s r d c)

pub may-turned : (g h : Limits) → May g h → May h g
may-turned g h m =
    record {
      start = m.start';
      run = m.run';
      start' = m.start;
      run' = m.run;
      one_chosen = m.other_chosen;
      other_chosen = m.one_chosen;
      overlap = overlap-turned m.overlap;
    }

-- The comparisons of limits, of hours tags: as tests, and each exactly where it is so.
module _ (g h : Limits) (b : Bounded g) (d : Bounded h) where
  -- each limit is that of a choice
  choice : {k : Limits} {s r : ℕ} → k.earliest ≤ s → s ≤ k.latest → k.shortest ≤ r → r ≤ k.longest → Choice k s r
  choice e l s t = record { start_from = e; start_to = l; run_from = s; run_to = t }

  -- surely: the latest start of each before the earliest end of the other. Where it is not so, the choice of both shows it.
  pub →surely : Surely g h → surely g h ≡ true
  unfolding surely
  →surely all =
      and-true (ltb g.latest (h.earliest + h.shortest)) (ltb h.latest (g.earliest + g.shortest))
      (lt-ltb g.latest (h.earliest + h.shortest)
      (overlap→
      (all g.latest g.shortest h.earliest h.shortest (choice b.starts_ordered (omega arith) (omega arith) b.runs_ordered)
      (choice (omega arith) d.starts_ordered (omega arith) d.runs_ordered))
      ).0)
      (lt-ltb h.latest (g.earliest + g.shortest)
      (overlap→
      (all g.earliest g.shortest h.latest h.shortest (choice (omega arith) b.starts_ordered (omega arith) b.runs_ordered)
      (choice d.starts_ordered (omega arith) (omega arith) d.runs_ordered))
      ).1)

  pub surely→ : surely g h ≡ true → Surely g h
  unfolding surely
  surely→ e s r s' r' c k =
      let t = and-true→ (ltb g.latest (h.earliest + h.shortest)) (ltb h.latest (g.earliest + g.shortest)) e in
      let one = ltb-true g.latest (h.earliest + h.shortest) t.0 in
      let other = ltb-true h.latest (g.earliest + g.shortest) t.1 in
      →overlap (omega (arith, c, b)) (omega (arith, k, d)) (omega (arith, c, k)) (omega (arith, c, k))

  -- may: the earliest start of each before the latest end of the other
  pub →may : May g h → may g h ≡ true
  unfolding may
  →may m =
      let o = overlap→ m.overlap in
      let c = m.one_chosen in
      let k = m.other_chosen in
      and-true (ltb g.earliest (h.latest + h.longest)) (ltb h.earliest (g.latest + g.longest))
      (lt-ltb g.earliest (h.latest + h.longest) (omega (arith, c, k, o.0)))
      (lt-ltb h.earliest (g.latest + g.longest) (omega (arith, c, k, o.1)))

  -- the starts are the nearest to each other: where one range of starts ends before the other begins, its last and the other's first; else one that both have
  with-starts : (s s' : ℕ) → g.earliest ≤ s → s ≤ g.latest → h.earliest ≤ s' → s' ≤ h.latest → s < s' + h.longest → s' < s + g.longest → May g h
  with-starts s s' e l e' l' one other =
      record {
        start = s;
        run = g.longest;
        start' = s';
        run' = h.longest;
        one_chosen = choice e l b.runs_ordered (omega arith);
        other_chosen = choice e' l' d.runs_ordered (omega arith);
        overlap = →overlap b.longest_from d.longest_from one other;
      }

  may-by : (p q r : Bool) → ltb g.latest h.earliest ≡ p → ltb h.latest g.earliest ≡ q → leb g.earliest h.earliest ≡ r → g.earliest < h.latest + h.longest
      → h.earliest < g.latest + g.longest → May g h
  may-by true q r e f k one other =
      let i = ltb-true g.latest h.earliest e in
      with-starts g.latest h.earliest b.starts_ordered (omega arith) (omega arith) d.starts_ordered (omega arith) other
  may-by false true r e f k one other =
      let i = ltb-true h.latest g.earliest f in
      with-starts g.earliest h.latest (omega arith) b.starts_ordered d.starts_ordered (omega arith) one (omega arith)
  may-by false false true e f k one other =
      let i = ltb-false g.latest h.earliest e in
      let n = leb-true g.earliest h.earliest k in
      with-starts h.earliest h.earliest n i (omega arith) d.starts_ordered (omega (arith, d.longest_from)) (omega (arith, b.longest_from))
  may-by false false false e f k one other =
      let j = ltb-false h.latest g.earliest f in
      let n = leb-false g.earliest h.earliest k in
      with-starts g.earliest g.earliest (omega arith) b.starts_ordered (omega arith) j (omega (arith, d.longest_from)) (omega (arith, b.longest_from))

  pub may→ : may g h ≡ true → May g h
  unfolding may
  may→ e =
      let t = and-true→ (ltb g.earliest (h.latest + h.longest)) (ltb h.earliest (g.latest + g.longest)) e in
      may-by (ltb g.latest h.earliest) (ltb h.latest g.earliest) (leb g.earliest h.earliest) refl refl refl
      (ltb-true g.earliest (h.latest + h.longest) t.0)
      (ltb-true h.earliest (g.latest + g.longest) t.1)

  -- what surely overlaps may overlap: there is a choice
  pub surely-may : Surely g h → May g h
  surely-may all =
      let c : Choice g g.earliest g.shortest = choice (omega arith) b.starts_ordered (omega arith) b.runs_ordered in
      let k : Choice h h.earliest h.shortest = choice (omega arith) d.starts_ordered (omega arith) d.runs_ordered in
      record {
        start = g.earliest;
        run = g.shortest;
        start' = h.earliest;
        run' = h.shortest;
        one_chosen = c;
        other_chosen = k;
        overlap = all g.earliest g.shortest h.earliest h.shortest c k;
      }
