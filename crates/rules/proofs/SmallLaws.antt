-- Document 01, "Sixteen small ledgers": one theorem covers the table. For each of its sets the parts that document 01 gives are exactly those that `Standing` and
-- `ReadOff` define; and for each row of the table of choices the ids are those that `Choice` defines. At the end two unequal sets with one short report, and the longest
-- short report.
use Rattle.std.specs.Prelude.{◌≡◌, refl, true, not, ℕ, ltb, length}
use Rattle.std.proofs.Common.{sym, ap, ◌∙◌, subst, ⊎_elim, arith, ltb-true}
use mathlib.Core.List.Memᴰ
use mathlib.Core.List.{List, [], ◌∷◌, map, head-eq_of_cons-eq, tail-eq_of_cons-eq}
use Rattle.bytes_order.specs.Member.{◌∈◌, SameMembers, member}
use Rattle.bytes_order.specs.MemberLaws.{∈-cases, ∈-singleton, ∈-cast, ∈-map, member-false→, all→∈}
use Rattle.bytes_order.specs.BoolLaws.{true-false, and-true→}
use Rattle.bytes_order.specs.OrderLaws.{eq→same}
use Rattle.bytes_order.specs.Distinct.{Distinct, distinct_nil, distinct_cons}
use Rattle.update_format.specs.Update.{Id, Add, Update}
use Rattle.rules.specs.declared.Form.TheVariants.{Full, Short}
use Rattle.rules.specs.Parts.{ReadFrom}
use Rattle.rules.specs.Choice.{Chosen}
use Rattle.rules.specs.Settle.{parts_of}
use Rattle.rules.specs.Terms.{places}
use Rattle.rules.specs.Report.{report_text, report_of}
use Rattle.rules.specs.Writing.{written_of}
use Rattle.rules.specs.Small.{#a, Small, by, a, c, rules_of, small_set, small_ledgers, apart, one_add, two_adds, add_rules, SmallChoice, choice_rules, choice_set, small_choices, longest_short, by_bytes, booked_by, booked}
use Rattle.rules.proofs.Cases.{computed, ids-apart, forms-computed, choices-computed, choice-ids-apart, choices-some, longest-computed}
use Rattle.rules.proofs.TableLaws.{not-true→}
use Rattle.rules.proofs.PartsLaws.{read_right}
use Rattle.rules.proofs.ChosenLaws.{choice-right}

-- the test of the ids
apart_distinct : {A : Type 0} (key : A → List ℕ) (xs : List A) → apart (map key xs) ≡ true → Distinct key xs
unfolding apart
apart_distinct key [] e = distinct_nil
apart_distinct key (x ∷ xs) e =
    let h = and-true→ (not (member (key x) (map key xs))) (apart (map key xs)) e in
    distinct_cons (λ y m q. member-false→ (not-true→ (member (key x) (map key xs)) h.0) (∈-cast q (∈-map key m))) (apart_distinct key xs h.1)

-- two functions that give the same list agree on its members
agree : {A B : Type 0} (f g : A → B) (xs : List A) → map f xs ≡ map g xs → {x : A} → x ∈ xs → f x ≡ g x
agree f g [] e m = absurd (Memᴰ.not-nil m)
agree {A} f g (y ∷ xs) e {x} m =
    ⊎_elim (λ (q : x ≡ y). subst (λ (z : A). f z ≡ g z) (sym q) (head-eq_of_cons-eq e)) (λ (k : x ∈ xs). agree f g xs (tail-eq_of_cons-eq e) k) (∈-cases m)

pub small-ledgers : (c : Small) → c ∈ small_ledgers → ReadFrom (rules_of c) (small_set c) c.gives
small-ledgers c m =
    subst (ReadFrom (rules_of c) (small_set c))
    (agree (λ (c : Small). parts_of (rules_of c) (small_set c)) (λ (c : Small). c.gives) small_ledgers computed m)
    (read_right (rules_of c) (small_set c) (apart_distinct (rules_of c).ident (small_set c) (all→∈ (λ (c : Small). apart (map (rules_of c).ident (small_set c))) small_ledgers ids-apart c m)))

-- Document 01, "Writing": the ids worked out by hand for the table of choices are exactly those that `Choice` defines
pub small-choices : (c : SmallChoice) → c ∈ small_choices → Chosen (choice_rules c) c.most (choice_set c) c.writer c.names
small-choices c m =
    subst (Chosen (choice_rules c) c.most (choice_set c) c.writer)
    (agree (λ (c : SmallChoice). (written_of (choice_rules c) c.most (choice_set c) c.writer (Add [])).preds) (λ (c : SmallChoice). c.names) small_choices choices-computed.0 m)
    (choice-right (choice_rules c) c.most (ltb-true 0 c.most (all→∈ (λ (c : SmallChoice). ltb 0 c.most) small_choices choices-some c m)) (choice_set c)
    (apart_distinct (choice_rules c).ident (choice_set c) (all→∈ (λ (c : SmallChoice). apart (map (choice_rules c).ident (choice_set c))) small_choices choice-ids-apart c m))
    c.writer (Add []))

-- Document 02, E10: "unequal sets are promised to show only in the full one". These two are unequal, and their short reports are equal.
pub unequal-sets : SameMembers one_add two_adds → ⊥
unfolding a c by
unequal-sets s =
    let m : c.update ∈ one_add = s.back c.update (Memᴰ.tail (Memᴰ.head refl)) in
    let e : ◌≡◌ {A = List Id} (#a ∷ []) [] = ap (λ (u : Update). u.preds) (∈-singleton m) in
    let z : ◌≡◌ {A = ℕ} 0 1 = cc in
    omega arith

pub equal-short-reports : report_of Short add_rules one_add ≡ report_of Short add_rules two_adds
equal-short-reports = forms-computed.0 ∙ sym forms-computed.1

-- .. and their full ones are not
pub unequal-full-reports : report_of Full add_rules one_add ≡ report_of Full add_rules two_adds → ⊥
unequal-full-reports e = true-false (eq→same (report_of Full add_rules one_add) (report_of Full add_rules two_adds) e) forms-computed.2

-- the longest short report, of 64 updates
pub longest-short-report : length (report_of Short by_bytes (booked booked_by places)) ≡ longest_short
unfolding report_of report_text
longest-short-report = longest-computed.0
