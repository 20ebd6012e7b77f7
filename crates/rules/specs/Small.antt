-- Document 01, "Sixteen small ledgers": small sets with short stand-in ids, as a table. The rules are computed on it in `Cases`, and the theorem that covers it is
-- `small-ledgers` of `SmallLaws`. At the end sets for document 02's four answers, two with one short report, one whose reports are written out whole, a table of what
-- the writer names, and a set with the longest short report.
--
-- The stand-in ids are chosen so that the careless rules of "Where a careful hand goes wrong" fail here:
--   a Remove judged by the whole set: 10 (it would be held, and remove a);
--   siblings by id alone: 13 (q has the smaller id, and comes first by its rank);
--   only direct successors settled: 8 (e stands three steps above b, and has the smallest id);
--   a void update forgotten: 8 and 9 (e would wait);
--   no antichain test: 7, 8 and 9 (d would be held);
--   forks from waiting updates: the further ledger `waits`; forks from void ones: 7 (author 1, marked for its fault d, would be marked for both).
-- Document 02, E5, gives each set entry its author. The other Add of 12 is by the same author; the further ledgers have it by another, and both.
-- Document 02, E7, marks faults: d of 7, 8 and 9, and r of 10. In 8 and 9 e, by author 3, is void through d and marks nobody. The further ledgers have that with a held
-- predecessor beside d, an author with a fork and a fault, and one whose Remove will be bad but waits.
use Rattle.std.specs.Prelude.{ℕ, zero, suc, ◌+◌, ◌/◌, ◌%◌, List, [], ◌∷◌, map, ◌++◌, Bool, true, cond, not, ◌&&◌, replicate, ltb}
use Rattle.bytes_order.specs.Order.{same}
use Rattle.bytes_order.specs.Member.{member, keep, concat_map}
use Rattle.bytes_ascii.specs.Ascii.{ascii}
use Rattle.update_format.specs.Update.{Id, Operation, Add, Remove, Insert, Delete, Update, encode}
use Rattle.rules.specs.declared.CausalOrder.{CausalOrder}
use Rattle.rules.specs.Standing.{Rules, beginning}
use Rattle.rules.specs.declared.MarkKind.{MarkKind}
use Rattle.rules.specs.declared.MarkKind.TheVariants.{Fork, Fault, Both}
use Rattle.rules.specs.SetEntry.{SetEntry}
use Rattle.rules.specs.Mark.{Mark}
use Rattle.rules.specs.Parts.{Parts}
use Rattle.rules.specs.Settle.{Row, held, Table, ancestors_of, causal_order}
use Rattle.rules.specs.Writing.{held_by, written_in}

-- an update with its stand-in id
pub record Named : Type 0 where
  pub name : Id
  pub update : Update

-- the id function that a directory gives: the name of the entry with the same bytes, or no bytes
unfoldable pub name_in : List Named → Update → Id
name_in [] u = []
name_in (n ∷ ns) u = cond (same (encode n.update) (encode u)) n.name (name_in ns u)

-- the rules with these names as ids
abbrev pub naming : List Named → Rules
naming ns = record { ident = name_in ns }

unfoldable pub by : Id → ℕ → List Id → Operation → Named
by i a ps o = record { name = i; update = record { author = a; preds = ps; op = o } }

abbrev pub named_updates : List Named → List Update
named_updates ns = map (λ (n : Named). n.update) ns

-- the entry of a tag and its adding author
unfoldable pub added : List ℕ → ℕ → SetEntry
added t a = record { tag = t; author = a }

-- the mark of an author
unfoldable pub marked : ℕ → MarkKind → Mark
marked a k = record { author = a; kind = k }

-- the parts that document 01 gives, and document 02 for marks and set
unfoldable pub expect : List Named → List Named → List Named → List Named → List Mark → List SetEntry → List (List ℕ) → Parts
expect h t w v m s l =
    record { held = named_updates h; heads = named_updates t; waiting = named_updates w; void = named_updates v; marks = m; set = s; list = l }

-- the stand-in ids, tags and values
abbrev pub #a : List ℕ
#a = 20 ∷ []

abbrev pub #b : List ℕ
#b = 10 ∷ []

abbrev pub #d : List ℕ
#d = 30 ∷ []

abbrev pub #e : List ℕ
#e = 5 ∷ []

abbrev pub #e' : List ℕ
#e' = 6 ∷ []

abbrev pub #e'' : List ℕ
#e'' = 7 ∷ []

abbrev pub #a' : List ℕ
#a' = 15 ∷ []

abbrev pub #r : List ℕ
#r = 25 ∷ []

abbrev pub #r' : List ℕ
#r' = 26 ∷ []

abbrev pub #r'' : List ℕ
#r'' = 27 ∷ []

abbrev pub #c : List ℕ
#c = 12 ∷ []

abbrev pub #c' : List ℕ
#c' = 14 ∷ []

abbrev pub #p : List ℕ
#p = 40 ∷ []

abbrev pub #q : List ℕ
#q = 35 ∷ []

abbrev pub #q' : List ℕ
#q' = 45 ∷ []

abbrev pub #i : List ℕ
#i = 50 ∷ []

abbrev pub #x : List ℕ
#x = 55 ∷ []

abbrev pub #m : List ℕ
#m = 60 ∷ []

abbrev pub #none : List ℕ
#none = 99 ∷ []

abbrev pub #f : List ℕ
#f = 61 ∷ []

abbrev pub #g : List ℕ
#g = 62 ∷ []

abbrev pub #w : List ℕ
#w = 63 ∷ []

abbrev pub #y : List ℕ
#y = 64 ∷ []

abbrev pub #i' : List ℕ
#i' = 65 ∷ []

abbrev pub #x' : List ℕ
#x' = 66 ∷ []

abbrev pub #v : List ℕ
#v = 67 ∷ []

abbrev pub #u : List ℕ
#u = 68 ∷ []

abbrev pub #x'' : List ℕ
#x'' = 69 ∷ []

abbrev pub #k : List ℕ
#k = 70 ∷ []

abbrev pub #n : List ℕ
#n = 71 ∷ []

abbrev pub #n' : List ℕ
#n' = 72 ∷ []

abbrev pub #o : List ℕ
#o = 73 ∷ []

abbrev pub #o' : List ℕ
#o' = 74 ∷ []

abbrev pub t : List ℕ
t = 7 ∷ []

abbrev pub t' : List ℕ
t' = 8 ∷ []

abbrev pub t'' : List ℕ
t'' = 9 ∷ []

abbrev pub P : List ℕ
P = 1 ∷ []

abbrev pub Q : List ℕ
Q = 2 ∷ []

abbrev pub R : List ℕ
R = 3 ∷ []

abbrev pub Y : List ℕ
Y = 4 ∷ []

abbrev pub Z : List ℕ
Z = 5 ∷ []

-- an Add of t by author 1 without predecessors
unfoldable pub a : Named
a = by #a 1 [] (Add t)

-- an Add by 1 after a
unfoldable pub b : Named
b = by #b 1 (#a ∷ []) (Add t')

-- another root by 1
unfoldable pub a' : Named
a' = by #a' 1 [] (Add t')

-- after a and b, of which a is an ancestor of b
unfoldable pub d : Named
d = by #d 1 (#b ∷ #a ∷ []) (Add t'')

-- after d
unfoldable pub e : Named
e = by #e 3 (#d ∷ []) (Add t'')

-- after d and a missing id
unfoldable pub e' : Named
e' = by #e' 3 (#d ∷ #none ∷ []) (Add t'')

-- after d and a
unfoldable pub e'' : Named
e'' = by #e'' 3 (#a ∷ #d ∷ []) (Add t'')

-- a root Remove of t naming a
unfoldable pub r : Named
r = by #r 2 [] (Remove t (#a ∷ []))

-- the same after a
unfoldable pub r' : Named
r' = by #r' 2 (#a ∷ []) (Remove t (#a ∷ []))

-- a Remove of t naming a, after a missing id
unfoldable pub r'' : Named
r'' = by #r'' 2 (#none ∷ []) (Remove t (#a ∷ []))

-- another Add of t by the same author
unfoldable pub c : Named
c = by #c 1 (#a ∷ []) (Add t)

-- .. and by others
unfoldable pub c' : Named
c' = by #c' 3 [] (Add t)

unfoldable pub n : Named
n = by #n 10 [] (Add t)

unfoldable pub n' : Named
n' = by #n' 2 [] (Add t)

-- a Remove of t naming those of authors 10 and 2
unfoldable pub o : Named
o = by #o 4 (#n ∷ #n' ∷ []) (Remove t (#n ∷ #n' ∷ []))

-- .. and that of author 2 alone
unfoldable pub o' : Named
o' = by #o' 4 (#n' ∷ []) (Remove t (#n' ∷ []))

-- an Insert at the beginning
unfoldable pub p : Named
p = by #p 1 [] (Insert beginning P)

-- another there after p, with the smaller id
unfoldable pub q : Named
q = by #q 2 (#p ∷ []) (Insert beginning Q)

-- a root at the beginning, with the larger id
unfoldable pub q' : Named
q' = by #q' 2 [] (Insert beginning Q)

-- anchored at p
unfoldable pub i : Named
i = by #i 1 (#p ∷ []) (Insert #p R)

-- deletes p
unfoldable pub x : Named
x = by #x 2 (#p ∷ []) (Delete #p)

-- a Remove with m = 0
unfoldable pub m : Named
m = by #m 1 [] (Remove t [])

-- f and g name each other
unfoldable pub f : Named
f = by #f 1 (#g ∷ []) (Add t)

unfoldable pub g : Named
g = by #g 2 (#f ∷ []) (Add t)

-- waits for a missing id
unfoldable pub w : Named
w = by #w 1 (#none ∷ []) (Add t)

-- its own id is zero
unfoldable pub z : Named
z = by beginning 1 [] (Insert beginning Z)

-- at the beginning, after z
unfoldable pub y : Named
y = by #y 2 (beginning ∷ []) (Insert beginning Y)

-- anchored at p, after p was deleted
unfoldable pub i' : Named
i' = by #i' 1 (#x ∷ []) (Insert #p R)

-- deletes p again
unfoldable pub x' : Named
x' = by #x' 2 (#x ∷ []) (Delete #p)

-- names an Add of another tag
unfoldable pub v : Named
v = by #v 2 (#a ∷ []) (Remove t' (#a ∷ []))

-- its anchor is no ancestor
unfoldable pub u : Named
u = by #u 2 (#a ∷ []) (Insert #p R)

-- an Insert at the beginning after p, higher in rank than q'
unfoldable pub k : Named
k = by #k 3 (#p ∷ []) (Insert beginning Y)

pub record Small : Type 0 where
  pub updates : List Named
  pub gives : Parts

-- its rules and its set
abbrev pub rules_of : Small → Rules
rules_of c = naming c.updates

abbrev pub small_set : Small → List Update
small_set c = named_updates c.updates

-- the sixteen of document 01, in its words
unfoldable pub sixteen : List Small
sixteen =
    -- 1. Nothing: all parts empty.
    record { updates = []; gives = expect [] [] [] [] [] [] [] }
    -- 2. a: held, head a.
    ∷ record { updates = (a ∷ []); gives = expect (a ∷ []) (a ∷ []) [] [] [] (added t 1 ∷ []) [] }
    -- 3. b only: waiting.
    ∷ record { updates = (b ∷ []); gives = expect [] [] (b ∷ []) [] [] [] [] }
    -- 4. b, then a: both held, head b.
    ∷ record { updates = (b ∷ a ∷ []); gives = expect (b ∷ a ∷ []) (b ∷ []) [] [] [] (added t 1 ∷ added t' 1 ∷ []) [] }
    -- 5. a and another root by 1: mark 1. (A fork.)
    ∷ record { updates = (a ∷ a' ∷ []); gives = expect (a' ∷ a ∷ []) (a' ∷ a ∷ []) [] [] (marked 1 Fork ∷ []) (added t 1 ∷ added t' 1 ∷ []) [] }
    -- 6. a, b: no mark.
    ∷ record { updates = (a ∷ b ∷ []); gives = expect (b ∷ a ∷ []) (b ∷ []) [] [] [] (added t 1 ∷ added t' 1 ∷ []) [] }
    -- 7. a, b, then d after {a, b}: d void. (A fault of author 1.)
    ∷ record { updates = (a ∷ b ∷ d ∷ []); gives = expect (b ∷ a ∷ []) (b ∷ []) [] (d ∷ []) (marked 1 Fault ∷ []) (added t 1 ∷ added t' 1 ∷ []) [] }
    -- 8. e after d: void. (No fault: its predecessor is void.)
    ∷ record { updates = (a ∷ b ∷ d ∷ e ∷ []); gives = expect (b ∷ a ∷ []) (b ∷ []) [] (e ∷ d ∷ []) (marked 1 Fault ∷ []) (added t 1 ∷ added t' 1 ∷ []) [] }
    -- 9. e after d and a missing id: void. (No fault.)
    ∷ record { updates = (a ∷ b ∷ d ∷ e' ∷ []); gives = expect (b ∷ a ∷ []) (b ∷ []) [] (e' ∷ d ∷ []) (marked 1 Fault ∷ []) (added t 1 ∷ added t' 1 ∷ []) [] }
    -- 10. a, and a root Remove of t naming a: void. (A fault of author 2.)
    ∷ record { updates = (a ∷ r ∷ []); gives = expect (a ∷ []) (a ∷ []) [] (r ∷ []) (marked 2 Fault ∷ []) (added t 1 ∷ []) [] }
    -- 11. The same after a: set empty.
    ∷ record { updates = (a ∷ r' ∷ []); gives = expect (a ∷ r' ∷ []) (r' ∷ []) [] [] [] [] [] }
    -- 12. 11 with another Add of t: t present.
    ∷ record { updates = (a ∷ r' ∷ c ∷ []); gives = expect (c ∷ a ∷ r' ∷ []) (c ∷ r' ∷ []) [] [] [] (added t 1 ∷ []) [] }
    -- 13. Insert p at the beginning, q there after p: list q, p.
    ∷ record { updates = (p ∷ q ∷ []); gives = expect (q ∷ p ∷ []) (q ∷ []) [] [] [] [] (Q ∷ P ∷ []) }
    -- 14. p, q two roots at the beginning, id p under id q: list q, p.
    ∷ record { updates = (p ∷ q' ∷ []); gives = expect (p ∷ q' ∷ []) (p ∷ q' ∷ []) [] [] [] [] (Q ∷ P ∷ []) }
    -- 15. p, r anchored at p, p deleted: list r.
    ∷ record { updates = (p ∷ i ∷ x ∷ []); gives = expect (p ∷ i ∷ x ∷ []) (i ∷ x ∷ []) [] [] [] [] (R ∷ []) }
    -- 16. Remove with m = 0: held.
    ∷ record { updates = (m ∷ []); gives = expect (m ∷ []) (m ∷ []) [] [] [] [] [] }
    ∷ []

-- what the sixteen do not reach
unfoldable pub further : List Small
further =
    -- a cycle of two: both wait
    record { updates = (f ∷ g ∷ []); gives = expect [] [] (f ∷ g ∷ []) [] [] [] [] }
    -- `waits`: author 1 has a held and a waiting update, and no mark
    ∷ record { updates = (a ∷ w ∷ []); gives = expect (a ∷ []) (a ∷ []) (w ∷ []) [] [] (added t 1 ∷ []) [] }
    -- an Insert whose id is zero: nothing hangs under it, and the walk ends
    ∷ record { updates = (z ∷ y ∷ []); gives = expect (z ∷ y ∷ []) (y ∷ []) [] [] [] [] (Y ∷ Z ∷ []) }
    -- an Insert under a deleted Insert stays; deleting twice is valid
    ∷ record { updates = (p ∷ x ∷ i' ∷ x' ∷ []); gives = expect (p ∷ x ∷ i' ∷ x' ∷ []) (i' ∷ x' ∷ []) [] [] [] [] (R ∷ []) }
    -- all that hangs under an entry comes before its next sibling
    ∷ record { updates = (p ∷ k ∷ q' ∷ i ∷ []); gives = expect (p ∷ q' ∷ i ∷ k ∷ []) (q' ∷ i ∷ k ∷ []) [] [] [] [] (Y ∷ Q ∷ P ∷ R ∷ []) }
    -- a Remove that names an Add of another tag is void, and a fault
    ∷ record { updates = (a ∷ v ∷ []); gives = expect (a ∷ []) (a ∷ []) [] (v ∷ []) (marked 2 Fault ∷ []) (added t 1 ∷ []) [] }
    -- an Insert whose anchor is no ancestor is void, and a fault; its author comes after that of a fork
    ∷ record { updates = (a ∷ p ∷ u ∷ []); gives = expect (a ∷ p ∷ []) (a ∷ p ∷ []) [] (u ∷ []) (marked 1 Fork ∷ marked 2 Fault ∷ []) (added t 1 ∷ []) (P ∷ []) }
    -- 12 with the other Add by another author: its author's entry, not that of the Add which was removed or of the Remove
    ∷ record { updates = (a ∷ r' ∷ c' ∷ []); gives = expect (c' ∷ a ∷ r' ∷ []) (c' ∷ r' ∷ []) [] [] [] (added t 3 ∷ []) [] }
    -- 12 with both: the tag once for each author
    ∷ record { updates = (a ∷ r' ∷ c ∷ c' ∷ []); gives = expect (c ∷ c' ∷ a ∷ r' ∷ []) (c ∷ c' ∷ r' ∷ []) [] [] [] (added t 1 ∷ added t 3 ∷ []) [] }
    -- two Adds of a tag by one author: one entry
    ∷ record { updates = (a ∷ c ∷ []); gives = expect (c ∷ a ∷ []) (c ∷ []) [] [] [] (added t 1 ∷ []) [] }
    -- by tag, then by author as a number: author 2 before author 10, and both before a later tag of author 1
    ∷ record { updates = (a' ∷ n ∷ n' ∷ []); gives = expect (a' ∷ n ∷ n' ∷ []) (a' ∷ n ∷ n' ∷ []) [] [] [] (added t 2 ∷ added t 10 ∷ added t' 1 ∷ []) [] }
    -- a Remove that names two authors' Adds leaves the third's
    ∷ record { updates = (c' ∷ n ∷ n' ∷ o ∷ []); gives = expect (c' ∷ n ∷ n' ∷ o ∷ []) (c' ∷ o ∷ []) [] [] [] (added t 3 ∷ []) [] }
    -- and one that names one author's Add leaves the other's
    ∷ record { updates = (n ∷ n' ∷ o' ∷ []); gives = expect (n ∷ n' ∷ o' ∷ []) (n ∷ o' ∷ []) [] [] [] (added t 10 ∷ []) [] }
    -- 8 with e after a too: one predecessor is held and one void, and e is no fault
    ∷ record { updates = (a ∷ b ∷ d ∷ e'' ∷ []); gives = expect (b ∷ a ∷ []) (b ∷ []) [] (e'' ∷ d ∷ []) (marked 1 Fault ∷ []) (added t 1 ∷ added t' 1 ∷ []) [] }
    -- 5 and 7 together: author 1 has a fork and a fault, and one mark
    ∷ record { updates = (a ∷ a' ∷ b ∷ d ∷ []); gives = expect (b ∷ a' ∷ a ∷ []) (b ∷ a' ∷ []) [] (d ∷ []) (marked 1 Both ∷ []) (added t 1 ∷ added t' 1 ∷ []) [] }
    -- 10 with the Remove after a missing id: it waits, and marks nobody
    ∷ record { updates = (a ∷ r'' ∷ []); gives = expect (a ∷ []) (a ∷ []) (r'' ∷ []) [] [] (added t 1 ∷ []) [] }
    -- an author with a fork and a fault, and one with two faults: ascending by author, each once
    ∷ record { updates = (a ∷ r ∷ v ∷ b ∷ a' ∷ d ∷ []); gives = expect (b ∷ a' ∷ a ∷ []) (b ∷ a' ∷ []) [] (r ∷ d ∷ v ∷ []) (marked 1 Both ∷ marked 2 Fault ∷ []) (added t 1 ∷ added t' 1 ∷ []) [] }
    ∷ []

abbrev pub small_ledgers : List Small
small_ledgers = sixteen ++ further

-- no id stands twice
unfoldable pub apart : List Id → Bool
apart [] = true
apart (i ∷ is) = not (member i is) && apart is

-- Document 02, E4: the four answers, of the set a, b after a, and another root
abbrev pub three_named : List Named
three_named = a ∷ b ∷ a' ∷ []

abbrev pub order_named : Named → Named → CausalOrder
order_named n m = causal_order (naming three_named) (named_updates three_named) n.update m.update

-- and of a table that no set has, in which the first is an ancestor of itself, and each of the other
abbrev pub crossed_rows : Table
crossed_rows =
    record { id = #a; update = record { author = 1; preds = []; op = Add t }; verdict = held; above = #a ∷ #b ∷ [] }
    ∷ record { id = #b; update = record { author = 1; preds = []; op = Add t' }; verdict = held; above = #a ∷ [] }
    ∷ []

-- Document 02, E10: of two sets the second has one more Add of the tag, by the same author and after the first: the entry is the same, and so is the short report
abbrev pub one_add : List Update
one_add = named_updates (a ∷ [])

abbrev pub two_adds : List Update
two_adds = named_updates (a ∷ c ∷ [])

abbrev pub add_rules : Rules
add_rules = naming (a ∷ c ∷ [])

abbrev pub add_short : List ℕ
add_short = ascii "(ledger 1\n(marks\n)\n(set\n(07 1)\n)\n(list\n)\n)\n"

-- Document 01, "Command and report", with the mark lines and the set lines of document 02: nine updates, whose reports are written out whole in `whole_full` and
-- `whole_short`. By hand, with ids in hexadecimal:
--   0b, 1f and a0 have no predecessors, and 9c follows 1f and a0, of which none is the other's ancestor: these four are held.
--   44 deletes a0, which is no ancestor, and e3, a Remove of the tag 2d, names an Add of 2c: void, with all predecessors held. 05 is void through e3.
--   fe waits for 77, which is missing, and 3a, after 9c, waits for fe.
--   No held update is above 0b or 9c, only the void 44 and the waiting 3a: these two are heads.
--   3 has the fault e3; 7 the fork 0b and 9c, and the fault 44; 12 the fork 1f and a0. 05 marks nobody, nor does what waits.
--   The held Adds are 1f, by 12, and 9c, by 7, of one tag: 7 comes before 12. The held Inserts are a0 and 0b, at the beginning and of rank 0: the larger id first.
unfoldable pub whole : List Named
whole =
    by (0x44 ∷ []) 7 ((0x0b ∷ []) ∷ []) (Delete (0xa0 ∷ []))
    ∷ by (0xfe ∷ []) 15 ((0x77 ∷ []) ∷ []) (Add (0x2e ∷ []))
    ∷ by (0x9c ∷ []) 7 ((0x1f ∷ []) ∷ (0xa0 ∷ []) ∷ []) (Add (0x2c ∷ []))
    ∷ by (0x1f ∷ []) 12 [] (Add (0x2c ∷ []))
    ∷ by (0x05 ∷ []) 10 ((0xe3 ∷ []) ∷ []) (Add (0x2f ∷ []))
    ∷ by (0xa0 ∷ []) 12 [] (Insert beginning (0xd5 ∷ []))
    ∷ by (0x3a ∷ []) 1 ((0x9c ∷ []) ∷ (0xfe ∷ []) ∷ []) (Insert beginning (0x99 ∷ []))
    ∷ by (0x0b ∷ []) 7 [] (Insert beginning (0x6e ∷ []))
    ∷ by (0xe3 ∷ []) 3 ((0x1f ∷ []) ∷ []) (Remove (0x2d ∷ []) ((0x1f ∷ []) ∷ []))
    ∷ []

abbrev pub whole_rules : Rules
whole_rules = naming whole

abbrev pub whole_set : List Update
whole_set = named_updates whole

abbrev pub whole_full : List ℕ
whole_full =
    concat_map ascii
    ("(ledger 1\n"
    ∷ "(held\n(0b 7)\n(1f 12)\n(9c 7)\n(a0 12)\n)\n"
    ∷ "(heads\n(0b)\n(9c)\n)\n"
    ∷ "(waiting\n(3a 1)\n(fe 15)\n)\n"
    ∷ "(void\n(05 10)\n(44 7)\n(e3 3)\n)\n"
    ∷ "(marks\n(3 fault)\n(7 both)\n(12 fork)\n)\n"
    ∷ "(set\n(2c 7)\n(2c 12)\n)\n"
    ∷ "(list\n(d5)\n(6e)\n)\n"
    ∷ ")\n"
    ∷ [])

abbrev pub whole_short : List ℕ
whole_short =
    ascii "(ledger 1\n(marks\n(3 fault)\n(7 both)\n(12 fork)\n)\n(set\n(2c 7)\n(2c 12)\n)\n(list\n(d5)\n(6e)\n)\n)\n"

-- Document 01, "Writing": a set, how many predecessors an update names at most, who writes, the ids that its update names, and those of the writer's held updates that it leaves behind: they are no ancestors of it
pub record SmallChoice : Type 0 where
  pub updates : List Named
  pub most : ℕ
  pub writer : ℕ
  pub names : List Id
  pub leaves : List Id

abbrev pub choice_rules : SmallChoice → Rules
choice_rules c = naming c.updates

abbrev pub choice_set : SmallChoice → List Update
choice_set c = named_updates c.updates

-- what is left behind, computed
unfoldable pub left_in : ℕ → Table → ℕ → List Id
left_in most T author =
    map (λ (r : Row). r.id) (keep (λ (r : Row). not (member r.id (ancestors_of T (written_in most T author (Add []))))) (held_by T author))

-- an Add without predecessors, whose tag is its id
unfoldable pub root : ℕ → ℕ → Named
root i author = by (i ∷ []) author [] (Add (i ∷ []))

-- an Add after another
unfoldable pub next : ℕ → ℕ → ℕ → Named
next i author after = by (i ∷ []) author ((after ∷ []) ∷ []) (Add (i ∷ []))

-- the ids of the numbers
abbrev pub ids : List ℕ → List Id
ids is = map (λ (i : ℕ). i ∷ []) is

abbrev pub seven_roots : List Named
seven_roots = root 17 1 ∷ root 16 1 ∷ root 15 1 ∷ root 14 1 ∷ root 13 2 ∷ root 12 1 ∷ root 11 1 ∷ []

-- Author 5 has 60, 50 after it, and 90, which has a larger id and a lower rank. Two heads are above 50: 70 and 80.
abbrev pub eleven_heads : List Named
eleven_heads = root 60 5 ∷ next 50 5 60 ∷ root 90 5 ∷ next 80 6 50 ∷ next 70 7 50 ∷ root 18 1 ∷ seven_roots

unfoldable pub small_choices : List SmallChoice
small_choices =
    -- eleven heads, 11 to 18, 70, 80 and 90: 50 is of rank 1, and 60 and 90 of rank 0, so the own head is 70, the lower of 70 and 80; then the seven lowest others
    record { updates = eleven_heads; most = 8; writer = 5; names = ids (11 ∷ 12 ∷ 13 ∷ 14 ∷ 15 ∷ 16 ∷ 17 ∷ 70 ∷ []); leaves = ids (90 ∷ []) }
    -- the same for an author without held updates: the eight lowest
    ∷ record { updates = eleven_heads; most = 8; writer = 9; names = ids (11 ∷ 12 ∷ 13 ∷ 14 ∷ 15 ∷ 16 ∷ 17 ∷ 18 ∷ []); leaves = [] }
    -- the same for an author whose own head, 13, is among the lowest: it is named once, and the eight are the lowest again
    ∷ record { updates = eleven_heads; most = 8; writer = 2; names = ids (11 ∷ 12 ∷ 13 ∷ 14 ∷ 15 ∷ 16 ∷ 17 ∷ 18 ∷ []); leaves = [] }
    -- nine heads, and a tie: 40 and 50 are of rank 0, and 50 has the larger id. The author has a fork and no fault (nothing is void), and 40 is left behind
    ∷ record { updates = (root 40 5 ∷ root 50 5 ∷ seven_roots); most = 8; writer = 5; names = ids (11 ∷ 12 ∷ 13 ∷ 14 ∷ 15 ∷ 16 ∷ 17 ∷ 50 ∷ []); leaves = ids (40 ∷ []) }
    -- eight heads: all of them
    ∷ record { updates = (root 40 5 ∷ seven_roots); most = 8; writer = 9; names = ids (11 ∷ 12 ∷ 13 ∷ 14 ∷ 15 ∷ 16 ∷ 17 ∷ 40 ∷ []); leaves = [] }
    -- document 02, E6, "the chosen number of predecessors takes its place": of the eleven heads nine, the own head and the eight lowest others; and all where sixteen may be named
    ∷ record { updates = eleven_heads; most = 9; writer = 5; names = ids (11 ∷ 12 ∷ 13 ∷ 14 ∷ 15 ∷ 16 ∷ 17 ∷ 18 ∷ 70 ∷ []); leaves = ids (90 ∷ []) }
    ∷ record { updates = eleven_heads; most = 16; writer = 5; names = ids (11 ∷ 12 ∷ 13 ∷ 14 ∷ 15 ∷ 16 ∷ 17 ∷ 18 ∷ 70 ∷ 80 ∷ 90 ∷ []); leaves = [] }
    ∷ []

-- The longest short report: 64 Adds without predecessors, each of another tag, two by each author up to 9 and seven or more by each of the others. All are held, and
-- every author has a fork. 36 bytes of an empty report; ten mark lines of 9 and six of 10; twenty set lines of 37 and 44 of 38.
abbrev pub longest_short : ℕ
longest_short = 2598

-- the rules with an update's bytes as its id
abbrev pub by_bytes : Rules
by_bytes = record { ident = encode }

unfoldable pub booked_by : ℕ → ℕ
booked_by i = cond (ltb i 20) (i / 2) (10 + i % 6)

-- Adds without predecessors, each of another tag, the i-th by the author `who i`
unfoldable pub booked : (ℕ → ℕ) → ℕ → List Update
booked who zero = []
booked who (suc i) = record { author = who i; preds = []; op = Add (i ∷ replicate 15 0) } ∷ booked who i

-- Of three-digit authors (document 02, E6) the lines are longer: 8 Adds, two by each of the authors 100 to 103. 36 bytes of an empty report; 4 mark lines of 11; 8 set lines
-- of 39. (64 Adds by 32 authors make 2,884 by the same count.)
abbrev pub wider_short : ℕ
wider_short = 392

unfoldable pub booked_widely : ℕ → ℕ
booked_widely i = 100 + i / 2
