-- The rules as they are computed: rounds over a table of verdicts that judge again what waits, and the read-offs from the settled table. The
-- theorem of `PartsLaws` says that the parts so computed are those of `Standing` and `ReadOff`.
use Rattle.std.specs.Prelude.{ℕ, zero, suc, List, [], ◌∷◌, map, reverse, Bool, true, false, not, ◌&&◌, ◌||◌, length, eqb}
use Rattle.bytes_order.specs.Order.{same}
use Rattle.bytes_order.specs.Member.{member, keep, any, all, concat_map}
use Rattle.bytes_order.specs.Sort.{sort}
use Rattle.update_format.specs.Update.{Id, Operation, Add, Remove, Insert, Delete, Update}
use Rattle.rules.specs.declared.CausalOrder.{CausalOrder}
use Rattle.rules.specs.Standing.{Rules, beginning}
use Rattle.rules.specs.CausalOrder.{order_by, is_before, is_apart, before_or_after}
use Rattle.rules.specs.SetEntry.{SetEntry, entry_key}
use Rattle.rules.specs.Mark.{Mark, mark_key, marks_by}
use Rattle.rules.specs.Parts.{Parts}
-- the verdict on an update is a standing
pub use Rattle.rules.specs.declared.Standing.{Standing}
pub use Rattle.rules.specs.declared.Standing.TheVariants.{Held as held, Waiting as waiting, Void as void}

-- an update with its id, its verdict so far and, once it is held, the ids of its ancestors
pub record Row : Type 0 where
  pub id : Id
  pub update : Update
  pub verdict : Standing
  pub above : List Id

abbrev pub Table : Type 0
Table = List Row

-- tests of a row

unfoldable pub is_held : Standing → Bool
is_held held = true
is_held waiting = false
is_held void = false

unfoldable pub is_waiting : Standing → Bool
is_waiting held = false
is_waiting waiting = true
is_waiting void = false

unfoldable pub is_void : Standing → Bool
is_void held = false
is_void waiting = false
is_void void = true

unfoldable pub is_add : List ℕ → Operation → Bool
is_add t (Add t') = same t t'
is_add t (Remove t' named) = false
is_add t (Insert a v) = false
is_add t (Delete i) = false

unfoldable pub is_insert : Operation → Bool
is_insert (Add t) = false
is_insert (Remove t named) = false
is_insert (Insert a v) = true
is_insert (Delete i) = false

-- tests of an id in a table

unfoldable pub held_in : Table → Id → Bool
held_in T i = any (λ (r : Row). same r.id i && is_held r.verdict) T

unfoldable pub void_in : Table → Id → Bool
void_in T i = any (λ (r : Row). same r.id i && is_void r.verdict) T

unfoldable pub add_in : Table → List ℕ → Id → Bool
add_in T t i = any (λ (r : Row). same r.id i && is_add t r.update.op) T

unfoldable pub insert_in : Table → Id → Bool
insert_in T i = any (λ (r : Row). same r.id i && is_insert r.update.op) T

-- x is an ancestor of the update with the id i
unfoldable pub above_in : Table → Id → Id → Bool
above_in T x i = any (λ (r : Row). same r.id i && member x r.above) T

-- document 02, E4: how the update with the id i stands to that with the id j
unfoldable pub order_in : Table → Id → Id → CausalOrder
order_in T i j = order_by (same i j) (above_in T i j) (above_in T j i)

-- the ids of a table's rows that are predecessors of u or ancestors of one
unfoldable pub ancestors_of : Table → Update → List Id
ancestors_of T u =
    map (λ (r : Row). r.id)
    (keep (λ (r : Row). member r.id u.preds || any (λ (p : Id). above_in T r.id p) u.preds) T)

-- no predecessor is before or after another
unfoldable pub antichain : Table → List Id → Bool
antichain T ps = all (λ (p : Id). all (λ (q : Id). not (before_or_after (order_in T p q))) ps) ps

-- the operation is valid, for an update with these ancestors
unfoldable pub valid_op : Table → List Id → Operation → Bool
valid_op T up (Add t) = true
valid_op T up (Remove t named) = all (λ (i : Id). member i up && add_in T t i) named
valid_op T up (Insert a v) = same a beginning || (member a up && insert_in T a)
valid_op T up (Delete i) = member i up && insert_in T i

-- both, for an update with these ancestors
unfoldable pub fine_by : Table → List Id → Update → Bool
fine_by T up u = antichain T u.preds && valid_op T up u.op

-- a row that waits is judged by the table; a settled one stays

unfoldable pub ruled : Standing → List Id → Row → Row
ruled v up r = record { id = r.id; update = r.update; verdict = v; above = up }

unfoldable pub judge_fine : Bool → List Id → Row → Row
judge_fine true up r = ruled held up r
judge_fine false up r = ruled void [] r

unfoldable pub judge_known : Table → Row → List Id → Row
judge_known T r up = judge_fine (fine_by T up r.update) up r

-- whether some predecessor is void, and whether all are held
unfoldable pub judge_by : Bool → Bool → Table → Row → Row
judge_by true h T r = ruled void [] r
judge_by false true T r = judge_known T r (ancestors_of T r.update)
judge_by false false T r = r

unfoldable pub judge_from : Standing → Table → Row → Row
judge_from held T r = r
judge_from void T r = r
judge_from waiting T r = judge_by (any (void_in T) r.update.preds) (all (held_in T) r.update.preds) T r

unfoldable pub judge : Table → Row → Row
judge T r = judge_from r.verdict T r

unfoldable pub round : Table → Table
round T = map (judge T) T

unfoldable pub rounds : ℕ → Table → Table
rounds zero T = T
rounds (suc n) T = round (rounds n T)

unfoldable pub start : Rules → Update → Row
start rules u = record { id = rules.ident u; update = u; verdict = waiting; above = [] }

-- the settled table of a set, ascending by id
unfoldable pub start_all : Rules → List Update → Table
start_all rules S = map (start rules) (sort rules.ident S)

unfoldable pub settled_table : Rules → List Update → Table
settled_table rules S = rounds (length S) (start_all rules S)

-- what is read from a settled table

unfoldable pub held_row : Row → Bool
held_row r = is_held r.verdict

-- r's update is before a held one
unfoldable pub covered : Table → Row → Bool
covered T r = any (λ (q : Row). held_row q && is_before (order_in T r.id q.id)) T

unfoldable pub heads : Table → Table
heads T = keep (λ (r : Row). held_row r && not (covered T r)) T

-- q is a held update of r's author, and the two are apart
unfoldable pub forked_by : Table → Row → Row → Bool
forked_by T r q = held_row q && (eqb r.update.author q.update.author && is_apart (order_in T r.id q.id))

-- r's update is one of two that are a fork
unfoldable pub forked_row : Table → Row → Bool
forked_row T r = held_row r && any (forked_by T r) T

-- r's update is void while all its predecessors are held
unfoldable pub fault_row : Table → Row → Bool
fault_row T r = is_void r.verdict && all (held_in T) r.update.preds

-- some row of the author passes a test
unfoldable pub some_row_by : (Row → Bool) → Table → ℕ → Bool
some_row_by p T a = any (λ (r : Row). eqb r.update.author a && p r) T

-- for what the author is marked
unfoldable pub marks_in : Table → ℕ → List Mark
marks_in T a = marks_by a (some_row_by (forked_row T) T a) (some_row_by (fault_row T) T a)

unfoldable pub marks : Table → List Mark
marks T = sort mark_key (concat_map (λ (r : Row). marks_in T r.update.author) T)

unfoldable pub tags_of : Operation → List (List ℕ)
tags_of (Add t) = t ∷ []
tags_of (Remove t named) = []
tags_of (Insert a v) = []
tags_of (Delete i) = []

unfoldable pub names : Id → Operation → Bool
names i (Add t) = false
names i (Remove t named) = member i named
names i (Insert a v) = false
names i (Delete d) = false

unfoldable pub removed : Table → Id → Bool
removed T i = any (λ (q : Row). held_row q && names i q.update.op) T

-- the entry of an Add, by its author; none of another update
unfoldable pub set_entries_from : Update → List SetEntry
set_entries_from u = map (λ (t : List ℕ). record { tag = t; author = u.author }) (tags_of u.op)

unfoldable pub set_entries : Table → List SetEntry
set_entries T =
    sort entry_key
    (concat_map (λ (r : Row). set_entries_from r.update) (keep (λ (r : Row). held_row r && not (removed T r.id)) T))

-- the list

unfoldable pub rank : Row → ℕ
rank r = length r.above

unfoldable pub anchored : (Id → Bool) → Operation → Bool
anchored p (Add t) = false
anchored p (Remove t named) = false
anchored p (Insert a v) = p a
anchored p (Delete i) = false

-- the rank, then the id
abbrev pub rank_key : Row → List ℕ
rank_key r = rank r ∷ r.id

-- "Among siblings higher rank comes first, then the larger id.": what siblings are sorted by, read backwards
abbrev pub sibling_key : Row → List ℕ
sibling_key r = rank_key r

-- the held Inserts whose anchor passes a test, higher rank first, then the larger id
unfoldable pub siblings : Table → (Id → Bool) → Table
siblings T p =
    reverse (sort sibling_key (keep (λ (r : Row). held_row r && anchored p r.update.op) T))

unfoldable pub under : Row → Id → Bool
under e a = not (same a beginning) && same a e.id

-- parent first, all that hangs under an entry before its next sibling; n bounds the depth
unfoldable pub walk : ℕ → Table → Table → Table
walk zero T es = []
walk (suc n) T es = concat_map (λ (e : Row). e ∷ walk n T (siblings T (under e))) es

unfoldable pub entries : Table → Table
entries T = walk (length T) T (siblings T (λ (a : Id). same a beginning))

unfoldable pub deletes : Id → Operation → Bool
deletes i (Add t) = false
deletes i (Remove t named) = false
deletes i (Insert a v) = false
deletes i (Delete d) = same i d

unfoldable pub deleted : Table → Id → Bool
deleted T i = any (λ (q : Row). held_row q && deletes i q.update.op) T

unfoldable pub values_of : Operation → List (List ℕ)
values_of (Add t) = []
values_of (Remove t named) = []
values_of (Insert a v) = v ∷ []
values_of (Delete i) = []

unfoldable pub list : Table → List (List ℕ)
list T = concat_map (λ (r : Row). values_of r.update.op) (keep (λ (r : Row). not (deleted T r.id)) (entries T))

-- the parts of the report

abbrev pub updates_in : Table → List Update
updates_in T = map (λ (r : Row). r.update) T

unfoldable pub parts_in : Table → Parts
parts_in T =
    record {
      held = updates_in (keep (λ (r : Row). is_held r.verdict) T);
      heads = updates_in (heads T);
      waiting = updates_in (keep (λ (r : Row). is_waiting r.verdict) T);
      void = updates_in (keep (λ (r : Row). is_void r.verdict) T);
      marks = marks T;
      set = set_entries T;
      list = list T;
    }

unfoldable pub parts_of : Rules → List Update → Parts
parts_of rules S = parts_in (settled_table rules S)

-- document 02, E4: how two updates of a set stand to each other
unfoldable pub causal_order : Rules → List Update → Update → Update → CausalOrder
causal_order rules S u v = order_in (settled_table rules S) (rules.ident u) (rules.ident v)
