-- How a waiting place is judged from the bookkeeping and the store: what its predecessors say, its ancestor word, and its operation. The laws in
-- `JudgeLaws` say that these are the judgements of the rules.
use Rattle.std.specs.Prelude.{ℕ, List, [], ◌∷◌, Bool, true, false, cond, not, ◌&&◌, ◌||◌}
use Rattle.std.specs.Prelude.{Option, None, Some}
use Rattle.std.proofs.Common.{Bor}
use Rattle.bytes_order.specs.Order.{same}
use Rattle.bytes_order.specs.Member.{all}
use Rattle.update_format.specs.Update.{document_bounds, Id, Operation, Add, Remove, Insert, Delete}
use Rattle.update_format.specs.Decode.{Decoded, refused, update, decode}
use Rattle.rules.specs.Standing.{beginning}
use Rattle.rules.specs.Settle.{is_add, is_insert}
use Rattle.update_fields.specs.Fields.{test_of}
use Rattle.bitset.specs.Bits.{has, including, join}
use Rattle.rules.specs.declared.Standing.{Standing}
use Rattle.rules.specs.declared.Standing.TheVariants.{Held, Waiting, Void}
use Rattle.ledger_state.specs.State.{Book, place_at, decoded_at, find_in}
use Rattle.ledger_judging.specs.Antichain.{antichain_at}
use Rattle.ledger_judging.specs.declared.Gathered.{Gathered}
use Rattle.ledger_judging.specs.declared.Judgement.{Judgement}
use Rattle.ledger_judging.specs.declared.Judgement.TheVariants.{Holds, Fails, Waits}

-- what the predecessors seen so far say: all are held; some is void; their places; their ancestors
abbrev pub nothing_gathered : Gathered
nothing_gathered = record { ready = true; void = false; direct = 0; above = 0 }

abbrev pub gather_by : Book → Gathered → ℕ → Standing → Gathered
gather_by l g j Held =
    record { ready = g.ready; void = g.void; direct = including g.direct j; above = join g.above (place_at l j).ancestors }
gather_by l g j Waiting = record { ready = false; void = g.void; direct = g.direct; above = g.above }
gather_by l g j Void = record { ready = g.ready; void = true; direct = g.direct; above = g.above }

abbrev pub gather_at : Book → Gathered → Option ℕ → Gathered
gather_at l g None = record { ready = false; void = g.void; direct = g.direct; above = g.above }
gather_at l g (Some j) = gather_by l g j (place_at l j).standing

unfoldable pub gather : Book → Gathered → List Id → Gathered
gather l g [] = g
gather l g (i ∷ is) = gather l (gather_at l g (find_in l i)) is

-- all predecessors are held: each was found, and at a held place
unfoldable pub all_held : Gathered → Bool
all_held g = not g.void && g.ready

-- the place j is in the set `up`, and the operation of its update passes a test
unfoldable pub names_at : Book → List ℕ → (Operation → Bool) → ℕ → Option ℕ → Bool
names_at l s p up None = false
names_at l s p up (Some j) = has up j && test_of p (decoded_at l s j)

-- the id i is that of a place in the set `up` whose operation passes a test
unfoldable pub names_ancestor : Book → List ℕ → (Operation → Bool) → ℕ → Id → Bool
names_ancestor l s p up i = names_at l s p up (find_in l i)

-- bytes that were found are an update whose operation passes a test
abbrev pub tested : (Operation → Bool) → Option (Bor (List ℕ)) → Bool
tested p None = false
tested p (Some b) = test_of p (decode document_bounds b.now)

-- the operation is valid for the ancestor word `up`
unfoldable pub valid : Book → List ℕ → ℕ → Operation → Bool
valid l s up (Add t) = true
valid l s up (Remove t named) = all (names_ancestor l s (is_add t) up) named
valid l s up (Insert a v) = same a beginning || names_ancestor l s is_insert up a
valid l s up (Delete i) = names_ancestor l s is_insert up i

unfoldable pub judge_ready : Book → List ℕ → Operation → ℕ → ℕ → Judgement
judge_ready l s o direct above =
    cond (antichain_at l direct) (cond (valid l s (join direct above) o) (Holds (join direct above)) Fails) Fails

unfoldable pub judge_gathered : Book → List ℕ → Operation → Gathered → Judgement
judge_gathered l s o g = cond g.void Fails (cond g.ready (judge_ready l s o g.direct g.above) Waits)

unfoldable pub judge_decoded : Book → List ℕ → Decoded → Judgement
judge_decoded l s (refused n) = Waits
judge_decoded l s (update u) = judge_gathered l s u.op (gather l nothing_gathered u.preds)

unfoldable pub judge_at : Book → List ℕ → ℕ → Judgement
judge_at l s k = judge_decoded l s (decoded_at l s k)

-- the predecessors of the update at place k are all held; not so where its bytes are no update
unfoldable pub ready_decoded : Book → Decoded → Bool
ready_decoded l (refused n) = false
ready_decoded l (update u) = all_held (gather l nothing_gathered u.preds)

unfoldable pub ready_at : Book → List ℕ → ℕ → Bool
ready_at l s k = ready_decoded l (decoded_at l s k)
