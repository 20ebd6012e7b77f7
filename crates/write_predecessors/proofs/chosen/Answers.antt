use Rattle.std.proofs.Common.{ℕ, sym, ◌∙◌, subst, arith, ◌≡◌}
use Rattle.ledger_state.specs.View.{book, store_of}
use Rattle.ledger_sorting.specs.PlaceLists.{Places, PlaceList, Lists}
use Rattle.ledger_state.specs.declared.replica.Replica.{Replica}
use Rattle.write_highest.proofs.Scanning.{top-inside}
use Rattle.write_predecessors.specs.Choose.{chosen_places}
use Rattle.write_predecessors.proofs.Choosing.{chosen-listed, chosen-few, chosen-many, chosen-lowest}
use Rattle.write_predecessors.proofs.chosen.Goals as goal

-- what is chosen is a list of places
lists : (r : Replica) (a : ℕ) {v : Places} → v.items ≡ chosen_places (book r) (store_of r) a → Lists v (chosen_places (book r) (store_of r) a)
lists r a e = record { is_list = subst PlaceList (sym e) (chosen-listed (book r) (store_of r) (omega arith) (omega arith) r.fits a); are = e }

pub keep_above-requires : goal.keep_above-requires
keep_above-requires c =
    let l = book c.args.replica.now in
    record {
      heads-for = record {
        is_list = c.heads-heads.ensures.is_list;
        are_heads = c.heads-heads.ensures.are;
        place_within = omega (arith, top-inside l (store_of c.args.replica.now) c.args.author c.args.replica.now.ledger.now.used _ (sym c.in-Some.ensures), c.args.replica.now.fits);
      };
      over-most = omega (arith, c.len.ensures.value);
    }

pub returns-in-Some-clause-chosen : goal.returns-in-Some-clause-chosen
returns-in-Some-clause-chosen c =
    lists c.args.replica.now c.args.author
    (c.keep_above.ensures.most
    ∙ chosen-many (book c.args.replica.now) (store_of c.args.replica.now) c.heads-heads.result.items c.heads-heads.ensures.are c.args.author _ (omega (arith, c.len.ensures.value)) (sym c.in-Some.ensures))

pub returns-in-None-clause-chosen : goal.returns-in-None-clause-chosen
returns-in-None-clause-chosen c =
    lists c.args.replica.now c.args.author
    (c.truncate.ensures.items
    ∙ chosen-lowest (book c.args.replica.now) (store_of c.args.replica.now) c.heads-heads.result.items c.heads-heads.ensures.are c.args.author (omega (arith, c.len.ensures.value)) (sym c.in-None.ensures))

pub returns-else-len-gt-NAMED_HEADS-clause-chosen : goal.returns-else-len-gt-NAMED_HEADS-clause-chosen
returns-else-len-gt-NAMED_HEADS-clause-chosen c =
    lists c.args.replica.now c.args.author
    (chosen-few (book c.args.replica.now) (store_of c.args.replica.now) c.heads-heads.result.items c.heads-heads.ensures.are c.args.author (omega (arith, c.len.ensures.value)))
