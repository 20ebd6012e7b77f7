-- `count` meets its contract: the places of a run are those of its words, summed.
use Rattle.std.proofs.Common.{rules, tests, ◌∙◌}
use Rattle.std.proofs.lemmas.Iterator.{YieldsList-from_slice, YieldsList-from_map}
use Rattle.std.proofs.lemmas.Iterator.Consumers.{YieldsList-at, sum_by_from_yields_List, fits_by_from_yields_list}
use Rattle.bitset.specs.Bits.{count}
use Rattle.bitset_words.proofs.Reading.{count-words, count_fits}
use Rattle.bitset_words.proofs.count.Goals as goal

pub sum-requires-clause-fits : goal.sum-requires-clause-fits
sum-requires-clause-fits c =
    fits_by_from_yields_list count c.args.s.now c.map.result _
    (YieldsList-from_map _ count (YieldsList-at c.map.ensures.source (YieldsList-from_slice c.args.s.now (cc))) c.map.ensures.closure (λ x r q k. search (rules, tests)))
    (count_fits c.args.s.now (λ i. (c.type_inv.s i).fits) c.requires)

pub returns : goal.returns
returns c =
    sum_by_from_yields_List count c.args.s.now c.map.result _ c.sum.ensures.ran
    (YieldsList-from_map _ count (YieldsList-at c.map.ensures.source (YieldsList-from_slice c.args.s.now (cc))) c.map.ensures.closure (λ x r q k. search (rules, tests)))
    ∙ count-words c.args.s.now (λ i. (c.type_inv.s i).fits)
