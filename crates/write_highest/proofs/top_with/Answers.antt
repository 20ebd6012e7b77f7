use Rattle.std.proofs.Common.{sym, ◌∙◌}
use Rattle.ledger_state.specs.View.{book, store_of}
use Rattle.write_highest.proofs.Scanning.{two_places, better-some, better-none, top-other, top-lower, top_taken}
use Rattle.write_highest.proofs.top_with.Goals as goal

pub returns-then-not-is_own : goal.returns-then-not-is_own
returns-then-not-is_own c =
    top-other (book c.args.replica.now) (store_of c.args.replica.now) c.args.author c.args.k c.requires.top_right (sym c.is_own.ensures ∙ c.if-not-is_own.true)

pub is_higher-requires : goal.is_higher-requires
is_higher-requires c =
    two_places (book c.args.replica.now) (store_of c.args.replica.now) c.args.author c.args.k c.in-Some.j c.args.replica.now.fits c.requires c.in-Some.is

pub returns-then-not-is_higher : goal.returns-then-not-is_higher
returns-then-not-is_higher c =
    sym c.in-Some.is
    ∙ top-lower (book c.args.replica.now) (store_of c.args.replica.now) c.args.author c.args.k c.requires.top_right (sym c.is_own.ensures ∙ c.if-not-is_own.false)
    (sym (better-some (book c.args.replica.now) (store_of c.args.replica.now) c.args.author c.args.k c.in-Some.j c.in-Some.is c.is_higher.ensures) ∙ c.if-not-is_higher.true)

pub returns-else-not-is_higher : goal.returns-else-not-is_higher
returns-else-not-is_higher c =
    top_taken (book c.args.replica.now) (store_of c.args.replica.now) c.args.author c.args.k c.requires.top_right (sym c.is_own.ensures ∙ c.if-not-is_own.false)
    (sym (better-some (book c.args.replica.now) (store_of c.args.replica.now) c.args.author c.args.k c.in-Some.j c.in-Some.is c.is_higher.ensures) ∙ c.if-not-is_higher.false)

pub returns-in_default : goal.returns-in_default
returns-in_default c =
    top_taken (book c.args.replica.now) (store_of c.args.replica.now) c.args.author c.args.k c.requires.top_right (sym c.is_own.ensures ∙ c.if-not-is_own.false)
    (sym (better-none (book c.args.replica.now) (store_of c.args.replica.now) c.args.author c.args.k c.in_default.is))
