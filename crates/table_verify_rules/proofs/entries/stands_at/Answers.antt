use Rattle.table_verify_rules.proofs.Listing.{stands_told}
use Rattle.table_verify_rules.proofs.entries.stands_at.Goals as goal

pub returns-then-eq : goal.returns-then-eq
returns-then-eq c =
    stands_told c.args.entry.now.exports c.args.at c.in-Some.own.now c.args.listed.now c.eq.result c.eq-then-eq.result c.in-Some.ensures.value c.eq.ensures c.if-eq.true c.eq-then-eq.ensures
