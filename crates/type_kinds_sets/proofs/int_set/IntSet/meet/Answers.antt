use Rattle.std.proofs.Common.{◌≡◌, arith}
use Rattle.type_kinds_sets.specs.Numbers.{meet}
use Rattle.type_kinds_sets.proofs.NumberLaws.{as_listed, as_range, has-meet}
use Rattle.type_kinds_sets.proofs.int_set.IntSet.meet.Goals as goal

pub returns-in-Listed-clause-both : goal.returns-in-Listed-clause-both
unfolding meet
returns-in-Listed-clause-both c =
    let value : c.kept.result ≡ meet c.args.self.now c.args.other.now = grind (arith, as_listed) in
    rw value (has-meet c.args.self.now c.args.other.now)

pub returns-in-Listed-kind-clause-both : goal.returns-in-Listed-kind-clause-both
unfolding meet
returns-in-Listed-kind-clause-both c =
    let value : c.kept-in-Listed-kind.result ≡ meet c.args.self.now c.args.other.now = grind (arith, as_listed, as_range) in
    rw value (has-meet c.args.self.now c.args.other.now)
