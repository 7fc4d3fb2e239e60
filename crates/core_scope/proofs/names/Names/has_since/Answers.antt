use Rattle.std.proofs.Common.{sym, ap, ◌∙◌, nat_lt}
use Rattle.core_scope.proofs.Tables.{found_tells, unknown_tells}
use Rattle.core_scope.proofs.names.Names.has_since.Goals as goal

pub returns-in-Some : goal.returns-in-Some
returns-in-Some g c =
    ap (nat_lt c.args.from) c.last_of.ensures
    ∙ found_tells g.T.PartialEq.eq g.met.T.Eq.laws c.self.inside.numbers.keys c.self.inside.last c.self.inside.bound c.args.self.now c.args.name.now c.in-Some.number c.args.from c.self.view_is c.self.invariant
    (sym c.in-Some.ensures.index)

pub returns-in-None : goal.returns-in-None
returns-in-None g c = unknown_tells g.T.PartialEq.eq g.met.T.Eq.laws c.self.inside.numbers.keys c.self.inside.bound c.args.self.now c.args.name.now c.args.from c.self.view_is (sym c.in-None.ensures.found)
