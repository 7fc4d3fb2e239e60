use Rattle.core_scope.proofs.Tables.{found_tells, unknown_tells}
use Rattle.core_scope.proofs.InnerBindings.{place_bound, place_there, place_innermost, place_unknown}
use Rattle.std.proofs.Common.{sym, subst, ◌≡◌, drop, ltb}
use Rattle.std.specs.List.{list_any}
use Rattle.core_scope.proofs.names.Names.place_of.Goals as goal

pub returns-in-Some-clause-bound : goal.returns-in-Some-clause-bound
returns-in-Some-clause-bound g c = place_bound (g.T.PartialEq.eq c.args.name.now) c.args.self.now c.last_of.result c.checked_sub.result
    (λ from. subst (λ last. ltb from last ≡ list_any (g.T.PartialEq.eq c.args.name.now) (drop from c.args.self.now)) (sym c.last_of.ensures)
    (found_tells g.T.PartialEq.eq g.met.T.Eq.laws c.self.inside.numbers.keys c.self.inside.last c.self.inside.bound c.args.self.now c.args.name.now c.in-Some.number from c.self.view_is c.self.invariant (sym c.in-Some.ensures.index)))
    c.checked_sub.ensures

pub returns-in-Some-clause-there : goal.returns-in-Some-clause-there
returns-in-Some-clause-there g c = place_there (g.T.PartialEq.eq c.args.name.now) c.args.self.now c.last_of.result c.checked_sub.result
    (λ from. subst (λ last. ltb from last ≡ list_any (g.T.PartialEq.eq c.args.name.now) (drop from c.args.self.now)) (sym c.last_of.ensures)
    (found_tells g.T.PartialEq.eq g.met.T.Eq.laws c.self.inside.numbers.keys c.self.inside.last c.self.inside.bound c.args.self.now c.args.name.now c.in-Some.number from c.self.view_is c.self.invariant (sym c.in-Some.ensures.index)))
    c.checked_sub.ensures

pub returns-in-Some-clause-innermost : goal.returns-in-Some-clause-innermost
returns-in-Some-clause-innermost g c = place_innermost (g.T.PartialEq.eq c.args.name.now) c.args.self.now c.last_of.result c.checked_sub.result
    (λ from. subst (λ last. ltb from last ≡ list_any (g.T.PartialEq.eq c.args.name.now) (drop from c.args.self.now)) (sym c.last_of.ensures)
    (found_tells g.T.PartialEq.eq g.met.T.Eq.laws c.self.inside.numbers.keys c.self.inside.last c.self.inside.bound c.args.self.now c.args.name.now c.in-Some.number from c.self.view_is c.self.invariant (sym c.in-Some.ensures.index)))
    c.checked_sub.ensures

pub returns-in-None-clause-bound : goal.returns-in-None-clause-bound
returns-in-None-clause-bound g c =
    place_unknown (g.T.PartialEq.eq c.args.name.now) c.args.self.now (unknown_tells g.T.PartialEq.eq g.met.T.Eq.laws c.self.inside.numbers.keys c.self.inside.bound c.args.self.now c.args.name.now 0 c.self.view_is
    (sym c.in-None.ensures.found))
