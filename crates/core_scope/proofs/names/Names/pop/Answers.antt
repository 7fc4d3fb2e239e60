use Rattle.std.proofs.Common.{ℕ, List, sym, ap, ◌∙◌, subst}
use Rattle.core_scope.specs.steps.Trail.{bound_names, IsTable}
use Rattle.core_scope.proofs.Tables.{last_within, without_binding, names_without}
use Rattle.core_scope.proofs.names.Names.pop.Goals as goal

pub replace-requires : goal.replace-requires
replace-requires g c =
    last_within g.T.PartialEq.eq g.met.T.Eq.laws c.self.inside.numbers.keys c.self.inside.last c.pop.new.self c.in-Some.field-0
    (subst (IsTable g.T.PartialEq.eq c.self.inside.numbers.keys c.self.inside.last) c.in-Some.ensures c.self.invariant)

pub invariant_of-self : goal.invariant_of-self
invariant_of-self g c =
    let P : List ℕ → Type 0 = λ last. IsTable g.T.PartialEq.eq c.self.inside.numbers.keys last c.pop.new.self in
    subst P (sym c.replace.ensures.after)
    (without_binding g.T.PartialEq.eq g.met.T.Eq.laws c.self.inside.numbers.keys c.self.inside.last c.pop.new.self c.in-Some.field-0
    (subst (IsTable g.T.PartialEq.eq c.self.inside.numbers.keys c.self.inside.last) c.in-Some.ensures c.self.invariant))

pub returns-in-Some : goal.returns-in-Some
returns-in-Some g c =
    names_without g.T.PartialEq.eq g.met.T.Eq.laws c.self.inside.numbers.keys c.self.inside.last c.pop.new.self c.in-Some.field-0 c.args.self.now
    (subst (IsTable g.T.PartialEq.eq c.self.inside.numbers.keys c.self.inside.last) c.in-Some.ensures c.self.invariant)
    (ap (bound_names c.self.inside.numbers.keys) (sym c.in-Some.ensures) ∙ c.self.view_is)
