use Rattle.std.proofs.Common.{List, sym, ap, ◌∙◌, subst}
use Rattle.core_scope.specs.declared.names.Binding.{Binding}
use Rattle.core_scope.specs.steps.Trail.{bound_names, IsTable}
use Rattle.core_scope.proofs.Tables.{still_table, roomy, bound_more, names_with, still_names, on_err}
use Rattle.core_scope.proofs.names.Names.push.Goals as goal

pub invariant_of-self : goal.invariant_of-self
invariant_of-self g c = still_table g.T.PartialEq.eq g.met.T.Eq.laws c.self.inside.numbers.keys c.number_of.new.numbers.keys c.self.inside.last c.self.inside.bound c.self.invariant c.number_of.ensures.keys

pub invariant_of-self-in_err-make_room : goal.invariant_of-self-in_err-make_room
invariant_of-self-in_err-make_room g c =
    roomy g.T.PartialEq.eq g.met.T.Eq.laws c.self.inside.numbers.keys c.number_of.new.numbers.keys c.self.inside.last c.make_room.new.last c.self.inside.bound c.args.name.now c.in_ok-number.number c.self.invariant c.number_of.ensures.keys
    c.in_ok-number.ensures.number
    c.make_room.ensures.same c.make_room.ensures.longer c.make_room.ensures.short

pub invariant_of-self-in_err-add : goal.invariant_of-self-in_err-add
invariant_of-self-in_err-add g c =
    let P : List Binding → Type 0 = λ bs. IsTable g.T.PartialEq.eq c.number_of.new.numbers.keys c.make_room.new.last bs in
    subst P (sym c.in_err-add.ensures.err)
    (roomy g.T.PartialEq.eq g.met.T.Eq.laws c.self.inside.numbers.keys c.number_of.new.numbers.keys c.self.inside.last c.make_room.new.last c.self.inside.bound c.args.name.now c.in_ok-number.number c.self.invariant c.number_of.ensures.keys
    c.in_ok-number.ensures.number
    c.make_room.ensures.same c.make_room.ensures.longer c.make_room.ensures.short)

pub invariant_of-self-2 : goal.invariant_of-self-2
invariant_of-self-2 g c =
    bound_more g.T.PartialEq.eq g.met.T.Eq.laws c.number_of.new.numbers.keys c.make_room.new.last c.replace.new.self c.self.inside.bound c.add.new.self c.in_ok-number.number c.at-before.result.now c.len.result c.args.name.now
    (roomy g.T.PartialEq.eq g.met.T.Eq.laws c.self.inside.numbers.keys c.number_of.new.numbers.keys c.self.inside.last c.make_room.new.last c.self.inside.bound c.args.name.now c.in_ok-number.number c.self.invariant c.number_of.ensures.keys
    c.in_ok-number.ensures.number
    c.make_room.ensures.same c.make_room.ensures.longer c.make_room.ensures.short)
    c.in_ok-make_room.ensures.within c.at-before.ensures c.in_ok-number.ensures.number c.in_ok-add.ensures.ok c.len.ensures c.replace.ensures.after

pub returns-clause-bound : goal.returns-clause-bound
returns-clause-bound g c =
    ap (bound_names c.number_of.new.numbers.keys) c.in_ok-add.ensures.ok
    ∙ names_with g.T.PartialEq.eq g.met.T.Eq.laws c.self.inside.numbers.keys c.number_of.new.numbers.keys c.self.inside.last c.self.inside.bound c.args.self.now _ c.args.name.now c.self.invariant c.number_of.ensures.keys c.self.view_is
    c.in_ok-number.ensures.number

pub returns-in_err-number-clause-unchanged : goal.returns-in_err-number-clause-unchanged
returns-in_err-number-clause-unchanged g c = on_err c.from_residual.result
    (still_names g.T.PartialEq.eq g.met.T.Eq.laws c.self.inside.numbers.keys c.number_of.new.numbers.keys c.self.inside.last c.self.inside.bound c.self.invariant c.number_of.ensures.keys ∙ c.self.view_is)

pub returns-in_err-make_room-clause-unchanged : goal.returns-in_err-make_room-clause-unchanged
returns-in_err-make_room-clause-unchanged g c =
    on_err c.from_residual-in_err-make_room.result (still_names g.T.PartialEq.eq g.met.T.Eq.laws c.self.inside.numbers.keys c.number_of.new.numbers.keys c.self.inside.last c.self.inside.bound c.self.invariant c.number_of.ensures.keys
    ∙ c.self.view_is)

pub returns-in_err-add-clause-unchanged : goal.returns-in_err-add-clause-unchanged
returns-in_err-add-clause-unchanged g c =
    on_err c.from_residual-in_err-add.result
    (ap (bound_names c.number_of.new.numbers.keys) c.in_err-add.ensures.err
    ∙ still_names g.T.PartialEq.eq g.met.T.Eq.laws c.self.inside.numbers.keys c.number_of.new.numbers.keys c.self.inside.last c.self.inside.bound c.self.invariant c.number_of.ensures.keys ∙ c.self.view_is)
