use Rattle.std.proofs.Common.{◌≡◌, true, subst, sym, ◌∙◌}
use Rattle.cons_tree.specs.Callees.{found, Fits}
use Rattle.analysis_crew.specs.steps.Fixing.{tells}
use Rattle.analysis_crew.proofs.Fixing.{name_fixed, name_left}
use Rattle.type_kinds.proofs.Results.{on_both}
use Rattle.analysis_crew.proofs.fixed.fix_name.Goals as goal

pub set-requires : goal.set-requires
set-requires c = subst (λ k. Fits k c.args.name.now.arity) (sym c.in_ok-callee.ensures) c.find-callee.ensures.fits

pub returns-in_ok-callee : goal.returns-in_ok-callee
returns-in_ok-callee c =
    on_both c.set.result c.set.ensures.set c.set.ensures.others
    (name_fixed (found c.args.first.now) (found c.args.fixed.now) (found c.set.new.self) c.args.home.now c.args.name.now c.in_ok-callee.callee (c.in_ok-callee.ensures ∙ c.find-callee.ensures.value)
    (subst (λ k. tells k ≡ true) (sym c.in_ok-callee.ensures) (sym c.tells.ensures ∙ c.if-tells.true)))

pub returns-else-tells : goal.returns-else-tells
returns-else-tells c =
    name_left (found c.args.first.now) (found c.args.fixed.now) c.args.home.now c.args.name.now c.find-callee.result.now c.find-callee.ensures.value (sym c.tells.ensures ∙ c.if-tells.false)
