use Rattle.std.proofs.Common.{◌≡◌, suc, ◌-◌, drop, ap, ap₂, ◌∙◌, arith}
use Rattle.core_scope.specs.Checked.{tree_of}
use Rattle.core_scope.specs.Names.{has_function}
use Rattle.cons_tree.specs.Callees.{found}
use Rattle.comp_rounds.specs.Rounds.{standing, with_callee}
use Rattle.table_verify_rules.specs.steps.Knowing.{with_listed}
use Rattle.table_verify_rules.proofs.Entering.{next_entered}
use Rattle.table_verify_rules.proofs.knowing.enter_entry.Goals as goal

pub loop-at-preserved : goal.loop-at-preserved
loop-at-preserved c =
    let k = c.loop-at.at - 1 in let xs = c.args.entry.now.exports in let before = found c.args.known.now in let L = found c.loop-at.known in
    let tree = tree_of c.args.source.now.checked in
    let one : c.loop-at.at ≡ suc k = omega arith in
    let name = ap (λ y. y.name) c.module-module.ensures in
    let exports = c.in_ok-exports.ensures ∙ c.as_slice.ensures ∙ ap (λ y. y.exports) c.module-module.ensures in (
      omega arith,
      next_entered tree.name tree.exports xs k (omega arith) before L (found c.enter_at.new.known)
          (c.loop-at.invariant.1 ∙ ap (λ n. with_listed tree.name tree.exports (drop n xs) before) one)
          (λ x at. c.in_ok-enter_at.ensures x at ∙ ap₂ (λ h es. with_callee L h x.0 (standing (has_function es x.0) x.1)) name exports),
    )
