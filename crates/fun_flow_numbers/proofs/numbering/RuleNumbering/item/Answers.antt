use Rattle.std.proofs.Common.{subst}
use Rattle.std.proofs.lemmas.Result.{on_ok_weaker}
use Rattle.fun_flow_numbers.specs.steps.Numbering.{AddsItem}
use Rattle.fun_flow_numbers.proofs.Growth.{numbering_item}
use Rattle.fun_flow_numbers.proofs.numbering.RuleNumbering.item.Goals as goal

pub returns-clause-kept : goal.returns-clause-kept
returns-clause-kept c =
    on_ok_weaker c.add_item.result
    (λ adds rules before.
    numbering_item c.args.table.now rules c.args.self.now c.gives_of.new.self c.add_item.new.self c.args.item.now c.arity.result c.in_ok-gives.gives c.in_ok-gives.ensures.keeps c.in_ok-gives.ensures.gives c.arity.ensures
    (subst (λ y. AddsItem c.gives_of.new.self c.add_item.new.self y c.arity.result c.in_ok-gives.gives) c.in_ok-copy.ensures adds) before)
    c.add_item.ensures.adds
