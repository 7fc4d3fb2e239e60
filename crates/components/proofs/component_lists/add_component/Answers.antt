use Rattle.components.proofs.ComponentLists.{add_one}
use Rattle.components.proofs.component_lists.add_component.Goals as goal

pub returns : goal.returns
returns c = add_one _ _ _ c.args.own c.args.component c.if-component-own.false c.insert.ensures
