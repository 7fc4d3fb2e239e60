use Rattle.module_flow_calls.proofs.Named.{found_label, no_label}
use Rattle.module_flow_calls.proofs.functions.label_named.Goals as goal

pub returns-in-Some : goal.returns-in-Some
returns-in-Some c =
    found_label c.in-Some.position c.args.names.now c.args.labels.now c.args.name.now c.label_at.result c.in-Some.ensures.there c.in-Some.ensures.innermost c.label_at.ensures

pub returns-in-None : goal.returns-in-None
returns-in-None c =
    no_label c.args.names.now c.args.labels.now c.args.name.now c.place_of.result c.in-None.is c.place_of.ensures.bound
