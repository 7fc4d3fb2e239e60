use Rattle.std.proofs.Common.{◌∙◌}
use Rattle.cons_gen_rows.proofs.VariableLaws.{found_slot, no_slot}
use Rattle.cons_gen_rows.proofs.variables.Variables.slot_of.Goals as goal

pub returns-in-Some : goal.returns-in-Some
returns-in-Some c = found_slot c.in-Some.position c.self.inside.names c.self.inside.slots c.args.self.now c.args.name.now c.copied.result c.self.view_is c.self.invariant c.in-Some.ensures.there c.in-Some.ensures.innermost
    (c.copied.ensures ∙ c.get.ensures.value)

pub returns-in-None : goal.returns-in-None
returns-in-None c = no_slot c.self.inside.names c.self.inside.slots c.args.self.now c.args.name.now c.place_of.result c.self.view_is c.in-None.is c.place_of.ensures.bound
