use Rattle.std.proofs.Common.{◌∙◌}
use Rattle.fun_flow_places.proofs.BindingLaws.{found_value, no_value}
use Rattle.fun_flow_places.proofs.bindings.Bindings.get.Goals as goal

pub returns-in-Some : goal.returns-in-Some
returns-in-Some g c =
    found_value _ c.in-Some.position c.self.inside.names c.self.inside.values c.args.self.now c.args.name.now c.copied.result c.self.view_is c.self.invariant c.in-Some.ensures.there
    c.in-Some.ensures.innermost (c.copied.ensures ∙ c.get.ensures.value)

pub returns-in-None : goal.returns-in-None
returns-in-None g c = no_value _ c.self.inside.names c.self.inside.values c.args.self.now c.args.name.now c.place_of.result c.self.view_is c.in-None.is c.place_of.ensures.bound
