use Rattle.std.proofs.Common.{◌↔◌, ℕ, [], Contains, subst}
use Rattle.fun_flow_numbers.specs.Held.{HoldsNumber}
use Rattle.fun_flow_numbers.proofs.Looking.{held_found, held_missing}
use Rattle.fun_flow_numbers.proofs.sets.FunctionSets.held.Goals as goal

pub returns-in-Some : goal.returns-in-Some
returns-in-Some c =
    subst (λ h. (x : ℕ) → Contains c.targets_of.result.now x ↔ HoldsNumber h c.args.place.now x) c.self.view_is
    (held_found (record { places = c.self.inside.places; items = c.self.inside.items; sets = c.self.inside.sets }) c.args.place.now c.in-Some.number c.in-Some.ensures.found
    c.in-Some.ensures.only c.targets_of.result.now c.targets_of.ensures)

pub returns-in-None : goal.returns-in-None
returns-in-None c =
    subst (λ h. (x : ℕ) → Contains [] x ↔ HoldsNumber h c.args.place.now x) c.self.view_is
    (held_missing (record { places = c.self.inside.places; items = c.self.inside.items; sets = c.self.inside.sets }) c.args.place.now c.in-None.ensures.missing)
