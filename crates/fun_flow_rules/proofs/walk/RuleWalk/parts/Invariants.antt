use Rattle.std.proofs.Common.{◌≡◌, ◌++◌, ◌-◌, map}
use Rattle.type_kinds.specs.declared.atom.Atom.{Atom}
use Rattle.core_meaning.specs.Programs.{Program}
use Rattle.fun_flow_places.specs.Naming.{place_named}
use Rattle.fun_flow_rules.specs.steps.Walking.{Sees}
use Rattle.fun_flow_sets.specs.Rules.{kept, parts}
use Rattle.fun_flow_sets.specs.Scopes.{Scope}
use Rattle.fun_flow_rules.proofs.walk.RuleWalk.parts.Given as goal

abbrev pub invariant-loop-number : goal.invariant-loop-number
invariant-loop-number l = (U : Program) (home : Atom) (sc : Scope) → Sees U home sc l.fn.self → map (place_named U) l.places ++ parts home l.label l.number (kept l.fn.ask - l.number) ≡ parts home l.label 0 (kept l.fn.ask)
