-- A function as the flow begins.
use Rattle.std.specs.Prelude.{ℕ, List, Some, None, cond, replicate}
use Rattle.type_lattice.specs.Types.{none, any}
use Rattle.module_flow_calls.specs.declared.names.DefinedFunction.{DefinedFunction}
use Rattle.module_flow_state.specs.declared.states.FlowFun.{FlowFun}
use Rattle.module_flow.specs.Flow.{has_label}

-- a function, entered with anything if its label is one of these, and else not entered
abbrev pub initial_function : List ℕ → DefinedFunction → FlowFun
initial_function escaping_labels d =
    record {
      label = d.label;
      name = d.name;
      params = cond (has_label escaping_labels d.label) (Some (replicate d.count any)) None;
      result = none;
    }
