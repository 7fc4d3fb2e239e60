-- The state of a walk: what it sees, and what it notes.
use Rattle.std.specs.Prelude.{◌≡◌, ◌≤◌, ℕ, Bool, cond, List, [], ◌∷◌, ◌++◌, Some, None, length, take}
use Rattle.cons_tree.specs.Callees.{found as callee_found}
use Rattle.type_lattice.specs.Types.{Type4}
use Rattle.cons_gen_rows.specs.Scopes.{Binding}
use Rattle.cons_tree.specs.Environments.{Types}
use Rattle.warn_list.specs.declared.finding.Finding.{Finding}
use Rattle.module_flow_state.specs.declared.states.Contribution.{Contribution}
use Rattle.module_flow_state.specs.declared.walk.WalkContext.{WalkContext}
use Rattle.module_flow_state.specs.declared.walk.FlowWalk.{FlowWalk}
use Rattle.module_flow_calls.specs.TypeLists.{Given, first}
use Rattle.module_flow_state.specs.Scopes.{WalkScope}
use Rattle.module_flow_state.specs.World.{World}

-- what a walk knows
abbrev pub world_of : WalkContext → World
world_of a =
    record {
      callee = callee_found a.known.now;
      home = a.home.now;
      names = a.tops.now.names;
      labels = a.tops.now.labels;
      state = a.state.now;
    }

-- what it sees where it stands
abbrev pub walk_scope_of : FlowWalk → WalkScope
walk_scope_of w =
    record { variables = w.scope.variables; functions = w.scope.functions; labels = w.labels; types = w.types }

-- where it sees this
abbrev pub seeing : FlowWalk → WalkScope → FlowWalk
seeing w sc =
    record w {
      scope = record { variables = sc.variables; functions = sc.functions };
      labels = sc.labels;
      types = sc.types;
    }

-- with other types of the slots
abbrev pub with_types : FlowWalk → Types → FlowWalk
with_types w ts = record w { types = ts }

-- with variables bound besides
abbrev pub with_bindings : FlowWalk → List Binding → FlowWalk
with_bindings w bs = record w { scope = record { variables = w.scope.variables ++ bs; functions = w.scope.functions } }

-- with only the first `variables` variables and `types` types left, and with only the first `functions` functions
-- and `labels` labels
abbrev pub left : FlowWalk → (variables types : ℕ) → FlowWalk
left w n k =
    record w {
      scope = record { variables = take n w.scope.variables; functions = w.scope.functions };
      types = take k w.types;
    }

abbrev pub undefined : FlowWalk → (functions labels : ℕ) → FlowWalk
undefined w n k =
    record w {
      scope = record { variables = w.scope.variables; functions = take n w.scope.functions };
      labels = take k w.labels;
    }

-- the first type, where there are types
abbrev pub first_listed : Given → List Type4
first_listed None = []
first_listed (Some ts) = first ts ∷ []

-- the findings that it notes
abbrev pub noted : FlowWalk → List Finding → List Finding
noted w fs = cond w.reporting fs []

-- where it notes what it finds, or doesn't
abbrev pub reporting_if : FlowWalk → Bool → FlowWalk
reporting_if w b = record w { reporting = b }

-- where it has given and found these besides
abbrev pub noting : FlowWalk → List Contribution → List Finding → FlowWalk
noting w gs fs = record w { contributions = w.contributions ++ gs; found = w.found ++ noted w fs }

-- variables may have come into scope: without them it is the walk that notes these besides
pub record Grows (old new : FlowWalk) (gs : List Contribution) (fs : List Finding) : Type 0 where
  pub variables : length old.scope.variables ≤ length new.scope.variables
  pub without : left new (length old.scope.variables) (length old.types) ≡ noting old gs fs
