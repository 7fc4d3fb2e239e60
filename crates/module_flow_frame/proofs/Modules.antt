-- What is found in a module rests, of all that is known, only on its own functions and on what it calls.
use Rattle.std.proofs.Common.{◌≡◌, ℕ, zero, suc, [], refl, ap, ap₂, ◌∙◌, Contains}
use Rattle.core_ast.specs.declared.syntax.FunName.{FunName}
use Rattle.core_ast.specs.Model as m
use Rattle.core_scope.specs.Names.{defined_names}
use Rattle.module_flow_calls.specs.Functions.{defined_labels}
use Rattle.module_flow_state.specs.Scopes.{outermost}
use Rattle.module_flow_state.specs.States.{FlowState, takes, next_state}
use Rattle.module_flow.specs.Flow.{Callees, made_of, after_rounds, last_round, last_state, around_module, findings_in, findings}
use Rattle.cons_gen_frame.proofs.Targets.{DefsAgree}
use Rattle.module_flow_frame.proofs.Going.{join}
use Rattle.module_flow_frame.proofs.Worlds.{TwoWalks}
use Rattle.module_flow_frame.proofs.Contributions.{def_contributions}
use Rattle.module_flow_frame.proofs.Found.{def_found, reported_same}
use Rattle.module_flow_frame.proofs.Unknowns.{unknown_same}

module _ (x : m.Module) (c d : Callees) (own : (f : FunName) → Contains (defined_names x.defs) f → c x.name f ≡ d x.name f) (h : DefsAgree c d x.name [] x.defs) where
  abbrev walks : FlowState → TwoWalks
  walks st = record { first = c; second = d; home = x.name; names = defined_names x.defs; labels = defined_labels x.defs; state = st; own = own }

  made_same : (st : FlowState) → made_of c x st ≡ made_of d x st
  made_same st = ap (takes st) (def_contributions (walks st) x.defs outermost h)

  rounds_same : (k : ℕ) → after_rounds c x k ≡ after_rounds d x k
  rounds_same zero = refl
  rounds_same (suc k) =
      ap₂ (next_state k) (rounds_same k) (made_same (after_rounds c x k) ∙ ap (made_of d x) (rounds_same k))

  in_state : (st : FlowState) → findings_in c x st ≡ findings_in d x st
  in_state st =
      join
      (join (reported_same (walks st) (around_module c x) x.defs own) (def_found (walks st) x.defs outermost h (around_module c x)))
      (unknown_same c d x.name (around_module c x) x.defs h)

  pub findings_same : findings c x ≡ findings d x
  findings_same = in_state (last_state c x) ∙ ap (findings_in d x) (rounds_same (last_round c x))
