-- What is listed of an application.
use Rattle.std.specs.Prelude.{◌≡◌, List, Some, slice_get, slice_index}
use Rattle.fun_flow_answers.specs.declared.target.AppliedCall.{AppliedCall}
use Rattle.fun_flow_numbers.specs.Held.{HeldNumbers}
use Rattle.fun_flow_applied.specs.declared.applications.AppliedValue.{AppliedValue}
use Rattle.fun_flow_applied.specs.declared.module_text.ModuleText.{ModuleText}
use Rattle.fun_flow_applied.specs.steps.Entering.{AreEntered}

pub record IsCallOf (ts : List ModuleText) (held : HeldNumbers) (a : AppliedValue) (c : AppliedCall) : Type 0 where
  pub module_so : c.«module» ≡ a.«module»
  pub label_so : c.label ≡ a.label
  pub arity_so : c.arity ≡ a.arity
  pub line_so : (t : ModuleText) → slice_get ts a.«module» ≡ Some t → c.line ≡ slice_index t.lines a.label
  pub targets_so : AreEntered ts held a.operator a.arity c.targets
