-- What a walk reads of the state: the parameters of the functions that stand in the text, and the results of those that it enters.
use Rattle.std.specs.Prelude.{◌≡◌, ℕ, List, [], ◌∷◌, Option, Some, None}
use Rattle.core_ast.specs.declared.syntax.FunName.{FunName}
use Rattle.core_scope.specs.Functions.{LabelledFunction}
use Rattle.module_flow_calls.specs.declared.names.DefinedFunction.{DefinedFunction}
use Rattle.module_flow_state.specs.declared.states.Contribution.{Contribution}
use Rattle.module_flow_state.specs.declared.states.Contribution.TheVariants.{Enters, Returns}
use Rattle.module_flow_state.specs.States.{FlowState, parameters_of, result_of}

-- the function that a contribution is for
abbrev pub label_of : Contribution → ℕ
label_of (Enters l ts) = l
label_of (Returns l t) = l

abbrev pub labels_given : List Contribution → List ℕ
labels_given [] = []
labels_given (g ∷ gs) = label_of g ∷ labels_given gs

-- the labels of functions that have names
abbrev pub labels_named : List DefinedFunction → List ℕ
labels_named [] = []
labels_named (d ∷ ds) = d.label ∷ labels_named ds

-- two states have the same of each function of these labels: with what it is entered, or what it gives
abbrev pub AreAlike : {X : Type 0} (kind : FlowState → ℕ → X) (old new : FlowState) → List ℕ → Type 0
AreAlike kind old new [] = Unit {0}
AreAlike kind old new (l ∷ ls) = (kind new l ≡ kind old l) × AreAlike kind old new ls

-- what each function gives that contributions are for, and with what each is entered that has a name
abbrev pub AlikeWhereGiven : (old new : FlowState) → List Contribution → Type 0
AlikeWhereGiven old new [] = Unit {0}
AlikeWhereGiven old new (g ∷ gs) = (result_of new (label_of g) ≡ result_of old (label_of g)) × AlikeWhereGiven old new gs

abbrev pub AlikeIfNamed : (old new : FlowState) → ℕ → Option FunName → Type 0
AlikeIfNamed old new l None = Unit {0}
AlikeIfNamed old new l (Some f) = parameters_of new l ≡ parameters_of old l

abbrev pub AlikeInText : (old new : FlowState) → List LabelledFunction → Type 0
AlikeInText old new [] = Unit {0}
AlikeInText old new (f ∷ fs) = AlikeIfNamed old new f.label f.name × AlikeInText old new fs
