-- Applications of names and of values: what they give, what they enter, and when they are reported.
use Rattle.std.specs.Prelude.{ℕ, eqb, cond, List, [], ◌∷◌, length, Option, Some, None}
use Rattle.core_ast.specs.declared.syntax.FunName.{FunName}
use Rattle.type_lattice.specs.Types.{Type4, is_none, meet}
use Rattle.cons_gen_rows.specs.Words.{function_type}
use Rattle.warn_list.specs.declared.finding.Finding.{Finding}
use Rattle.module_flow_calls.specs.declared.functions.ResolvedName.{ResolvedName}
use Rattle.module_flow_calls.specs.declared.functions.ResolvedName.TheVariants.{Inner, Top, Nothing}
use Rattle.module_flow_calls.specs.Calls.{by_state, may_return}
use Rattle.module_flow_calls.specs.Functions.{label_named}
use Rattle.module_flow_calls.specs.TypeLists.{Given, one}
use Rattle.module_flow_state.specs.declared.states.Contribution.{Contribution}
use Rattle.module_flow_state.specs.declared.states.Contribution.TheVariants.{Enters}
use Rattle.module_flow_state.specs.Scopes.{WalkScope}
use Rattle.module_flow_state.specs.States.{result_of}
use Rattle.module_flow_state.specs.World.{World}

-- ---- names

abbrev pub inner_or : Option ℕ → Option ℕ → ResolvedName
inner_or (Some l) o = Inner l
inner_or None (Some l) = Top l
inner_or None None = Nothing

-- what a name of a function stands for: a function of a `letrec` around, or else one of the module
abbrev pub resolved_name : World → WalkScope → FunName → ResolvedName
resolved_name W sc f = inner_or (label_named sc.functions sc.labels f) (label_named W.names W.labels f)

-- the application with the right number of arguments of what a name stands for
abbrev pub by_meaning : World → FunName → ResolvedName → List Type4 → Given
by_meaning W f (Inner l) ts = one (result_of W.state l)
by_meaning W f (Top l) ts = by_state (result_of W.state l) (W.callee W.home f) ts
by_meaning W f Nothing ts = None

-- the application of a name
abbrev pub applied : World → WalkScope → FunName → List Type4 → Given
applied W sc f ts = cond (eqb f.arity (length ts)) (by_meaning W f (resolved_name W sc f) ts) None

-- whether it may return, by which it is reported: one of a `letrec`'s function with the right number of arguments always may
abbrev pub may_by_meaning : World → FunName → ResolvedName → List Type4 → Given
may_by_meaning W f (Inner l) ts = Some []
may_by_meaning W f (Top l) ts = may_return (W.callee W.home f) ts
may_by_meaning W f Nothing ts = None

abbrev pub may_apply : World → WalkScope → FunName → List Type4 → Given
may_apply W sc f ts = cond (eqb f.arity (length ts)) (may_by_meaning W f (resolved_name W sc f) ts) None

-- what a name stands for is entered with arguments of these types, as many as it takes
abbrev pub enters_resolved : ResolvedName → List Type4 → List Contribution
enters_resolved (Inner l) ts = Enters l ts ∷ []
enters_resolved (Top l) ts = Enters l ts ∷ []
enters_resolved Nothing ts = []

abbrev pub enters : World → WalkScope → FunName → List Type4 → List Contribution
enters W sc f ts = cond (eqb f.arity (length ts)) (enters_resolved (resolved_name W sc f) ts) []

-- what is reported of a call that never returns
abbrev pub unless_given : Given → List Finding → List Finding
unless_given None found = found
unless_given (Some ts) found = []

-- ---- values

-- what is given only where two types have a value in common
abbrev pub where_meets : Type4 → Type4 → Given → Given
where_meets t u g = cond (is_none (meet t u)) None g

-- the application of a value that is no function of n arguments
abbrev pub unless_function : Type4 → ℕ → List Finding → List Finding
unless_function t n found = cond (is_none (meet t (function_type n))) found []
