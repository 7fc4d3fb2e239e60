-- What is known with listed functions is what is known with the functions themselves.
use Rattle.std.proofs.Common.{◌≡◌, true, cond, Some, List, [], ◌∷◌, length, map, nat_eq, eq-eqb, refl, sym, ap, ◌∙◌, subst}
use Rattle.std.proofs.lemmas.List.{map-append}
use Rattle.std.proofs.lemmas.Bool.{and_from}
use Rattle.type_kinds.specs.declared.atom.Atom.{Atom}
use Rattle.core_ast.specs.declared.syntax.FunName.{FunName}
use Rattle.core_ast.specs.Model as m
use Rattle.core_scope.specs.Asks.{one_value}
use Rattle.core_scope.specs.Breaks.{arity_of, new_variables, new_functions, breaks, def_breaks, export_breaks, module_breaks}
use Rattle.core_scope.specs.Checked.{is_accepted}
use Rattle.core_scope.specs.Names.{Scope, bound_by, defined_names, with_variables, module_scope}
use Rattle.core_scope.proofs.Unbroken.{open_three, open_four, arity_is}
use Rattle.call_graph.specs.Calls.{functions_in, module_functions, functions_of}
use Rattle.cons_tree.specs.Callees.{Takes}
use Rattle.cons_tree.specs.declared.parts.Callee.TheVariants.{Unknown}
use Rattle.cons_tree.specs.declared.parts.Summary.{Summary}
use Rattle.comp_rounds.specs.Parts.{takes, listed_callee, with_listed}
use Rattle.comp_rounds.specs.Rounds.{Callees, Function, arity, callee_of, with_callee, with_function, with_summaries}
use Rattle.comp_rounds.specs.Takes.{AllTake}
use Rattle.sound_laws.specs.Accepted.{AreAccepted}
use Rattle.analysis_summaries.specs.Functions.{summarized, all_functions}
use Rattle.sound_laws_whole.proofs.Named.{Each, each_append}
use Rattle.analysis_crew.specs.Parts.{listed}

-- ---- functions of accepted modules have as many parameters as their names say

abbrev pub HasArity : Function → Type 0
HasArity g = length g.parameters ≡ g.name.arity

defined_arities : (home : Atom) (exports : List FunName) (ds : m.Defs) (s : Scope) → def_breaks s ds ≡ [] → Each HasArity (map summarized (functions_in home exports ds))
defined_arities home exports m.no_def s e = tt
defined_arities home exports (m.and_def f i xs t ds) s e =
    let parts = open_four (arity_of f i xs) (new_variables [] xs) (breaks (with_variables s (bound_by xs)) one_value t) (def_breaks s ds) e in
    (arity_is f i xs parts.0, defined_arities home exports ds s parts.3)

pub all_arities : (xs : List m.Module) → AreAccepted xs → Each HasArity (all_functions xs)
all_arities [] h = tt
all_arities (x ∷ xs) h =
    subst (Each HasArity) (sym (map-append summarized (module_functions x) (functions_of xs)))
    (each_append HasArity (map summarized (module_functions x)) (all_functions xs)
    (defined_arities x.name x.exports x.defs (module_scope x)
    (open_three (new_functions [] x.defs) (export_breaks (defined_names x.defs) x.exports x.export_places) (def_breaks (module_scope x) x.defs) sound).2) (all_arities xs h.1))
  where
    sound : module_breaks x ≡ []
    sound = subst (λ y. module_breaks y ≡ []) h.0.1 (is_accepted h.0.0).sound

-- ---- listed functions

listed_is : (g : Function) (s : Summary) → HasArity g → Takes s (arity g) → listed_callee (listed g) (Some s) ≡ callee_of g s
listed_is g s counted fits = ap (λ b. cond b (callee_of g s) Unknown) taken
  where
    taken : takes s g.name.arity ≡ true
    taken =
        and_from (nat_eq (length s.strict.args) g.name.arity) (nat_eq (length s.lenient.args) g.name.arity)
        (eq-eqb (length s.strict.args) g.name.arity (fits.0 ∙ counted)) (eq-eqb (length s.lenient.args) g.name.arity (fits.1 ∙ counted))

pub listed_known : (gs : List Function) (ss : List Summary) (outside : Callees) → Each HasArity gs → AllTake gs ss → with_listed outside (map listed gs) ss ≡ with_summaries outside gs ss
listed_known [] [] outside counted fits = refl
listed_known [] (s ∷ ss) outside counted fits = absurd fits
listed_known (g ∷ gs) [] outside counted fits = absurd fits
listed_known (g ∷ gs) (s ∷ ss) outside counted fits =
    ap (λ k. with_listed (with_callee outside g.home g.name k) (map listed gs) ss) (listed_is g s counted.0 fits.0)
    ∙ listed_known gs ss (with_function outside g s) counted.1 fits.1
