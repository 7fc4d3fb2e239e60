-- What is exported of a module that was solved keeps the rules of a table: each function has at most 255 arguments, and its summary as
-- many as its name.
use Rattle.std.proofs.Common.{◌≡◌, ◌<◌, Bool, true, false, cond, ◌&&◌, List, [], ◌∷◌, Contains, map, length, inl, inr, refl, sym, ap, ap₂, ◌∙◌, subst}
use Rattle.std.specs.List.{list_all}
use Rattle.type_kinds.proofs.Lists.{contains_none, contains_first, contains_later, contains_cases}
use Rattle.type_kinds.specs.declared.atom.Atom.{Atom}
use Rattle.core_ast.specs.declared.syntax.FunName.{FunName}
use Rattle.core_ast.specs.Model as m
use Rattle.core_scope.specs.Asks.{one_value}
use Rattle.core_scope.specs.Breaks.{arity_of, new_variables, new_functions, breaks, def_breaks, export_breaks, module_breaks}
use Rattle.core_scope.specs.Names.{Scope, bound_by, defined_names, has_function, with_variables, module_scope}
use Rattle.core_scope.proofs.NameLaws.{has_contained}
use Rattle.core_scope.proofs.Unbroken.{open_three, open_four, arity_is}
use Rattle.call_graph.specs.Calls.{functions_in}
use Rattle.cons_tree.specs.Callees.{Fits}
use Rattle.cons_tree.specs.declared.parts.Summary.{Summary}
use Rattle.cons_tree.specs.declared.parts.Callee.TheVariants.{Known, Local}
use Rattle.comp_rounds.specs.Rounds.{Callees, Function, arity, summaries}
use Rattle.comp_rounds.specs.Takes.{AllTake}
use Rattle.sound_laws.specs.Accepted.{AreAccepted}
use Rattle.sound_laws_rounds.specs.Whole.{AreKnown}
use Rattle.analysis_summaries.specs.Functions.{summarized}
use Rattle.sound_laws_whole.proofs.Named.{Each, from_member}
use Rattle.sound_laws_whole.proofs.Wholes.{exports_defined}
use Rattle.sound_laws_outside.specs.Over.{IsKnownOver}
use Rattle.sound_laws_outside.proofs.Members.{member_named, functions_at, all_there, each_has}
use Rattle.table_file.specs.Rules.{is_export}
use Rattle.table_keep.specs.Model.{Source, trees}
use Rattle.table_keep.specs.Kept.{Standing, Results}
use Rattle.table_keep.specs.Made.{exported, AreSummarized}
use Rattle.table_keep.proofs.CallLaws.{exported_exactly}
use Rattle.table_keep.proofs.MadeLaws.{fits_export}
use Rattle.table_keep.proofs.SpelledLaws.{small_exports}
use Rattle.sound_laws_kept.specs.Solving.{AreSources, IsSolved}
use Rattle.sound_laws_kept.proofs.Trees.{tree_stands}
use Rattle.sound_laws_written.proofs.Solved.{accepted_of}

-- these may be exported
abbrev pub AreFit : List (FunName × Summary) → Type 0
AreFit xs = list_all is_export xs ≡ true

-- ---- a function has as many parameters as its name says

abbrev HasArity : Function → Type 0
HasArity g = length g.parameters ≡ g.name.arity

defined_arities : (home : Atom) (exports : List FunName) (ds : m.Defs) (s : Scope) → def_breaks s ds ≡ [] → Each HasArity (map summarized (functions_in home exports ds))
defined_arities home exports m.no_def s e = tt
defined_arities home exports (m.and_def f i xs t ds) s e =
    let parts = open_four (arity_of f i xs) (new_variables [] xs) (breaks (with_variables s (bound_by xs)) one_value t) (def_breaks s ds) e in
    (arity_is f i xs parts.0, defined_arities home exports ds s parts.3)

arities : (x : m.Module) → module_breaks x ≡ [] → Each HasArity (functions_at x)
arities x sound =
    defined_arities x.name x.exports x.defs (module_scope x)
    (open_three (new_functions [] x.defs) (export_breaks (defined_names x.defs) x.exports x.export_places) (def_breaks (module_scope x) x.defs) sound).2

-- ---- what is known of a function has as many arguments

known_takes : (K : Callees) (gs : List Function) (ss : List Summary) → AreKnown K gs ss → AllTake gs ss → (g : Function) → Contains gs g → Fits (K g.home g.name) (arity g)
known_takes K [] ss known take g has = absurd (contains_none g has)
known_takes K (k ∷ gs) [] known take g has = absurd known
known_takes K (k ∷ gs) (s ∷ ss) known take g has = elim (contains_cases k g gs has) [
  | inl same ↦ subst (λ (x : Function). Fits (K x.home x.name) (arity x)) same (subst (λ c. Fits c (arity k)) (sym known.0) (by k.exported))
  | inr more ↦ known_takes K gs ss known.1 take.1 g more
]
  where
    by : (b : Bool) → Fits (cond b (Known s) (Local s)) (arity k)
    by true = take.0
    by false = take.0

module _ (take : (outside : Callees) (gs : List Function) → AllTake gs (summaries outside gs)) where
  export_fits : (xs : List m.Module) → AreAccepted xs → (outside known : Callees) → IsKnownOver outside xs known → (x : m.Module) → Contains xs x → (f : FunName) → Contains (exported x) f
      → (f.arity < 256) × Fits (known x.name f) f.arity
  export_fits xs accepted outside known is x there f has =
      let whole = accepted_of xs accepted x there in
      let among = (exported_exactly x f).0 has in
      let export : has_function x.exports f ≡ true = has_contained x.exports f among in
      let in_module = member_named (functions_at x) x.name f (from_member x.name x.exports x.defs f (exports_defined x whole.sound f export)) in
      let g = in_module.function in
      let n = is.number g.home g.name in
      let fits = known_takes known (is.component n) (summaries known (is.component n)) (is.known_so n) (take known (is.component n)) g (is.all g (all_there xs x g there in_module.there)) in
      let counted : arity g ≡ f.arity = each_has HasArity (functions_at x) g (arities x whole.sound) in_module.there ∙ ap (λ (k : FunName). k.arity) in_module.name_is in (
        small_exports x f whole.spelled among,
        subst (λ k. Fits k f.arity) (ap₂ known in_module.home_is in_module.name_is) (subst (Fits (known g.home g.name)) counted fits),
      )

  summarized_fit : (known : Callees) (h : Atom) (fs : List FunName) (xs : List (FunName × Summary)) → AreSummarized known h fs xs
      → ((f : FunName) → Contains fs f → (f.arity < 256) × Fits (known h f) f.arity) → AreFit xs
  summarized_fit known h [] [] are fits = refl
  summarized_fit known h [] (x ∷ xs) are fits = absurd are
  summarized_fit known h (f ∷ fs) [] are fits = absurd are
  summarized_fit known h (f ∷ fs) (x ∷ xs) are fits =
      let here = fits f (contains_first f fs) in
      let is : is_export (x.0, x.1) ≡ true = ap (λ (g : FunName). is_export (g, x.1)) are.0 ∙ fits_export f x.1 (known h f) here.0 are.1 here.1 in
      let rest = summarized_fit known h fs xs are.2 (λ g has. fits g (contains_later f g fs has)) in
      (λ i. is i && rest i)

  -- what sources that were solved export is fit
  pub solved_fit : (xs : List Source) → AreSources xs → (K : Standing) (R : Results) → IsSolved xs K R → (s : Source) → Contains xs s → AreFit (R s.tree.name).exports
  solved_fit xs are K R is s there =
      summarized_fit is.known s.tree.name (exported s.tree) (R s.tree.name).exports (is.results s there).exports
      (export_fits (trees xs) are.accepted K is.known is.known_so s.tree (tree_stands xs s there))
