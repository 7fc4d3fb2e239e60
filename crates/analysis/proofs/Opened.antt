-- Of a function that a solved module exports a summary is known that other modules may see.
use Rattle.std.proofs.Common.{◌≡◌, true, cond, List, Contains, inl, inr, refl, sym, ap, ap₂, ◌∙◌, map}
use Rattle.type_kinds.proofs.Lists.{contains_none, contains_first, contains_later, contains_cases}
use Rattle.core_ast.specs.declared.syntax.FunName.{FunName}
use Rattle.core_ast.specs.Model as m
use Rattle.core_scope.specs.Names.{defined_names, has_function}
use Rattle.call_graph.specs.Calls.{functions_in}
use Rattle.cons_tree.specs.declared.parts.Callee.TheVariants.{Known, Local}
use Rattle.comp_rounds.specs.Rounds.{Callees, Function, summaries}
use Rattle.analysis_summaries.specs.Functions.{summarized}
use Rattle.sound_laws_outside.specs.Over.{IsKnownOver}
use Rattle.sound_laws_outside.proofs.Members.{functions_at, all_there, known_some}
use Rattle.table_keep.specs.Made.{IsKnown}
use Rattle.sound_laws_kept.proofs.Shown.{exported_so}

-- each module defines what it exports
abbrev pub DefinesExports : List m.Module → Type 0
DefinesExports xs = (x : m.Module) → Contains xs x → (f : FunName) → has_function x.exports f ≡ true → Contains (defined_names x.defs) f

-- the function of a name
record Defined (x : m.Module) (f : FunName) : Type 0 where
  pub function : Function
  pub in_it : Contains (functions_at x) function
  pub home_is : function.home ≡ x.name
  pub name_is : function.name ≡ f

defined : (x : m.Module) (f : FunName) → Contains (defined_names x.defs) f → Defined x f
defined x f has = let r = by x.defs has in record { function = r.0; in_it = r.1; home_is = r.2; name_is = r.3 }
  where
    by : (ds : m.Defs) → Contains (defined_names ds) f
        → (g : Function) × Contains (map summarized (functions_in x.name x.exports ds)) g × (g.home ≡ x.name) × (g.name ≡ f)
    by m.no_def has = absurd (contains_none f has)
    by (m.and_def g i vs t ds) has =
        let here : Function = summarized (record { home = x.name; exports = x.exports; name = g; mark = i; params = vs; body = t }) in
        elim (contains_cases g f (defined_names ds) has) [
          | inl same ↦ (here, contains_first here (map summarized (functions_in x.name x.exports ds)), refl, same)
          | inr more ↦ (let r = by ds more in (r.0, contains_later here r.0 (map summarized (functions_in x.name x.exports ds)) r.1, r.2, r.3))
        ]

pub opened : (xs : List m.Module) → DefinesExports xs → (outside known : Callees) → IsKnownOver outside xs known → (x : m.Module) → Contains xs x
    → (f : FunName) → has_function x.exports f ≡ true → IsKnown (known x.name f)
opened xs defines outside known is x there f open_one =
    let d = defined x f (defines x there f open_one) in
    let g = d.function in
    let n = is.number g.home g.name in
    let solved = known_some known (is.component n) (summaries known (is.component n)) (is.known_so n) g (is.all g (all_there xs x g there d.in_it)) in
    let exported : g.exported ≡ true = exported_so x g d.in_it ∙ ap (has_function x.exports) d.name_is ∙ open_one in
    (solved.0, sym (ap₂ known d.home_is d.name_is) ∙ solved.1 ∙ ap (λ b. cond b (Known solved.0) (Local solved.0)) exported)
