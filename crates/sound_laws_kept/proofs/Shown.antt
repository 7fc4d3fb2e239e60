-- What a result says of a function of a module to the others, and what is known of it: to a call from outside they are alike.
use Rattle.std.proofs.Common.{◌≡◌, Bool, true, false, cond, ◌||◌, List, [], ◌∷◌, map, Contains, inl, inr, refl, sym, ap, ap₂, ◌∙◌, subst}
use Rattle.std.proofs.lemmas.List.Elements.{Contains-append_left, Contains-append_right}
use Rattle.type_kinds.proofs.Lists.{contains_none, contains_cases}
use Rattle.type_kinds.specs.declared.atom.Atom.{Atom}
use Rattle.core_ast.specs.declared.syntax.FunName.{FunName}
use Rattle.core_ast.specs.Model as m
use Rattle.core_scope.specs.Names.{Distinct, same_function, has_function}
use Rattle.core_scope.proofs.NameLaws.{function_is}
use Rattle.call_graph.specs.Calls.{functions_in}
use Rattle.call_graph.specs.Targets.{CallTarget, targets, def_targets}
use Rattle.cons_tree.specs.Callees.{same_name, as_called}
use Rattle.cons_tree.specs.declared.parts.Callee.{Callee}
use Rattle.cons_tree.specs.declared.parts.Callee.TheVariants.{Known, Local, Undefined, Unknown}
use Rattle.cons_tree.specs.declared.parts.Summary.{Summary}
use Rattle.comp_rounds.specs.Rounds.{Callees, Function, is_member, summaries}
use Rattle.analysis_summaries.specs.Functions.{summarized}
use Rattle.analysis_summaries.specs.Functions.{all_functions}
use Rattle.analysis_summaries.specs.Known.{module_names}
use Rattle.cons_gen_frame.specs.Agreement.{GivesNothing, AreAlike}
use Rattle.sound_laws_whole.proofs.Wholes.{local_gives_nothing}
use Rattle.sound_laws_outside.specs.Over.{IsKnownOver}
use Rattle.sound_laws_outside.proofs.Members.{member_named, functions_at, of_all, one_module, home_of, known_some}
use Rattle.table_keep.specs.Kept.{callee_among}
use Rattle.table_keep.specs.Made.{exported, AreSummarized, IsKnown}
use Rattle.sound_laws_kept.proofs.Calls.{exports_same}

-- ---- the functions of a module

-- a function is exported as its module says
pub exported_so : (x : m.Module) (g : Function) → Contains (functions_at x) g → g.exported ≡ has_function x.exports g.name
exported_so x g has = by x.defs has
  where
    by : (ds : m.Defs) → Contains (map summarized (functions_in x.name x.exports ds)) g → g.exported ≡ has_function x.exports g.name
    by m.no_def has = absurd (contains_none g has)
    by (m.and_def f i vs t ds) has = elim (contains_cases _ g (map summarized (functions_in x.name x.exports ds)) has) [
      | inl same ↦ subst (λ (k : Function). k.exported ≡ has_function x.exports k.name) same refl
      | inr more ↦ by ds more
    ]

-- the targets of a function's body are among those of the module
pub target_of_body : (x : m.Module) (g : Function) → Contains (functions_at x) g → (t : CallTarget) → Contains (targets [] g.body) t → Contains (def_targets [] x.defs) t
target_of_body x g has u stands = by x.defs has
  where
    by : (ds : m.Defs) → Contains (map summarized (functions_in x.name x.exports ds)) g → Contains (def_targets [] ds) u
    by m.no_def has = absurd (contains_none g has)
    by (m.and_def f i vs t ds) has = elim (contains_cases _ g (map summarized (functions_in x.name x.exports ds)) has) [
      | inl same ↦ Contains-append_left (targets [] t) (def_targets [] ds) u (subst (λ (k : Function). Contains (targets [] k.body) u) (sym same) stands)
      | inr more ↦ Contains-append_right (targets [] t) (def_targets [] ds) u (by ds more)
    ]

-- a function that its module doesn't export gives a call by its names nothing
pub hidden_gives_nothing : (xs : List m.Module) → Distinct (module_names xs) → (outside known : Callees) → IsKnownOver outside xs known
    → (x : m.Module) → Contains xs x → (f : FunName) → has_function x.exports f ≡ false → GivesNothing (known x.name f)
hidden_gives_nothing xs apart outside known is x there f closed = by (is_member (all_functions xs) x.name f) refl
  where
    by : (b : Bool) → is_member (all_functions xs) x.name f ≡ b → GivesNothing (known x.name f)
    by false e = subst GivesNothing (sym (is.none x.name f (home_of xs x there) e)) tt
    by true e =
        let j = member_named (all_functions xs) x.name f e in
        let r = of_all xs j.function j.there in
        let same : r.source ≡ x = one_module xs apart r.source x r.there there (sym r.home_is ∙ j.home_is) in
        let in_it = subst (λ z. Contains (functions_at z) j.function) same r.in_it in
        let hidden : j.function.exported ≡ false = exported_so x j.function in_it ∙ ap (has_function x.exports) j.name_is ∙ closed in
        let n = is.number j.function.home j.function.name in
        let solved = known_some known (is.component n) (summaries known (is.component n)) (is.known_so n) j.function (is.all j.function j.there) in
        subst GivesNothing (sym (sym (ap₂ known j.home_is j.name_is) ∙ solved.1)) (local_gives_nothing j.function solved.0 hidden)

-- ---- what is known of the functions that are exported

pub among_these : (known : Callees) (h : Atom) (fs : List FunName) (es : List (FunName × Summary)) → AreSummarized known h fs es
    → (f : FunName) → callee_among es f ≡ cond (has_function fs f) (known h f) Undefined
among_these known h [] [] are f = refl
among_these known h [] (e ∷ es) are f = absurd are
among_these known h (g ∷ fs) [] are f = absurd are
among_these known h (g ∷ fs) (e ∷ es) are f = by (same_function f g) refl (among_these known h fs es are.2 f)
  where
    by : (b : Bool) → same_function f g ≡ b → callee_among es f ≡ cond (has_function fs f) (known h f) Undefined
        → callee_among (e ∷ es) f ≡ cond (b || has_function fs f) (known h f) Undefined
    by true is rest =
        ap (λ k. cond (same_name f k) (Known e.1) (callee_among es f)) are.0 ∙ ap (λ b. cond b (Known e.1) (callee_among es f)) is
        ∙ sym (ap (known h) (function_is f g is) ∙ are.1)
    by false is rest = ap (λ k. cond (same_name f k) (Known e.1) (callee_among es f)) are.0 ∙ ap (λ b. cond b (Known e.1) (callee_among es f)) is ∙ rest

pub these_are_known : (known : Callees) (h : Atom) (fs : List FunName) (es : List (FunName × Summary)) → AreSummarized known h fs es → (f : FunName) → has_function fs f ≡ true → IsKnown (known h f)
these_are_known known h [] es are f e = absurd cc
these_are_known known h (g ∷ fs) [] are f e = absurd are
these_are_known known h (g ∷ fs) (x ∷ es) are f e = by (same_function f g) refl e (these_are_known known h fs es are.2 f)
  where
    by : (b : Bool) → same_function f g ≡ b → (b || has_function fs f) ≡ true → (has_function fs f ≡ true → IsKnown (known h f)) → IsKnown (known h f)
    by true is e rest = (x.1, ap (known h) (function_is f g is) ∙ are.1)
    by false is e rest = rest e

-- one list says it
pub one_summarized : (known : Callees) (h : Atom) (fs : List FunName) (es ds : List (FunName × Summary)) → AreSummarized known h fs es → AreSummarized known h fs ds → es ≡ ds
one_summarized known h [] [] [] a b = refl
one_summarized known h [] [] (d ∷ ds) a b = absurd b
one_summarized known h [] (e ∷ es) ds a b = absurd a
one_summarized known h (f ∷ fs) [] ds a b = absurd a
one_summarized known h (f ∷ fs) (e ∷ es) [] a b = absurd b
one_summarized known h (f ∷ fs) (e ∷ es) (d ∷ ds) a b =
    let one : Known e.1 ≡ Known d.1 = sym a.1 ∙ b.1 in
    let summary : e.1 ≡ d.1 = cc in
    ap₂ (λ x y. x ∷ y) (ap₂ {A = FunName} {B = Summary} (λ x y. (x, y)) (a.0 ∙ sym b.0) summary) (one_summarized known h fs es ds a.2 b.2)

-- it says the same by what is known the same
pub still_summarized : (known other : Callees) (h : Atom) (fs : List FunName) (es : List (FunName × Summary)) → ((f : FunName) → known h f ≡ other h f) → AreSummarized known h fs es → AreSummarized other h fs es
still_summarized known other h [] [] same are = tt
still_summarized known other h [] (e ∷ es) same are = absurd are
still_summarized known other h (f ∷ fs) [] same are = absurd are
still_summarized known other h (f ∷ fs) (e ∷ es) same are = (are.0, sym (same f) ∙ are.1, still_summarized known other h fs es same are.2)

-- ---- a module's exports

called_of_nothing : (c : Callee) → GivesNothing c → as_called c ≡ Undefined
called_of_nothing (Known s) h = absurd h
called_of_nothing (Local s) h = refl
called_of_nothing Undefined h = refl
called_of_nothing Unknown h = absurd h

module _ (xs : List m.Module) (apart : Distinct (module_names xs)) (outside known : Callees) (is : IsKnownOver outside xs known) (x : m.Module) (there : Contains xs x)
    (es : List (FunName × Summary)) (are : AreSummarized known x.name (exported x) es) where
  among_when : (f : FunName) (b : Bool) → has_function (exported x) f ≡ b → callee_among es f ≡ cond b (known x.name f) Undefined
  among_when f b e = among_these known x.name (exported x) es are f ∙ ap (λ c. cond c (known x.name f) Undefined) e

  pub shown_alike : (f : FunName) → AreAlike (callee_among es f) (known x.name f)
  shown_alike f = by (has_function (exported x) f) refl
    where
      by : (b : Bool) → has_function (exported x) f ≡ b → AreAlike (callee_among es f) (known x.name f)
      by true e = inl (among_when f true e)
      by false e = inr (subst GivesNothing (sym (among_when f false e)) tt, hidden_gives_nothing xs apart outside known is x there f (sym (exports_same x f) ∙ e))

  pub shown_as_called : (f : FunName) → as_called (known x.name f) ≡ callee_among es f
  shown_as_called f = by (has_function (exported x) f) refl
    where
      by : (b : Bool) → has_function (exported x) f ≡ b → as_called (known x.name f) ≡ callee_among es f
      by true e =
          let k = these_are_known known x.name (exported x) es are f e in
          ap as_called k.1 ∙ sym k.1 ∙ sym (among_when f true e)
      by false e =
          called_of_nothing (known x.name f) (hidden_gives_nothing xs apart outside known is x there f (sym (exports_same x f) ∙ e))
          ∙ sym (among_when f false e)

  pub open_is_known : (f : FunName) → has_function x.exports f ≡ true → IsKnown (known x.name f)
  open_is_known f e = these_are_known known x.name (exported x) es are f (exports_same x f ∙ e)
