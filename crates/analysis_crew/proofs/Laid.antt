-- What is known with the outputs of some components: each function of theirs as when it was solved, all others as outside.
use Rattle.std.proofs.Common.{◌≡◌, ℕ, suc, ◌<◌, true, false, List, [], ◌∷◌, length, map, ◌⊎◌, inl, inr, Some, Contains, refl, sym, ap, ap₂, ◌∙◌, subst, true≢false}
use Rattle.std.specs.Prelude.{slice_get}
use Rattle.std.proofs.lemmas.Bool.{cases_eq}
use Rattle.std.proofs.lemmas.Option.{slice_get_within}
use Rattle.type_kinds.proofs.Lists.{contains_none, contains_first, contains_later, contains_cases}
use Rattle.type_kinds.specs.declared.atom.Atom.{Atom}
use Rattle.core_ast.specs.declared.syntax.FunName.{FunName}
use Rattle.core_ast.specs.Model as m
use Rattle.core_scope.specs.Names.{Distinct}
use Rattle.cons_tree.specs.declared.parts.Summary.{Summary}
use Rattle.components.specs.Numbering.{Numbering, component_of_node, members_of}
use Rattle.components.specs.Ready.{IsReadyNumbering}
use Rattle.comp_rounds.specs.declared.parts.CompOut.{CompOut}
use Rattle.comp_rounds.specs.Parts.{with_inputs}
use Rattle.comp_rounds.specs.Rounds.{Callees, Function, is_member, with_summaries, summaries}
use Rattle.comp_rounds.specs.Takes.{AllTake}
use Rattle.sound_laws.specs.Accepted.{AreAccepted}
use Rattle.analysis_summaries.specs.Functions.{all_functions, picked}
use Rattle.analysis_summaries.specs.Known.{module_names, closed_over, after_components}
use Rattle.analysis_summaries.specs.Whole.{IsCallGraph}
use Rattle.sound_laws_whole.proofs.Components.{laid_member, summaries_long}
use Rattle.sound_laws_whole.proofs.Named.{Each, each_at, not_member, member_at}
use Rattle.sound_laws_whole.proofs.Tables.{each_picked, kept, other_component, picked_member, picked_only}
use Rattle.sound_laws_whole.proofs.Wholes as whole
use Rattle.analysis_crew.specs.Parts.{functions_in, listed, summaries_of}
use Rattle.analysis_crew.proofs.Listed.{HasArity, all_arities, listed_known}

-- a name of none of the functions is none of those picked
picked_none : (fs : List Function) (is : List ℕ) (h : Atom) (f : FunName) → is_member fs h f ≡ false → is_member (picked fs is) h f ≡ false
picked_none fs is h f none = not_member (picked fs is) h f there
  where
    there : is_member (picked fs is) h f ≡ true → ⊥
    there e = let r = picked_only fs is h f e in true≢false (sym (ap₂ (is_member fs) r.home_is r.name_is ∙ member_at fs r.position r.function r.there) ∙ none)

module _ (take : (outside : Callees) (gs : List Function) → AllTake gs (summaries outside gs))
    (xs : List m.Module) (accepted : AreAccepted xs) (apart : Distinct (module_names xs)) (graph : List (List ℕ)) (is : IsCallGraph xs graph) (c : Numbering) (r : IsReadyNumbering graph c) (around : Callees) where
  abbrev fs : List Function
  fs = all_functions xs

  abbrev K : ℕ → Callees
  K n = after_components (closed_over around (module_names xs)) fs c n

  abbrev gs : ℕ → List Function
  gs n = functions_in xs c n

  abbrev S : ℕ → List Summary
  S n = summaries_of around xs c n

  -- the outputs of components, one after the other
  abbrev pub outputs : List ℕ → List CompOut
  outputs ds = map (λ d. record { summaries = S d }) ds

  -- what is known with the summaries of the functions of these components
  abbrev pub laid : Callees → List ℕ → Callees
  laid outside [] = outside
  laid outside (d ∷ ds) = laid (with_summaries outside (gs d) (S d)) ds

  arities_in : (n : ℕ) → Each HasArity (gs n)
  arities_in n = each_picked HasArity fs (members_of c n) (λ i g has there. each_at HasArity fs i g (all_arities xs accepted) there)

  pub inputs_laid : (ds : List ℕ) (outside : Callees) → with_inputs outside (map (λ d. map listed (gs d)) ds) (outputs ds) ≡ laid outside ds
  inputs_laid [] outside = refl
  inputs_laid (d ∷ ds) outside =
      ap (λ k. with_inputs k (map (λ d. map listed (gs d)) ds) (outputs ds)) (listed_known (gs d) (S d) outside (arities_in d) (take (K d) (gs d)))
      ∙ inputs_laid ds (with_summaries outside (gs d) (S d))

  -- a name of no function is known as outside
  pub laid_none : (ds : List ℕ) (outside : Callees) (h : Atom) (f : FunName) → is_member fs h f ≡ false → laid outside ds h f ≡ outside h f
  laid_none [] outside h f none = refl
  laid_none (d ∷ ds) outside h f none =
      laid_none ds (with_summaries outside (gs d) (S d)) h f none
      ∙ kept (gs d) (S d) outside h f (picked_none fs (members_of c d) h f none)

  module _ (j : ℕ) (k : Function) (there : slice_get fs j ≡ Some k) where
    low : j < length fs
    low = slice_get_within fs j k there

    -- one of other components too
    pub laid_other : (ds : List ℕ) (outside : Callees) → (Contains ds (component_of_node c j) → ⊥) → laid outside ds k.home k.name ≡ outside k.home k.name
    laid_other [] outside lacks = refl
    laid_other (d ∷ ds) outside lacks =
        laid_other ds (with_summaries outside (gs d) (S d)) (λ more. lacks (contains_later d (component_of_node c j) ds more))
        ∙ kept (gs d) (S d) outside k.home k.name
        (other_component (closed_over around (module_names xs)) fs (whole.once xs accepted apart graph is c r) c (whole.members xs accepted apart graph is c r)
        (whole.within xs accepted apart graph is c r) j k there low d
        (λ same. lacks (subst (λ x. Contains (x ∷ ds) (component_of_node c j)) same (contains_first (component_of_node c j) ds))))

    -- one of these components as when it was solved
    laid_own : (d : ℕ) (outside : Callees) → component_of_node c j ≡ d → with_summaries outside (gs d) (S d) k.home k.name ≡ K (suc (component_of_node c j)) k.home k.name
    laid_own d outside same =
        let e = component_of_node c j in
        subst (λ x. with_summaries outside (gs x) (S x) k.home k.name ≡ K (suc e) k.home k.name) same
        (laid_member (gs e) (S e) outside (K e) k.home k.name (summaries_long (gs e) (K e) (K e))
        (picked_member fs (members_of c e) j k (whole.own_member xs accepted apart graph is c r j low) there))

    laid_still : (ds : List ℕ) (outside : Callees) → outside k.home k.name ≡ K (suc (component_of_node c j)) k.home k.name
        → laid outside ds k.home k.name ≡ K (suc (component_of_node c j)) k.home k.name
    laid_still [] outside e = e
    laid_still (d ∷ ds) outside e = laid_still ds (with_summaries outside (gs d) (S d)) (by (cases_eq (component_of_node c j) d))
      where
        by : (component_of_node c j ≡ d) ⊎ (component_of_node c j ≡ d → ⊥) → with_summaries outside (gs d) (S d) k.home k.name ≡ K (suc (component_of_node c j)) k.home k.name
        by (inl same) = laid_own d outside same
        by (inr differs) =
            kept (gs d) (S d) outside k.home k.name
            (other_component (closed_over around (module_names xs)) fs (whole.once xs accepted apart graph is c r) c (whole.members xs accepted apart graph is c r)
            (whole.within xs accepted apart graph is c r) j k there low d differs)
            ∙ e

    pub laid_here : (ds : List ℕ) (outside : Callees) → Contains ds (component_of_node c j) → laid outside ds k.home k.name ≡ K (suc (component_of_node c j)) k.home k.name
    laid_here [] outside has = absurd (contains_none (component_of_node c j) has)
    laid_here (d ∷ ds) outside has =
        elim (contains_cases d (component_of_node c j) ds has) [
          | inl same ↦ laid_still ds (with_summaries outside (gs d) (S d)) (laid_own d outside (sym same))
          | inr more ↦ laid_here ds (with_summaries outside (gs d) (S d)) more
        ]
