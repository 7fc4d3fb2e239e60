-- Accepted modules with distinct names are solved together, over whatever stands outside of them: something is known of their functions,
-- what they export is known to others, and what is found in each has lines.
use Rattle.std.proofs.Common.{◌≡◌, ℕ, true, cond, List, [], ◌∷◌, Contains, Option, Some, None, refl, sym, ap, ap₂, ◌∙◌, subst, inl, inr}
use Rattle.type_kinds.proofs.Lists.{contains_none, contains_first, contains_later, contains_cases}
use Rattle.type_kinds.specs.declared.atom.Atom.{Atom}
use Rattle.core_ast.specs.Model as m
use Rattle.core_ast.specs.declared.syntax.FunName.{FunName}
use Rattle.core_scope.specs.Accepted.{IsAccepted}
use Rattle.core_scope.specs.Checked.{is_accepted}
use Rattle.core_scope.specs.Names.{Distinct, has_function}
use Rattle.core_scope.proofs.NameLaws.{has_contained}
use Rattle.cons_tree.specs.declared.parts.Summary.{Summary}
use Rattle.cons_tree.specs.declared.parts.Callee.TheVariants.{Known, Local}
use Rattle.comp_rounds.specs.Rounds.{Callees, Function, callee_of, summaries}
use Rattle.analysis_summaries.specs.Known.{module_names}
use Rattle.sound_laws.specs.Accepted.{AreAccepted}
use Rattle.sound_laws_whole.proofs.Named.{from_member}
use Rattle.sound_laws_whole.proofs.Wholes.{exports_defined}
use Rattle.sound_laws_outside.specs.Laws.{SomeLaw}
use Rattle.sound_laws_outside.specs.Over.{IsKnownOver}
use Rattle.sound_laws_outside.proofs.Members.{member_named, functions_at, all_there, known_some}
use Rattle.module_flow.specs.Flow.{findings}
use Rattle.warn_list.specs.declared.finding.Finding.{Finding}
use Rattle.warn_list.specs.Lines.{AreLines}
use Rattle.table_keep.specs.Model.{Source, Result, trees, source_of}
use Rattle.table_keep.specs.Kept.{Standing, Results}
use Rattle.table_keep.specs.Made.{exported, AreSummarized, IsKnown}
use Rattle.table_keep.proofs.CallLaws.{exported_exactly}
use Rattle.sound_laws_kept.specs.Solving.{AreSources, IsResult, IsSolved}
use Rattle.sound_laws_kept.proofs.Names.{some_is, none_some}
use Rattle.sound_laws_kept.proofs.Trees.{own_source, source_stands, tree_stands}
use Rattle.sound_laws_kept.proofs.Shown.{exported_so}

-- ---- what is exported is known

pub accepted_of : (xs : List m.Module) → AreAccepted xs → (x : m.Module) → Contains xs x → IsAccepted x
accepted_of [] are x has = absurd (contains_none x has)
accepted_of (y ∷ xs) are x has = elim (contains_cases y x xs has) [
  | inl same ↦ subst IsAccepted (are.0.1 ∙ same) (is_accepted are.0.0)
  | inr more ↦ accepted_of xs are.1 x more
]

known_by : (known : Callees) (g : Function) (s : Summary) → g.exported ≡ true → known g.home g.name ≡ callee_of g s → known g.home g.name ≡ Known s
known_by known g s e is = is ∙ ap (λ b. cond b (Known s) (Local s)) e

module _ (xs : List m.Module) (accepted : AreAccepted xs) (apart : Distinct (module_names xs)) (outside known : Callees) (is : IsKnownOver outside xs known) where
  export_known : (x : m.Module) → Contains xs x → (f : FunName) → Contains (exported x) f → IsKnown (known x.name f)
  export_known x there f has =
      let export : has_function x.exports f ≡ true = has_contained x.exports f ((exported_exactly x f).0 has) in
      let in_module = member_named (functions_at x) x.name f (from_member x.name x.exports x.defs f (exports_defined x (accepted_of xs accepted x there).sound f export)) in
      let g = in_module.function in
      let n = is.number g.home g.name in
      let solved = known_some known (is.component n) (summaries known (is.component n)) (is.known_so n) g (is.all g (all_there xs x g there in_module.there)) in
      let open_ : g.exported ≡ true = exported_so x g in_module.there ∙ ap (has_function x.exports) in_module.name_is ∙ export in
      (solved.0, sym (ap₂ known in_module.home_is in_module.name_is) ∙ known_by known g solved.0 open_ solved.1)

summarized_all : (known : Callees) (h : Atom) (fs : List FunName) → ((f : FunName) → Contains fs f → IsKnown (known h f)) → (es : List (FunName × Summary)) × AreSummarized known h fs es
summarized_all known h [] k = ([], tt)
summarized_all known h (f ∷ fs) k =
    let here = k f (contains_first f fs) in
    let rest = summarized_all known h fs (λ g has. k g (contains_later f g fs has)) in
    ((f, here.0) ∷ rest.0, (refl, here.1, rest.1))

-- ---- the results

pub nothing_known : Result
nothing_known = record { exports = []; lines = [] }

module _ (text : (home : Atom) (found : List Finding) → (bytes : List ℕ) × AreLines home found bytes) (some : SomeLaw) where
  module _ (xs : List Source) (are : AreSources xs) (K : Standing) where
    known : Callees
    known = (some (trees xs) K are.accepted are.distinct).0

    known_so : IsKnownOver K (trees xs) known
    unfolding known
    known_so = (some (trees xs) K are.accepted are.distinct).1

    exports_of : (s : Source) → Contains xs s → (es : List (FunName × Summary)) × AreSummarized known s.tree.name (exported s.tree) es
    exports_of s there =
        summarized_all known s.tree.name (exported s.tree) (export_known (trees xs) are.accepted are.distinct K known known_so s.tree (tree_stands xs s there))

    result_of : (s : Source) → Contains xs s → (r : Result) × IsResult known s.tree r
    result_of s there =
        let es = exports_of s there in
        let bytes = text s.tree.name (findings known s.tree) in
        (record { exports = es.0; lines = bytes.0 }, record { exports = es.1; lines = bytes.1 })

    result_at : (h : Atom) (o : Option Source) → source_of xs h ≡ o → Result
    result_at h None e = nothing_known
    result_at h (Some s) e = (result_of s (source_stands xs h s e).0).0

    right_at : (h : Atom) (o : Option Source) (e : source_of xs h ≡ o) (s : Source) → o ≡ Some s → IsResult known s.tree (result_at h o e)
    unfolding result_at result_of
    right_at h None e s q = none_some q
    right_at h (Some t) e s q = subst (λ (z : Source). IsResult known z.tree (result_at h (Some t) e)) (some_is q) (result_of t (source_stands xs h t e).0).1

    pub solved : (R : Results) × IsSolved xs K R
    solved = (
      λ h. result_at h (source_of xs h) refl,
      record {
        known = known;
        known_so = known_so;
        results = λ s there. right_at s.tree.name (source_of xs s.tree.name) refl s (own_source xs are.distinct s there);
      },
    )
