-- The table of sources and their certificate keep the rules.
use Rattle.std.proofs.Common.{◌≡◌, ◌⊎◌, inl, inr, ℕ, Bool, true, false, cond, ◌||◌, List, [], ◌∷◌, map, Contains, Option, Some, None, refl, sym, ap, ap₂, ◌∙◌, subst}
use Rattle.std.proofs.lemmas.Option.{same_Some}
use Rattle.type_kinds.proofs.Lists.{contains_none, contains_cases}
use Rattle.type_kinds.specs.declared.atom.Atom.{Atom}
use Rattle.core_ast.specs.declared.syntax.FunName.{FunName}
use Rattle.core_scope.specs.Names.{same_atom, same_function, has_function}
use Rattle.core_scope.proofs.NameLaws.{function_is, has_contained}
use Rattle.cons_tree.specs.Callees.{same_name}
use Rattle.cons_tree.specs.declared.parts.Callee.TheVariants.{Known, Undefined}
use Rattle.cons_tree.specs.declared.parts.Summary.{Summary}
use Rattle.comp_rounds.specs.Rounds.{Callees, Function, is_member, standing, summaries}
use Rattle.comp_rounds.proofs.SameCallees.{pointwise}
use Rattle.core_meaning.specs.Programs.{module_named, exports_in}
use Rattle.sound_laws.specs.Knowledge.{summary_of}
use Rattle.sound_laws.specs.Summaries.{definition_in}
use Rattle.analysis_summaries.specs.Functions.{all_functions}
use Rattle.analysis_summaries.specs.Known.{all_unknown}
use Rattle.sound_laws_whole.proofs.Named.{InModules, all_in_modules}
use Rattle.sound_laws_whole.proofs.Wholes.{accepted_once}
use Rattle.sound_laws_outside.specs.Over.{is_home, IsKnownOver}
use Rattle.sound_laws_outside.proofs.Members.{member_named, each_has, known_some}
use Rattle.table_keep.specs.Made.{exported, AreSummarized}
use Rattle.table_keep.specs.Model.{Source, Entry, trees, source_of, is_there, entry_of}
use Rattle.table_keep.specs.Groups.{group_of}
use Rattle.table_keep.specs.Kept.{finally}
use Rattle.sound_laws_kept.specs.Solving.{IsResult, IsWritten, AreSources}
use Rattle.sound_laws_kept.specs.Written.{made_of}
use Rattle.sound_laws_kept.proofs.Entries.{FromSource, written, entry_by, entry_source}
use Rattle.sound_laws_kept.proofs.Names.{none_some}
use Rattle.sound_laws_kept.proofs.Trees.{source_stands, home_of_sources}
use Rattle.table_verify_laws.specs.Certificates.{AreListed, ListsAll, EachListsAll, IsCertificate}
use Rattle.table_verify_laws.specs.Closed.{IsClosedAt}
use Rattle.table_verify_laws.specs.Listed.{defined, summary_among, callee_by, callee_listed, known_by}
use Rattle.table_verify_laws.specs.Rules.{TableRule, same_modules, same_source, same_functions, closed, IsSomewhere, in_table, in_certificate, in_sources, IsEverywhere, ListsFunctions, Keeps, KeepsRules}
use Rattle.table_verify_laws.proofs.Listing.{ExportsLaw, defined_has, listed_so}
use Rattle.table_verify_laws.proofs.Named.{tree_of, module_of_source, named_defined}

-- ---- functions that are listed by what is known

summarized_so : (known : Callees) (h : Atom) (fs : List FunName) (es : List (FunName × Summary)) → AreSummarized known h fs es → map (λ x. x.0) es ≡ fs
summarized_so known h [] [] are = refl
summarized_so known h [] (e ∷ es) are = absurd are
summarized_so known h (f ∷ fs) [] are = absurd are
summarized_so known h (f ∷ fs) (e ∷ es) are = ap₂ (λ g gs. g ∷ gs) are.0 (summarized_so known h fs es are.2)

summarized_known : (known : Callees) (h : Atom) (fs : List FunName) (es : List (FunName × Summary)) (f : FunName) (s : Summary) → AreSummarized known h fs es → Contains es (f, s) → known h f ≡ Known s
summarized_known known h [] [] f s are has = absurd (contains_none (f, s) has)
summarized_known known h [] (e ∷ es) f s are has = absurd are
summarized_known known h (g ∷ fs) [] f s are has = absurd are
summarized_known known h (g ∷ fs) (e ∷ es) f s are has = elim (contains_cases e (f, s) es has) [
  | inl same ↦ ap (known h) (sym (ap (λ (y : FunName × Summary). y.0) same) ∙ are.0) ∙ are.1 ∙ ap (λ (y : FunName × Summary). Known y.1) same
  | inr more ↦ summarized_known known h fs es f s are.2 more
]

among_listed : (known : Callees) (h : Atom) (fs : List FunName) (es : List (FunName × Summary)) → AreListed known h fs es
    → (f : FunName) → summary_among es f ≡ cond (has_function fs f) (summary_of (known h f)) None
among_listed known h [] [] are f = refl
among_listed known h [] (e ∷ es) are f = absurd are
among_listed known h (g ∷ fs) [] are f = absurd are
among_listed known h (g ∷ fs) (e ∷ es) are f = by (same_function f g) refl (among_listed known h fs es are.2 f)
  where
    by : (b : Bool) → same_function f g ≡ b → summary_among es f ≡ cond (has_function fs f) (summary_of (known h f)) None
        → summary_among (e ∷ es) f ≡ cond (b || has_function fs f) (summary_of (known h f)) None
    by true is rest =
        ap (λ k. cond (same_name f k) (Some e.1) (summary_among es f)) are.0 ∙ ap (λ b. cond b (Some e.1) (summary_among es f)) is
        ∙ sym (ap (λ k. summary_of (known h k)) (function_is f g is) ∙ are.1)
    by false is rest = ap (λ k. cond (same_name f k) (Some e.1) (summary_among es f)) are.0 ∙ ap (λ b. cond b (Some e.1) (summary_among es f)) is ∙ rest

-- a callee is given by its summary, where its name is exported or not as its module says
standing_listed : (b : Bool) (s : Summary) → callee_listed b (summary_of (standing b s)) ≡ standing b s
standing_listed true s = refl
standing_listed false s = refl

-- ---- the entry of a name in a certificate, beside the one of the table

record Beside (known : Callees) (M : List Source) (table C : List Entry) (h : Atom) (c : Entry) : Type 0 where
  entry : Entry
  there : entry_of table h ≡ Some entry
  lists : ListsAll known M entry c

beside : (known : Callees) (M : List Source) (table C : List Entry) → EachListsAll known M table C → (h : Atom) (c : Entry) → entry_of C h ≡ Some c → Beside known M table C h c
beside known M [] [] all h c e = none_some e
beside known M [] (d ∷ C) all h c e = absurd all
beside known M (x ∷ table) [] all h c e = absurd all
beside known M (x ∷ table) (d ∷ C) all h c e = by (same_atom h x.name) refl (beside known M table C all.1 h c)
  where
    name : d.name ≡ x.name
    name = ap (λ (z : Entry). z.name) all.0.others

    by : (b : Bool) → same_atom h x.name ≡ b → (entry_of C h ≡ Some c → Beside known M table C h c) → Beside known M (x ∷ table) (d ∷ C) h c
    by true is later =
        let same : d ≡ c = same_Some _ _ (sym (ap (λ k. cond (same_atom h k) (Some d) (entry_of C h)) name ∙ ap (λ b. cond b (Some d) (entry_of C h)) is) ∙ e) in
        record { entry = x; there = ap (λ b. cond b (Some x) (entry_of table h)) is; lists = subst (ListsAll known M x) same all.0 }
    by false is later =
        let r = later (sym (ap (λ k. cond (same_atom h k) (Some d) (entry_of C h)) name ∙ ap (λ b. cond b (Some d) (entry_of C h)) is) ∙ e) in
        record { entry = r.entry; there = ap (λ b. cond b (Some x) (entry_of table h)) is ∙ r.there; lists = r.lists }

-- an entry of the table has one beside it
listed_beside : (known : Callees) (M : List Source) (table C : List Entry) → EachListsAll known M table C → (h : Atom) (e : Entry) → entry_of table h ≡ Some e → (c : Entry) × (entry_of C h ≡ Some c)
listed_beside known M [] C all h e at = none_some at
listed_beside known M (x ∷ table) [] all h e at = absurd all
listed_beside known M (x ∷ table) (d ∷ C) all h e at = by (same_atom h x.name) refl (listed_beside known M table C all.1 h e)
  where
    name : d.name ≡ x.name
    name = ap (λ (z : Entry). z.name) all.0.others

    by : (b : Bool) → same_atom h x.name ≡ b → (entry_of table h ≡ Some e → (c : Entry) × (entry_of C h ≡ Some c)) → (c : Entry) × (entry_of (d ∷ C) h ≡ Some c)
    by true is later = (d, ap (λ k. cond (same_atom h k) (Some d) (entry_of C h)) name ∙ ap (λ b. cond b (Some d) (entry_of C h)) is)
    by false is later =
        let r = later (sym (ap (λ b. cond b (Some x) (entry_of table h)) is) ∙ at) in
        (r.0, ap (λ k. cond (same_atom h k) (Some d) (entry_of C h)) name ∙ ap (λ b. cond b (Some d) (entry_of C h)) is ∙ r.1)

-- ---- the table that is written of sources

module _ (M : List Source) (reports : List (List ℕ)) (T : List Entry) (w : IsWritten [] M reports T) where
  abbrev WrittenAt : Source → Atom → Entry
  WrittenAt s h = written w.new_groups (finally w.known [] M w.groups) w.known s h

  table_has : (h : Atom) (s : Source) → source_of M h ≡ Some s → entry_of T h ≡ Some (WrittenAt s h)
  table_has h s e =
      entry_by M T w.groups w.new_groups w.known w.analysis.candidates w.entries h
      ∙ ap (λ o. made_of o (group_of w.new_groups h) (finally w.known [] M w.groups) (w.known h)) e

  from_source : (h : Atom) (e : Entry) → entry_of T h ≡ Some e → FromSource M w.new_groups (finally w.known [] M w.groups) w.known h e
  from_source h e at = entry_source M T w.groups w.new_groups w.known w.analysis.candidates w.entries h e at

  -- the entry of a source
  entry_is : (h : Atom) (s : Source) (e : Entry) → source_of M h ≡ Some s → entry_of T h ≡ Some e → e ≡ WrittenAt s h
  entry_is h s e there at = same_Some _ _ (sym at ∙ table_has h s there)

module _ (exports : ExportsLaw) (T C : List Entry) (M : List Source) (are : AreSources M) (reports : List (List ℕ)) (w : IsWritten [] M reports T) (is : IsCertificate M C)
    (known_so : IsKnownOver all_unknown (trees M) is.known) (results : (s : Source) → Contains M s → IsResult is.known s.tree (w.known s.tree.name))
    (closed_at : (g : Function) → Contains (all_functions (trees M)) g → IsClosedAt (all_functions (trees M)) is.known g) where
  -- ---- where modules are

  everywhere : (h : Atom) (s : Source) → source_of M h ≡ Some s → IsEverywhere T C M h
  everywhere h s e =
      let c = listed_beside is.known M is.table C is.lists h _ (table_has M is.reports is.table is.written h s e) in
      record {
        entry = WrittenAt M reports T w s h;
        certified = c.0;
        source = s;
        entry_there = table_has M reports T w h s e;
        certified_there = c.1;
        source_there = e;
      }

  keeps_modules : (h : Atom) → IsSomewhere T C M h → IsEverywhere T C M h
  keeps_modules h (in_table e at) = let from = from_source M reports T w h e at in everywhere h from.source from.there
  keeps_modules h (in_certificate c at) =
      let b = beside is.known M is.table C is.lists h c at in
      let from = from_source M is.reports is.table is.written h b.entry b.there in
      everywhere h from.source from.there
  keeps_modules h (in_sources s e) = everywhere h s e

  -- ---- what entries have

  module _ (h : Atom) (x : IsEverywhere T C M h) where
    of_table : x.entry ≡ WrittenAt M reports T w x.source h
    of_table = entry_is M reports T w h x.source x.entry x.source_there x.entry_there

    certificate_beside : Beside is.known M is.table C h x.certified
    certificate_beside = beside is.known M is.table C is.lists h x.certified x.certified_there

    before_is : certificate_beside.entry ≡ WrittenAt M is.reports is.table is.written x.source h
    before_is = entry_is M is.reports is.table is.written h x.source certificate_beside.entry x.source_there certificate_beside.there

    digests : (x.entry.digest ≡ x.source.digest) × (x.certified.digest ≡ x.source.digest)
    digests = (
      ap (λ (e : Entry). e.digest) of_table,
      ap (λ (e : Entry). e.digest) certificate_beside.lists.others ∙ ap (λ (e : Entry). e.digest) before_is,
    )

    name_is : x.source.tree.name ≡ h
    name_is = (source_stands M h x.source x.source_there).1

    all_listed : AreListed is.known h (defined x.source.tree) x.certified.result.exports
    all_listed =
        let l = certificate_beside.lists in
        let name : certificate_beside.entry.name ≡ h = ap (λ (e : Entry). e.name) before_is ∙ name_is in
        let source : l.source ≡ x.source = same_Some _ _ (sym l.there ∙ ap (source_of M) name ∙ x.source_there) in
        subst (λ (s : Source). AreListed is.known h (defined s.tree) x.certified.result.exports) source
        (subst (λ k. AreListed is.known k (defined l.source.tree) x.certified.result.exports) name l.functions)

    exports_listed : AreSummarized is.known h (exported x.source.tree) x.entry.result.exports
    exports_listed =
        let r = (results x.source (source_stands M h x.source x.source_there).0).exports in
        let result : (w.known x.source.tree.name).exports ≡ x.entry.result.exports = ap (λ k. (w.known k).exports) name_is ∙ sym (ap (λ (e : Entry). e.result.exports) of_table) in
        subst (AreSummarized is.known h (exported x.source.tree)) result
        (subst (λ k. AreSummarized is.known k (exported x.source.tree) (w.known x.source.tree.name).exports) name_is r)

    -- ---- what is known of the functions of a module

    module_is : module_named (trees M) h ≡ Some x.source.tree
    module_is = module_of_source M h ∙ ap tree_of x.source_there

    home_there : is_home (trees M) h ≡ true
    home_there = home_of_sources M h ∙ ap is_there x.source_there

    of_function : (f : FunName) → (b : Bool) → is_member (all_functions (trees M)) h f ≡ b
        → (is.known h f ≡ Undefined) ⊎ ((s : Summary) × (is.known h f ≡ standing (has_function x.source.tree.exports f) s) × (has_function (defined x.source.tree) f ≡ true))
    of_function f false e = inl (known_so.none h f home_there e)
    of_function f true e =
        let j = member_named (all_functions (trees M)) h f e in
        let of = (each_has (InModules (trees M)) (all_functions (trees M)) j.function (all_in_modules (trees M) are.distinct (accepted_once (trees M) are.accepted)) j.there).is in
        let number = known_so.number j.function.home j.function.name in
        let s = known_some is.known (known_so.component number) (summaries is.known (known_so.component number)) (known_so.known_so number) j.function (known_so.all j.function j.there) in
        let open_so : j.function.exported ≡ has_function x.source.tree.exports f =
        of.exported ∙ ap₂ (λ k g. exports_in (module_named (trees M) k) g) j.home_is j.name_is ∙ ap (λ o. exports_in o f) module_is in
        let stands = named_defined x.source.tree.defs f _ (sym (ap (λ o. definition_in o f) module_is) ∙ sym (ap₂ (λ k g. definition_in (module_named (trees M) k) g) j.home_is j.name_is) ∙ of.defined) in
        inr (
          s.0,
          sym (ap₂ is.known j.home_is j.name_is) ∙ s.1 ∙ ap (λ b. standing b s.0) open_so,
          has_contained (defined x.source.tree) f (defined_has exports x.source.tree f stands),
        )

    certified_so : (f : FunName) → summary_among x.certified.result.exports f ≡ summary_of (is.known h f)
    certified_so f = by (of_function f (is_member (all_functions (trees M)) h f) refl)
      where
        listed_by : (b : Bool) → (b ≡ false → is.known h f ≡ Undefined) → cond b (summary_of (is.known h f)) None ≡ summary_of (is.known h f)
        listed_by true none = refl
        listed_by false none = sym (ap summary_of (none refl))

        at : summary_among x.certified.result.exports f ≡ cond (has_function (defined x.source.tree) f) (summary_of (is.known h f)) None
        at = among_listed is.known h (defined x.source.tree) x.certified.result.exports all_listed f

        by : (is.known h f ≡ Undefined) ⊎ ((s : Summary) × (is.known h f ≡ standing (has_function x.source.tree.exports f) s) × (has_function (defined x.source.tree) f ≡ true))
            → summary_among x.certified.result.exports f ≡ summary_of (is.known h f)
        by (inl none) = at ∙ listed_by (has_function (defined x.source.tree) f) (λ e. none)
        by (inr some) = at ∙ ap (λ b. cond b (summary_of (is.known h f)) None) some.2

    listed_callee : (f : FunName) → callee_listed (has_function x.source.tree.exports f) (summary_of (is.known h f)) ≡ is.known h f
    listed_callee f = by (of_function f (is_member (all_functions (trees M)) h f) refl)
      where
        by : (is.known h f ≡ Undefined) ⊎ ((s : Summary) × (is.known h f ≡ standing (has_function x.source.tree.exports f) s) × (has_function (defined x.source.tree) f ≡ true))
            → callee_listed (has_function x.source.tree.exports f) (summary_of (is.known h f)) ≡ is.known h f
        by (inl none) = ap (λ c. callee_listed (has_function x.source.tree.exports f) (summary_of c)) none ∙ sym none
        by (inr some) =
            ap (λ c. callee_listed (has_function x.source.tree.exports f) (summary_of c)) some.1
            ∙ standing_listed (has_function x.source.tree.exports f) some.0 ∙ sym some.1

    functions_listed : ListsFunctions x.entry x.certified x.source
    functions_listed = record {
      all = listed_so is.known h (defined x.source.tree) x.certified.result.exports all_listed;
      exported_alone = summarized_so is.known h (exported x.source.tree) x.entry.result.exports exports_listed;
      as_certified = λ f s has. certified_so f ∙ ap summary_of (summarized_known is.known h (exported x.source.tree) x.entry.result.exports f s exports_listed has);
    }

  -- ---- what is known by the certificate is what is known of all functions

  known_is : known_by C M ≡ is.known
  known_is = pointwise (known_by C M) is.known (λ h f. by h f (source_of M h) refl)
    where
      by : (h : Atom) (f : FunName) (o : Option Source) → source_of M h ≡ o → callee_by (source_of M h) (entry_of C h) f ≡ is.known h f
      by h f None e = ap (λ o. callee_by o (entry_of C h) f) e ∙ sym (known_so.out h f (home_of_sources M h ∙ ap is_there e))
      by h f (Some s) e =
          let x = everywhere h s e in
          ap₂ (λ o c. callee_by o c f) x.source_there x.certified_there
          ∙ ap (callee_listed (has_function x.source.tree.exports f)) (certified_so h x f)
          ∙ listed_callee h x f

  keeps : (r : TableRule) (h : Atom) → Keeps T C M r h
  keeps same_modules h = keeps_modules h
  keeps same_source h = digests h
  keeps same_functions h = functions_listed h
  keeps closed h = λ g there home. subst (λ k. IsClosedAt (all_functions (trees M)) k g) (sym known_is) (closed_at g there)

  pub keeps_rules : KeepsRules T C M
  keeps_rules = keeps
