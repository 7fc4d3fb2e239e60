-- What is known when the entries of all sources were entered is what is known by the certificate.
use Rattle.std.proofs.Common.{◌≡◌, Bool, true, false, cond, List, [], ◌∷◌, Contains, Option, Some, None, refl, sym, ap, ap₂, ◌∙◌}
use Rattle.std.specs.List.{list_any}
use Rattle.std.specs.Prelude.{if◌then◌else◌, ◌||◌}
use Rattle.cons_tree.specs.declared.parts.Summary.{Summary}
use Rattle.type_kinds.specs.declared.atom.Atom.{Atom}
use Rattle.core_ast.specs.declared.syntax.FunName.{FunName}
use Rattle.core_scope.specs.Names.{Distinct, has_function, same_atom}
use Rattle.cons_tree.specs.Callees.{same_home}
use Rattle.cons_tree.specs.declared.parts.Callee.{Callee}
use Rattle.cons_tree.specs.declared.parts.Callee.TheVariants.{Undefined, Unknown}
use Rattle.comp_rounds.specs.Rounds.{Callees}
use Rattle.analysis_summaries.specs.Known.{closed_over, module_names}
use Rattle.table_keep.specs.Model.{Source, Entry, trees, source_of, entry_of, is_there, is_in}
use Rattle.sound_laws_kept.proofs.Names.{in_named, name_is, none_some, some_is}
use Rattle.table_verify_laws.specs.Listed.{callee_by, callee_listed, known_by, summary_among}
use Rattle.table_verify_rules.specs.steps.Knowing.{listed_or, with_entries_of, with_entry_of}

-- a function by the entry of its module, and else what was known of it
abbrev by_entry : Source → Option Entry → FunName → Callee → Callee
by_entry s None f before = before
by_entry s (Some e) f before = listed_or (has_function s.tree.exports f) (summary_among e.result.exports f) before

entered_here : (s : Source) (o : Option Entry) (K : Callees) (h : Atom) (f : FunName) → same_atom h s.tree.name ≡ true → with_entry_of s o K h f ≡ by_entry s o f (K h f)
entered_here s None K h f is = refl
entered_here s (Some e) K h f is = ap (λ b. cond b (listed_or (has_function s.tree.exports f) (summary_among e.result.exports f) (K h f)) (K h f)) is

entered_there : (s : Source) (o : Option Entry) (K : Callees) (h : Atom) (f : FunName) → same_atom h s.tree.name ≡ false → with_entry_of s o K h f ≡ K h f
entered_there s None K h f is = refl
entered_there s (Some e) K h f is = ap (λ b. cond b (listed_or (has_function s.tree.exports f) (summary_among e.result.exports f) (K h f)) (K h f)) is

module _ (C : List Entry) where
  -- a module of another name
  outside : (ss : List Source) (K : Callees) (h : Atom) (f : FunName) → source_of ss h ≡ None → with_entries_of C ss K h f ≡ K h f
  outside [] K h f none = refl
  outside (s ∷ ss) K h f none = by (same_atom h s.tree.name) refl none (outside ss L h f)
    where
      L : Callees
      L = with_entry_of s (entry_of C s.tree.name) K

      by : (b : Bool) → same_atom h s.tree.name ≡ b → cond b (Some s) (source_of ss h) ≡ None → (source_of ss h ≡ None → with_entries_of C ss L h f ≡ L h f) → with_entries_of C ss L h f ≡ K h f
      by true is none rest = none_some (sym none)
      by false is none rest = rest none ∙ entered_there s (entry_of C s.tree.name) K h f is

  -- no later source has the name of an earlier one
  not_again : (s : Source) (ss : List Source) → (Contains (module_names (trees ss)) s.tree.name → ⊥) → source_of ss s.tree.name ≡ None
  not_again s ss lacks = by (source_of ss s.tree.name) refl
    where
      by : (o : Option Source) → source_of ss s.tree.name ≡ o → o ≡ None
      by None e = refl
      by (Some t) e = absurd (lacks (in_named ss s.tree.name (ap is_there e)))

  inside : (ss : List Source) → Distinct (module_names (trees ss)) → (K : Callees) (h : Atom) (f : FunName) (s : Source) → source_of ss h ≡ Some s
      → with_entries_of C ss K h f ≡ by_entry s (entry_of C h) f (K h f)
  inside [] apart K h f s at = none_some at
  inside (t ∷ ss) apart K h f s at = by (same_atom h t.tree.name) refl at (inside ss apart.1 L h f s)
    where
      L : Callees
      L = with_entry_of t (entry_of C t.tree.name) K

      by : (b : Bool) → same_atom h t.tree.name ≡ b → cond b (Some t) (source_of ss h) ≡ Some s → (source_of ss h ≡ Some s → with_entries_of C ss L h f ≡ by_entry s (entry_of C h) f (L h f))
          → with_entries_of C ss L h f ≡ by_entry s (entry_of C h) f (K h f)
      by true is at rest =
          let name : h ≡ t.tree.name = name_is h t.tree.name is in
          outside ss L h f (ap (source_of ss) name ∙ not_again t ss apart.0)
          ∙ entered_here t (entry_of C t.tree.name) K h f is
          ∙ ap₂ (λ u k. by_entry u (entry_of C k) f (K h f)) (some_is at) (sym name)
      by false is at rest =
          rest at
          ∙ ap (by_entry s (entry_of C h) f) (entered_there t (entry_of C t.tree.name) K h f is)

  -- ---- where each name of one of the modules was undefined before, and nothing was known of others

  undefined_before : (exported : Bool) (o : Option Summary) → listed_or exported o Undefined ≡ callee_listed exported o
  undefined_before exported None = refl
  undefined_before exported (Some s) = refl

  by_undefined : (s : Source) (o : Option Entry) (f : FunName) → by_entry s o f Undefined ≡ callee_by (Some s) o f
  by_undefined s None f = refl
  by_undefined s (Some e) f = undefined_before (has_function s.tree.exports f) (summary_among e.result.exports f)

  homes : (ss : List Source) (h : Atom) → list_any (same_home h) (module_names (trees ss)) ≡ is_in ss h
  homes [] h = refl
  homes (s ∷ ss) h = by (same_atom h s.tree.name) (homes ss h)
    where
      by : (b : Bool) → list_any (same_home h) (module_names (trees ss)) ≡ is_in ss h → (b || list_any (same_home h) (module_names (trees ss))) ≡ is_there (cond b (Some s) (source_of ss h))
      by true rest = refl
      by false rest = rest

  pub all_entered : (M : List Source) → Distinct (module_names (trees M)) → (before : Callees) → ((h : Atom) (f : FunName) → before h f ≡ Unknown) → (names : List Atom) → names ≡ module_names (trees M)
      → with_entries_of C M (closed_over before names) ≡ known_by C M
  all_entered M apart before none names are = λ i h f. at h f i
    where
      closed : (h : Atom) (f : FunName) → closed_over before names h f ≡ (if is_in M h then Undefined else Unknown)
      closed h f = ap₂ (λ b u. if b then Undefined else u) (ap (list_any (same_home h)) are ∙ homes M h) (none h f)

      at : (h : Atom) (f : FunName) → with_entries_of C M (closed_over before names) h f ≡ known_by C M h f
      at h f = by (source_of M h) refl
        where
          by : (o : Option Source) → source_of M h ≡ o → with_entries_of C M (closed_over before names) h f ≡ callee_by o (entry_of C h) f
          by None e = outside M (closed_over before names) h f e ∙ closed h f ∙ ap (λ o. if is_there o then Undefined else Unknown) e
          by (Some s) e =
              inside M apart (closed_over before names) h f s e
              ∙ ap (by_entry s (entry_of C h) f) (closed h f ∙ ap (λ o. if is_there o then Undefined else Unknown) e)
              ∙ by_undefined s (entry_of C h) f
