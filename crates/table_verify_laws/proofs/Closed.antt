-- What is known by a certificate is closed where the rules are kept.
use Rattle.std.proofs.Common.{◌≡◌, Bool, true, false, List, [], Contains, Option, Some, None, length, refl, sym, ap, ap₂, ◌∙◌, subst}
use Rattle.std.specs.Prelude.{if◌then◌else◌}
use Rattle.std.proofs.lemmas.Option.{same_Some}
use Rattle.type_kinds.specs.declared.atom.Atom.{Atom}
use Rattle.core_ast.specs.declared.syntax.FunName.{FunName}
use Rattle.core_scope.specs.Asks.{erlang}
use Rattle.core_scope.specs.Names.{same_atom, has_function}
use Rattle.core_scope.proofs.NameLaws.{contained_has}
use Rattle.cons_tree.specs.declared.parts.Sig.{Sig}
use Rattle.cons_tree.specs.declared.parts.Summary.{Summary}
use Rattle.cons_tree.specs.declared.parts.Callee.{Callee}
use Rattle.cons_gen_rows.specs.Passes.{Knowledge}
use Rattle.comp_rounds.specs.Rounds.{Callees, Function, strict_pass, lenient_pass}
use Rattle.core_meaning.specs.Programs.{Program, Found, built_in, exported as is_open, hidden, module_named, found, found_in}
use Rattle.sound_laws.specs.Knowledge.{Allows, summary_of}
use Rattle.sound_laws.specs.Summaries.{Definition, definition_of, IsWithin, solved, AreClosed, strict_of, lenient_of}
use Rattle.analysis_summaries.specs.Functions.{all_functions}
use Rattle.table_keep.specs.Made.{exported}
use Rattle.table_keep.specs.Model.{Source, Entry, trees, source_of, entry_of}
use Rattle.sound_laws_kept.specs.Solving.{AreSources}
use Rattle.sound_laws_kept.proofs.Names.{none_some}
use Rattle.table_verify_laws.specs.Closed.{IsClosedAt}
use Rattle.table_verify_laws.specs.Listed.{summary_among, callee_by, callee_listed, known_by}
use Rattle.table_verify_laws.specs.Rules.{same_modules, same_functions, closed, in_sources, IsEverywhere, KeepsRules}
use Rattle.table_verify_laws.proofs.Listing.{ExportsLaw, stands_named}
use Rattle.table_verify_laws.proofs.Named.{tree_of, module_of_source, Defined, function_of}

allows_if : (b : Bool) (x : Found) (c : Callee) → Allows x c → Allows (if b then built_in else x) c
allows_if true x c h = tt
allows_if false x c h = h

allows_listed : (b : Bool) (o : Option Summary) → (b ≡ true → (s : Summary) × (o ≡ Some s)) → Allows (if b then is_open else hidden) (callee_listed b o)
allows_listed false o some = tt
allows_listed true None some = none_some (some refl).1
allows_listed true (Some s) some = tt

-- a signature that is known belongs to a summary that is known
strict_is : (o : Option Summary) (t : Summary) (s : Sig) → o ≡ Some t → strict_of o ≡ Some s → t.strict ≡ s
strict_is o t s e k = same_Some _ _ (sym (ap strict_of e) ∙ k)

lenient_is : (o : Option Summary) (t : Summary) (s : Sig) → o ≡ Some t → lenient_of o ≡ Some s → t.lenient ≡ s
lenient_is o t s e k = same_Some _ _ (sym (ap lenient_of e) ∙ k)

module _ (exports : ExportsLaw) (T C : List Entry) (M : List Source) (are : AreSources M) (keeps : KeepsRules T C M) where
  abbrev U : Program
  U = trees M

  abbrev K : Callees
  K = known_by C M

  -- ---- honest

  everywhere : (h : Atom) (s : Source) → source_of M h ≡ Some s → IsEverywhere T C M h
  everywhere h s e = keeps same_modules h (in_sources s e)

  -- a function that a module exports has a summary in the certificate
  open_listed : (h : Atom) (s : Source) (f : FunName) → source_of M h ≡ Some s → has_function s.tree.exports f ≡ true
      → (x : IsEverywhere T C M h) → (t : Summary) × (summary_among x.certified.result.exports f ≡ Some t)
  open_listed h s f e o x =
      let lists = keeps same_functions h x in
      let same : s ≡ x.source = same_Some _ _ (sym e ∙ x.source_there) in
      let there = (exports s.tree f).1 (contained_has s.tree.exports f o) in
      let listed_there = subst (λ fs. Contains fs f) (sym lists.exported_alone) (subst (λ (z : Source). Contains (exported z.tree) f) same there) in
      let r = stands_named x.entry.result.exports f listed_there in
      (r.0, lists.as_certified f r.0 r.1)

  honest_in : (h : Atom) (f : FunName) (o : Option Source) → source_of M h ≡ o → Allows (found_in (tree_of o) f) (callee_by o (entry_of C h) f)
  honest_in h f None e = tt
  honest_in h f (Some s) e =
      let x = everywhere h s e in
      subst (λ c. Allows (if has_function s.tree.exports f then is_open else hidden) (callee_by (Some s) c f)) (sym x.certified_there)
      (allows_listed (has_function s.tree.exports f) (summary_among x.certified.result.exports f) (λ o. open_listed h s f e o x))

  honest : (h : Atom) (f : FunName) → Allows (found U h f) (K h f)
  honest h f =
      allows_if (same_atom h erlang) (found_in (module_named U h) f) (K h f)
      (subst (λ o. Allows (found_in o f) (K h f)) (sym (module_of_source M h)) (honest_in h f (source_of M h) refl))

  -- ---- above

  -- the function of a definition, at which what is known is closed
  record At (h : Atom) (f : FunName) (d : Definition) : Type 0 where
    of : Defined U h f d
    closed_there : IsClosedAt (all_functions U) K of.function

  at : (h : Atom) (f : FunName) (d : Definition) → definition_of U h f ≡ Some d → At h f d
  at h f d e =
      let of = function_of U are.accepted are.distinct h f d e in
      record { of = of; closed_there = keeps closed of.function.home of.function of.there refl }

  known_at : (h : Atom) (f : FunName) (d : Definition) (a : At h f d) → summary_of (K h f) ≡ Some a.closed_there.summary
  known_at h f d a = sym (ap₂ (λ k g. summary_of (K k g)) a.of.home_is a.of.name_is) ∙ a.closed_there.known_so

  moved : (P : Knowledge) (h : Atom) (f : FunName) (d : Definition) (a : At h f d) (s : Sig)
      → IsWithin (length a.of.function.parameters) (solved P a.of.function.home a.of.function.parameters a.of.function.body) s
      → IsWithin (length d.parameters) (solved P h d.parameters d.body) s
  moved P h f d a s w =
      subst (λ k. IsWithin (length d.parameters) (solved P k d.parameters d.body) s) a.of.home_is
      (subst (λ z. IsWithin (length z.parameters) (solved P a.of.function.home z.parameters z.body) s) a.of.is w)

  strict_above : (h : Atom) (f : FunName) (d : Definition) (s : Sig) → definition_of U h f ≡ Some d → strict_of (summary_of (K h f)) ≡ Some s
      → IsWithin (length d.parameters) (solved (strict_pass K) h d.parameters d.body) s
  strict_above h f d s e k =
      let a = at h f d e in
      subst (IsWithin (length d.parameters) (solved (strict_pass K) h d.parameters d.body)) (strict_is (summary_of (K h f)) a.closed_there.summary s (known_at h f d a) k)
      (moved (strict_pass K) h f d a a.closed_there.summary.strict a.closed_there.keeps.strict)

  -- the component of a name
  abbrev component_by : (h : Atom) (f : FunName) (o : Option Definition) → definition_of U h f ≡ o → List Function
  component_by h f None e = []
  component_by h f (Some d) e = (at h f d e).closed_there.keeps.component

  abbrev lenient_by : (h : Atom) (f : FunName) → Knowledge
  lenient_by h f = lenient_pass (component_by h f (definition_of U h f) refl) K

  lenient_above : (h : Atom) (f : FunName) (o : Option Definition) (e : definition_of U h f ≡ o) (d : Definition) (s : Sig) → o ≡ Some d
      → lenient_of (summary_of (K h f)) ≡ Some s → IsWithin (length d.parameters) (solved (lenient_pass (component_by h f o e) K) h d.parameters d.body) s
  lenient_above h f None e d s is k = none_some is
  lenient_above h f (Some c) e d s is k =
      let a = at h f c e in
      let P : Knowledge = lenient_pass a.closed_there.keeps.component K in
      subst (λ z. IsWithin (length z.parameters) (solved P h z.parameters z.body) s) (same_Some _ _ is)
      (subst (IsWithin (length c.parameters) (solved P h c.parameters c.body)) (lenient_is (summary_of (K h f)) a.closed_there.summary s (known_at h f c a) k)
      (moved P h f c a a.closed_there.summary.lenient a.closed_there.keeps.lenient))

  pub are_closed : AreClosed U K
  are_closed = record {
    strict = record {
      pass = λ h f. strict_pass K;
      honest = λ h f. honest;
      takes = λ h f other g s own known. ap strict_of known;
      above = strict_above;
    };
    lenient = record {
      pass = lenient_by;
      honest = λ h f. honest;
      takes = λ h f other g s own known. ap lenient_of known;
      above = λ h f d s e k. lenient_above h f (definition_of U h f) refl d s e k;
    };
  }
