-- Each summary of a table that keeps the rules is a success typing, and each of the certificate.
use Rattle.std.proofs.Common.{◌≡◌, Bool, true, false, List, Contains, Some, refl, sym, ap, ap₂, ◌∙◌, subst}
use Rattle.std.proofs.lemmas.Option.{same_Some}
use Rattle.type_kinds.specs.declared.atom.Atom.{Atom}
use Rattle.type_kinds_sets.specs.Ascending.{is_ascending}
use Rattle.core_ast.specs.declared.syntax.FunName.{FunName}
use Rattle.core_scope.specs.Names.{has_function}
use Rattle.cons_tree.specs.declared.parts.Summary.{Summary}
use Rattle.comp_rounds.specs.Rounds.{standing}
use Rattle.sound_laws.specs.Knowledge.{summary_of}
use Rattle.table_keep.specs.Made.{function_cmp}
use Rattle.table_keep.specs.Model.{Source, Entry, entry_of}
use Rattle.table_verify_laws.specs.Listed.{summary_among, callee_by, callee_listed, known_by}
use Rattle.table_verify_laws.specs.Rules.{same_modules, same_functions, in_table, in_certificate, IsEverywhere, KeepsRules}
use Rattle.table_verify_laws.proofs.Listing.{names_of, among_rising, defined_rise}

standing_so : (b : Bool) (s : Summary) → summary_of (standing b s) ≡ Some s
standing_so true s = refl
standing_so false s = refl

module _ (T C : List Entry) (M : List Source) (keeps : KeepsRules T C M) where
  -- what the certificate says of a function is known
  known_so : (h : Atom) (f : FunName) (s : Summary) (x : IsEverywhere T C M h) → summary_among x.certified.result.exports f ≡ Some s → summary_of (known_by C M h f) ≡ Some s
  known_so h f s x e =
      ap₂ (λ o c. summary_of (callee_by o c f)) x.source_there x.certified_there
      ∙ ap (λ o. summary_of (callee_listed (has_function x.source.tree.exports f) o)) e
      ∙ standing_so (has_function x.source.tree.exports f) s

  pub known_of_table : (h : Atom) (e : Entry) (f : FunName) (s : Summary) → entry_of T h ≡ Some e → Contains e.result.exports (f, s) → summary_of (known_by C M h f) ≡ Some s
  known_of_table h e f s there has =
      let x = keeps same_modules h (in_table e there) in
      let same : e ≡ x.entry = same_Some _ _ (sym there ∙ x.entry_there) in
      known_so h f s x ((keeps same_functions h x).as_certified f s (subst (λ (z : Entry). Contains z.result.exports (f, s)) same has))

  pub known_of_certificate : (h : Atom) (e : Entry) (f : FunName) (s : Summary) → entry_of C h ≡ Some e → Contains e.result.exports (f, s) → summary_of (known_by C M h f) ≡ Some s
  known_of_certificate h e f s there has =
      let x = keeps same_modules h (in_certificate e there) in
      let same : e ≡ x.certified = same_Some _ _ (sym there ∙ x.certified_there) in
      let rise : is_ascending function_cmp (names_of x.certified.result.exports) ≡ true =
      subst (λ fs. is_ascending function_cmp fs ≡ true) (sym (keeps same_functions h x).all) (defined_rise x.source.tree) in
      known_so h f s x (among_rising x.certified.result.exports f s rise (subst (λ (z : Entry). Contains z.result.exports (f, s)) same has))
