-- What is known of all functions of a program is whole, where it is known of each of its modules among some of them, over all that
-- is known: no numbering of all of the modules is needed.
use Rattle.std.proofs.Common.{◌≡◌, Bool, true, false, List, [], ◌∷◌, Contains, ◌⊎◌, inl, inr, Some, None, Option, refl, sym, ap, ap₂, ◌∙◌, subst}
use Rattle.std.specs.Prelude.{if◌then◌else◌}
use Rattle.type_kinds.proofs.Lists.{contains_first, contains_later}
use Rattle.type_kinds.specs.declared.atom.Atom.{Atom}
use Rattle.core_ast.specs.declared.syntax.FunName.{FunName}
use Rattle.core_ast.specs.Model as m
use Rattle.core_scope.specs.Asks.{erlang}
use Rattle.core_scope.specs.Names.{Distinct, same_atom, has_function}
use Rattle.cons_tree.specs.declared.parts.Callee.{Callee}
use Rattle.cons_tree.specs.declared.parts.Callee.TheVariants.{Unknown}
use Rattle.cons_tree.specs.declared.parts.Summary.{Summary}
use Rattle.cons_tree.proofs.NameLaws.{home_is}
use Rattle.comp_rounds.specs.Rounds.{Callees, Function, is_member, summaries}
use Rattle.core_meaning.specs.Programs.{Program, module_named, Found, built_in, exported, hidden, outside, found_in}
use Rattle.sound_laws.specs.Accepted.{AreAccepted}
use Rattle.sound_laws.specs.Knowledge.{Allows, summary_of}
use Rattle.sound_laws_rounds.specs.Whole.{AreFunctionsOf, AreKnown, IsWhole}
use Rattle.analysis_summaries.specs.Functions.{all_functions}
use Rattle.analysis_summaries.specs.Known.{module_names}
use Rattle.sound_laws_whole.proofs.Named.{InModules, all_in_modules, module_there, no_module}
use Rattle.sound_laws_whole.proofs.Wholes.{accepted_once, home_there, home_among, no_summary}
use Rattle.sound_laws_outside.specs.Over.{is_home, IsKnownOver}
use Rattle.sound_laws_outside.proofs.Members.{clash, each_has, member_named, member_of, module_under, one_module, functions_over, home_over}
use Rattle.table_keep.specs.Made.{IsKnown}

-- The name is that of a module among some of the program's, whose functions are known over all that is known, and those that they
-- export with their summaries.
pub record IsPlaced (U : Program) (K : Callees) (h : Atom) : Type 0 where
  pub part : List m.Module
  pub there : (x : m.Module) → Contains part x → Contains U x
  pub here : is_home part h ≡ true
  pub known_so : IsKnownOver K part K
  pub open_known : (x : m.Module) → Contains part x → (f : FunName) → has_function x.exports f ≡ true → IsKnown (K x.name f)

-- a name that no module has, and of whose functions nothing is known
abbrev pub IsBeyond : (U : Program) → (K : Callees) → Atom → Type 0
IsBeyond U K h = (is_home U h ≡ false) × ((f : FunName) → K h f ≡ Unknown)

allows_if : (b : Bool) (x : Found) (c : Callee) → Allows x c → Allows (if b then built_in else x) c
allows_if true x c a = tt
allows_if false x c a = a

allows_exported : (b : Bool) (c : Callee) → (b ≡ true → IsKnown c) → Allows (if b then exported else hidden) c
allows_exported false c k = tt
allows_exported true c k = subst (Allows exported) (sym (k refl).1) tt

named_so : (U : Program) (h : Atom) (x : m.Module) → module_named U h ≡ Some x → x.name ≡ h
named_so [] h x e = absurd cc
named_so (y ∷ U) h x e = by (same_atom y.name h) refl (named_so U h x)
  where
    by : (b : Bool) → same_atom y.name h ≡ b → (module_named U h ≡ Some x → x.name ≡ h) → x.name ≡ h
    by true is rest =
        let some : Some y ≡ Some x = sym (ap (λ b. if b then Some y else module_named U h) is) ∙ e in
        let same : y ≡ x = cc in
        sym (ap (λ (z : m.Module). z.name) same) ∙ home_is y.name h is
    by false is rest = rest (sym (ap (λ b. if b then Some y else module_named U h) is) ∙ e)

module _ (U : Program) (accepted : AreAccepted U) (apart : Distinct (module_names U)) (K : Callees) (place : (h : Atom) → IsBeyond U K h ⊎ IsPlaced U K h) where
  -- the component of a name
  abbrev component_by : (h : Atom) → FunName → IsBeyond U K h ⊎ IsPlaced U K h → List Function
  component_by h f (inl none) = []
  component_by h f (inr p) = p.known_so.component (p.known_so.number h f)

  functions_of_all : (gs : List Function) → ((g : Function) → Contains gs g → Contains (all_functions U) g) → AreFunctionsOf U gs
  functions_of_all [] there = tt
  functions_of_all (g ∷ gs) there = (
    (each_has (InModules U) (all_functions U) g (all_in_modules U apart (accepted_once U accepted)) (there g (contains_first g gs))).is,
    functions_of_all gs (λ k has. there k (contains_later g k gs has)),
  )

  functions_by : (h : Atom) (f : FunName) (o : IsBeyond U K h ⊎ IsPlaced U K h) → AreFunctionsOf U (component_by h f o)
  functions_by h f (inl none) = tt
  functions_by h f (inr p) = functions_of_all (p.known_so.component (p.known_so.number h f)) (λ g has. functions_over p.part U p.there g (p.known_so.within (p.known_so.number h f) g has))

  known_by : (h : Atom) (f : FunName) (o : IsBeyond U K h ⊎ IsPlaced U K h) → AreKnown K (component_by h f o) (summaries K (component_by h f o))
  known_by h f (inl none) = tt
  known_by h f (inr p) = p.known_so.known_so (p.known_so.number h f)

  member_by : (h : Atom) (f : FunName) (s : Summary) (o : IsBeyond U K h ⊎ IsPlaced U K h) → summary_of (K h f) ≡ Some s → is_member (component_by h f o) h f ≡ true
  member_by h f s (inl none) e = absurd (no_summary (K h f) s (inr (none.1 f)) e)
  member_by h f s (inr p) e = by (is_member (all_functions p.part) h f) refl
    where
      by : (b : Bool) → is_member (all_functions p.part) h f ≡ b → is_member (component_by h f (inr p)) h f ≡ true
      by false lacks = absurd (no_summary (K h f) s (inl (p.known_so.none h f p.here lacks)) e)
      by true is =
          let j = member_named (all_functions p.part) h f is in
          member_of (p.known_so.component (p.known_so.number h f)) h f j.function
          (subst (λ n. Contains (p.known_so.component n) j.function) (ap₂ p.known_so.number j.home_is j.name_is) (p.known_so.all j.function j.there)) j.home_is j.name_is

  honest_by : (h : Atom) (f : FunName) (x : Option m.Module) → module_named U h ≡ x → IsBeyond U K h ⊎ IsPlaced U K h → Allows (found_in x f) (K h f)
  honest_by h f None named (inl none) = subst (Allows outside) (sym (none.1 f)) tt
  honest_by h f None named (inr p) = absurd (no_module U h named (home_among (module_names U) h (home_over p.part U p.there h p.here)))
  honest_by h f (Some x) named (inl none) = clash (is_home U h) (home_there (module_names U) h (module_there U h x named).names) none.0
  honest_by h f (Some x) named (inr p) = allows_exported (has_function x.exports f) (K h f) (λ open_one. known_here open_one)
    where
      known_here : has_function x.exports f ≡ true → IsKnown (K h f)
      known_here e =
          let y = module_under p.part h p.here in
          let same = one_module U apart x y.source (module_there U h x named).there (p.there y.source y.there) (named_so U h x named ∙ sym y.name_is) in
          subst (λ k. IsKnown (K k f)) y.name_is (p.open_known y.source y.there f (subst (λ (z : m.Module). has_function z.exports f ≡ true) same e))

  pub is_whole : IsWhole U K
  is_whole = record {
    honest = λ h f. allows_if (same_atom h erlang) (found_in (module_named U h) f) (K h f) (honest_by h f (module_named U h) refl (place h));
    component = λ h f. component_by h f (place h);
    functions = λ h f. functions_by h f (place h);
    known = λ h f. known_by h f (place h);
    member = λ h f s e. member_by h f s (place h) e;
  }
