-- Modules of sources by name, and the functions that a program defines under a name.
use Rattle.std.proofs.Common.{◌≡◌, Bool, true, false, cond, List, [], ◌∷◌, Contains, Option, Some, None, refl, sym, ap, ap₂, ◌∙◌, subst}
use Rattle.std.specs.Prelude.{◌&&◌, nat_eq, option_map, if◌then◌else◌}
use Rattle.std.specs.Cmp.Lexicographic.{bytes_decides}
use Rattle.std.proofs.lemmas.Option.{same_Some}
use Rattle.type_kinds.proofs.Lists.{contains_first, contains_later}
use Rattle.type_kinds.proofs.Truths.{same_tests}
use Rattle.type_kinds.specs.declared.atom.Atom.{Atom}
use Rattle.core_ast.specs.Model as m
use Rattle.core_ast.specs.declared.syntax.FunName.{FunName}
use Rattle.core_scope.specs.Names.{Distinct, defined_names, same_atom}
use Rattle.core_scope.proofs.NameLaws.{function_is}
use Rattle.comp_rounds.specs.Rounds.{Function}
use Rattle.core_meaning.specs.Programs.{Program, module_named}
use Rattle.sound_laws.specs.Accepted.{AreAccepted}
use Rattle.sound_laws.specs.Summaries.{Definition, definition_named, definition_in, definition_of}
use Rattle.analysis_summaries.specs.Functions.{all_functions}
use Rattle.analysis_summaries.specs.Known.{module_names}
use Rattle.sound_laws_whole.proofs.Named.{InModules, all_in_modules, module_there}
use Rattle.sound_laws_whole.proofs.Wholes.{accepted_once}
use Rattle.sound_laws_outside.proofs.Members.{member_named, each_has}
use Rattle.table_keep.specs.Model.{Source, trees, source_of}
use Rattle.sound_laws_kept.proofs.Names.{none_some}

-- the module of a source
abbrev pub tree_of : Option Source → Option m.Module
tree_of o = option_map (λ s. s.tree) o

turned : (h k : Atom) → same_atom h k ≡ same_atom k h
turned h k = same_tests (same_atom h k) (same_atom k h) (one h k) (one k h)
  where
    one : (h k : Atom) → same_atom h k ≡ true → same_atom k h ≡ true
    one h k e = (bytes_decides k h).1 (sym ((bytes_decides h k).0 e))

-- a module is found under a name where its source is
pub module_of_source : (M : List Source) (h : Atom) → module_named (trees M) h ≡ tree_of (source_of M h)
module_of_source [] h = refl
module_of_source (s ∷ ss) h = by (same_atom h s.tree.name) (turned s.tree.name h) (module_of_source ss h)
  where
    by : (b : Bool) → same_atom s.tree.name h ≡ b → module_named (trees ss) h ≡ tree_of (source_of ss h)
        → (if same_atom s.tree.name h then Some s.tree else module_named (trees ss) h) ≡ tree_of (cond b (Some s) (source_of ss h))
    by true is rest = ap (λ c. if c then Some s.tree else module_named (trees ss) h) is
    by false is rest = ap (λ c. if c then Some s.tree else module_named (trees ss) h) is ∙ rest

-- ---- what a program defines under a name

pub named_defined : (ds : m.Defs) (f : FunName) (d : Definition) → definition_named ds f ≡ Some d → Contains (defined_names ds) f
named_defined m.no_def f d e = none_some e
named_defined (m.and_def g k xs t ds) f d e = by (same_atom g.name f.name && nat_eq g.arity f.arity) refl (named_defined ds f d)
  where
    by : (b : Bool) → (same_atom g.name f.name && nat_eq g.arity f.arity) ≡ b → (definition_named ds f ≡ Some d → Contains (defined_names ds) f) → Contains (g ∷ defined_names ds) f
    by true is later = subst (Contains (g ∷ defined_names ds)) (function_is g f is) (contains_first g (defined_names ds))
    by false is later =
        contains_later g f (defined_names ds)
        (later (sym (ap (λ b. if b then Some (record { parameters = xs; body = t }) else definition_named ds f) is) ∙ e))

-- the function of a definition
pub record Defined (U : Program) (h : Atom) (f : FunName) (d : Definition) : Type 0 where
  pub function : Function
  pub there : Contains (all_functions U) function
  pub home_is : function.home ≡ h
  pub name_is : function.name ≡ f
  pub is : record { parameters = function.parameters; body = function.body } ≡ d

pub function_of : (U : Program) → AreAccepted U → Distinct (module_names U) → (h : Atom) (f : FunName) (d : Definition) → definition_of U h f ≡ Some d → Defined U h f d
function_of U accepted apart h f d e = by (module_named U h) refl e
  where
    by : (o : Option m.Module) → module_named U h ≡ o → definition_in o f ≡ Some d → Defined U h f d
    by None named k = none_some k
    by (Some p) named k =
        let j = member_named (all_functions U) h f ((module_there U h p named).member f (named_defined p.defs f d k)) in
        let of = (each_has (InModules U) (all_functions U) j.function (all_in_modules U apart (accepted_once U accepted)) j.there).is in
        record {
          function = j.function;
          there = j.there;
          home_is = j.home_is;
          name_is = j.name_is;
          is = same_Some _ _ (sym of.defined ∙ ap₂ (definition_of U) j.home_is j.name_is ∙ e);
        }
