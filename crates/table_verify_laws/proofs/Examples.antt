-- The rules worked by hand, over one module `'r'` that exports `'f'/1` and has `'g'/0` for itself.
use Rattle.std.proofs.Common.{◌≡◌, ℕ, List, [], ◌∷◌, refl}
use Rattle.std.specs.Prelude.{codes}
use Rattle.std.proofs.lemmas.Option.{same_Some}
use Rattle.type_kinds.proofs.Lists.{contains_none, contains_first}
use Rattle.type_kinds.specs.declared.atom.Atom.{Atom}
use Rattle.core_ast.specs.Model as m
use Rattle.core_ast.specs.declared.syntax.FunName.{FunName}
use Rattle.core_ast.specs.declared.syntax.Mark.{Mark}
use Rattle.core_ast.specs.declared.syntax.VarName.{VarName}
use Rattle.cons_tree.specs.declared.parts.Callee.TheVariants.{Known, Local, Undefined, Unknown}
use Rattle.cons_tree.specs.declared.parts.Summary.{Summary}
use Rattle.sound_laws_kept.proofs.Names.{none_some}
use Rattle.table_keep.specs.Model.{Source, Entry}
use Rattle.table_verify_laws.specs.Listed.{defined, known_by}
use Rattle.table_verify_laws.specs.Rules.{same_modules, same_source, same_functions, closed, IsSomewhere, in_table, in_certificate, in_sources, IsEverywhere, Breaks, KeepsRules}

-- of no modules every rule is kept
nothing_breaks : KeepsRules [] [] []
nothing_breaks same_modules h = elsewhere h
  where
    elsewhere : (h : Atom) → IsSomewhere [] [] [] h → IsEverywhere [] [] [] h
    elsewhere h (in_table e at) = none_some at
    elsewhere h (in_certificate e at) = none_some at
    elsewhere h (in_sources s at) = none_some at
nothing_breaks same_source h = λ x. none_some x.entry_there
nothing_breaks same_functions h = λ x. none_some x.entry_there
nothing_breaks closed h = λ g there home. absurd (contains_none g there)

module _ (x : m.Module) (k : Mark) (xs : List VarName) (t : m.Tree) (digest : List ℕ) (s u : Summary) where
  abbrev f : FunName
  f = record { name = codes "f"; arity = 1 }

  abbrev g : FunName
  g = record { name = codes "g"; arity = 0 }

  abbrev r : m.Module
  r = record x { name = codes "r"; exports = f ∷ []; defs = m.and_def g k [] t (m.and_def f k xs t m.no_def) }

  abbrev source : Source
  source = record { tree = r; digest = digest }

  abbrev entry_with : List (FunName × Summary) → Entry
  entry_with es = record { name = codes "r"; digest = digest; group = codes "r" ∷ []; calls = []; used = []; result = record { exports = es; lines = [] } }

  abbrev certificate : List Entry
  certificate = entry_with ((f, s) ∷ (g, u) ∷ []) ∷ []

  -- functions are listed by name, and not in the order of the text
  functions_rise : defined r ≡ f ∷ g ∷ []
  unfolding defined
  functions_rise = refl

  -- what is known by the certificate: of a function that is exported to all, and of one that isn't to the module alone
  open_known : known_by certificate (source ∷ []) (codes "r") f ≡ Known s
  open_known = refl

  hidden_known : known_by certificate (source ∷ []) (codes "r") g ≡ Local u
  hidden_known = refl

  other_name : known_by certificate (source ∷ []) (codes "r") (record { name = codes "f"; arity = 2 }) ≡ Undefined
  other_name = refl

  other_module : known_by certificate (source ∷ []) (codes "e") f ≡ Unknown
  other_module = refl

  -- a table of a module that isn't passed breaks the first rule
  not_handed_in : Breaks (entry_with [] ∷ []) certificate [] same_modules (codes "r")
  not_handed_in keeps = none_some (keeps (in_table (entry_with []) refl)).source_there

  -- a table with another summary than the certificate's breaks the third rule
  another_summary : (s ≡ u → ⊥) → Breaks (entry_with ((f, u) ∷ []) ∷ []) certificate (source ∷ []) same_functions (codes "r")
  another_summary differs keeps =
      differs (same_Some _ _ ((keeps (record {
        entry = entry_with ((f, u) ∷ []);
        certified = entry_with ((f, s) ∷ (g, u) ∷ []);
        source = source;
        entry_there = refl;
        certified_there = refl;
        source_there = refl;
      })).as_certified f u (contains_first (f, u) [])))
