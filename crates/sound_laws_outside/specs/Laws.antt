-- What holds of what is known over what stands outside.
use Rattle.std.specs.Prelude.{◌≡◌, ◌≢◌, true, false, List, [], Contains}
use Rattle.type_kinds.specs.declared.atom.Atom.{Atom}
use Rattle.core_ast.specs.declared.syntax.FunName.{FunName}
use Rattle.core_ast.specs.Model as m
use Rattle.core_scope.specs.Asks.{erlang}
use Rattle.core_scope.specs.Names.{Distinct}
use Rattle.call_graph.specs.Targets.CallTarget.{remote}
use Rattle.call_graph.specs.Targets.{targets}
use Rattle.comp_rounds.specs.Rounds.{Callees, Function}
use Rattle.sound_laws.specs.Accepted.{AreAccepted}
use Rattle.analysis_summaries.specs.Functions.{all_functions}
use Rattle.analysis_summaries.specs.Known.{module_names}
use Rattle.analysis_summaries.specs.Whole.{IsWholeOver}
use Rattle.cons_gen_frame.specs.Agreement.{AreAlike}
use Rattle.sound_laws_outside.specs.Same.{SameModules}
use Rattle.sound_laws_outside.specs.Over.{is_home, Together, IsKnownOver}

-- A call by literal names that leaves the modules is the same over both.
abbrev pub AgreeOutside : List m.Module → (outside other : Callees) → Type 0
AgreeOutside xs outside other = (g : Function) (h : Atom) (f : FunName) → Contains (all_functions xs) g → Contains (targets [] g.body) (remote h f) → h ≢ erlang → is_home xs h ≡ false
    → AreAlike (outside h f) (other h f)

-- Some of the modules, with each that has a function which is together with one of theirs.
pub record IsPart (xs ys : List m.Module) : Type 0 where
  pub there : (x : m.Module) → Contains ys x → Contains xs x
  pub closed : (f g : Function) → Contains (all_functions xs) f → Contains (all_functions xs) g → Together (all_functions xs) f g → is_home ys f.home ≡ true → is_home ys g.home ≡ true

-- What component by component is solved over what stands outside, is known over it.
abbrev pub SolvedLaw : Type 0
SolvedLaw = (xs : List m.Module) (outside known : Callees) → AreAccepted xs → Distinct (module_names xs) → IsWholeOver outside xs known → IsKnownOver outside xs known

-- Something is known of accepted modules with distinct names, whatever stands outside of them.
abbrev pub SomeLaw : Type 0
SomeLaw = (xs : List m.Module) (outside : Callees) → AreAccepted xs → Distinct (module_names xs) → (known : Callees) × IsKnownOver outside xs known

-- What is known may be carried over to the same modules in another order, and to what is the same outside where they call.
abbrev pub CarriedLaw : Type 0
CarriedLaw = (xs ys : List m.Module) (outside around known other : Callees) → SameModules xs ys → AgreeOutside xs outside around → IsKnownOver outside xs known
    → ((h : Atom) (f : FunName) → is_home xs h ≡ true → known h f ≡ other h f) → ((h : Atom) (f : FunName) → is_home xs h ≡ false → other h f ≡ around h f) → IsKnownOver around ys other

-- What is known of modules is known of each part of them, over what is known of all.
abbrev pub PartsLaw : Type 0
PartsLaw = (xs ys : List m.Module) (outside known : Callees) → Distinct (module_names xs) → IsPart xs ys → IsKnownOver outside xs known → IsKnownOver known ys known

-- There is one thing that is known over what stands outside.
abbrev pub OneLaw : Type 0
OneLaw = (xs : List m.Module) (outside known other : Callees) → IsKnownOver outside xs known → IsKnownOver outside xs other → known ≡ other

-- So what is known of modules rests on their texts and on what is known of functions outside that they call, and on nothing else.
abbrev pub RestsLaw : Type 0
RestsLaw = (xs ys : List m.Module) (outside around known other : Callees) → SameModules xs ys → AgreeOutside xs outside around → IsKnownOver outside xs known → IsKnownOver around ys other
    → (h : Atom) (f : FunName) → is_home xs h ≡ true → known h f ≡ other h f

-- And the order of the modules doesn't matter.
abbrev pub OrderLaw : Type 0
OrderLaw = (xs ys : List m.Module) (outside known other : Callees) → AreAccepted xs → AreAccepted ys → Distinct (module_names xs) → Distinct (module_names ys) → SameModules xs ys
    → IsWholeOver outside xs known → IsWholeOver outside ys other → known ≡ other
