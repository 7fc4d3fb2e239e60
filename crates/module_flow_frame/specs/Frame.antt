-- What the findings of a module rest on.
use Rattle.std.specs.Prelude.{◌≡◌, ◌≢◌, ℕ, Bool, true, cond, List, [], Contains}
use Rattle.type_kinds.specs.declared.atom.Atom.{Atom}
use Rattle.core_ast.specs.declared.syntax.FunName.{FunName}
use Rattle.core_ast.specs.Model as m
use Rattle.core_scope.specs.Asks.{erlang}
use Rattle.core_scope.specs.Names.{defined_names}
use Rattle.call_graph.specs.Targets.CallTarget.{defined, remote}
use Rattle.call_graph.specs.Targets.{def_targets}
use Rattle.cons_tree.specs.Callees.{as_called}
use Rattle.cons_gen_frame.specs.Agreement.{AreAlike}
use Rattle.warn_list.specs.Lines.{AreLines}
use Rattle.module_flow.specs.Flow.{Callees, findings}

-- The same is known, as far as a module can tell: of the functions that it defines; of those whose names it applies, which in an
-- accepted module it defines; and of those that it calls by literal names, but for what a call from outside can't tell apart, a
-- function that isn't exported and one that isn't there.
pub record KnowTheSame (x : m.Module) (c d : Callees) : Type 0 where
  pub own : (f : FunName) → Contains (defined_names x.defs) f → c x.name f ≡ d x.name f
  pub applied : (f : FunName) (n : ℕ) → Contains (def_targets [] x.defs) (defined f n) → c x.name f ≡ d x.name f
  pub called : (h : Atom) (f : FunName) → Contains (def_targets [] x.defs) (remote h f) → h ≢ erlang → AreAlike (c h f) (d h f)

-- Then the findings are the same list.
abbrev pub FindingsFrame : Type 0
FindingsFrame = (x : m.Module) (c d : Callees) → KnowTheSame x c d → findings c x ≡ findings d x

-- So the report on the module has the same lines.
abbrev pub LinesFrame : Type 0
LinesFrame = (x : m.Module) (c d : Callees) → KnowTheSame x c d → (one other : List ℕ) → AreLines x.name (findings c x) one → AreLines x.name (findings d x) other → one ≡ other

-- ---- functions as they are seen from outside

-- what is known of functions, where those of modules that aren't inside are seen from outside
abbrev pub seen_by : (inside : Atom → Bool) → Callees → Callees
seen_by inside c h f = cond (inside h) (c h f) (as_called (c h f))

-- What is found in a module that is inside is the same.
abbrev pub OutsideFrame : Type 0
OutsideFrame = (x : m.Module) (c : Callees) (inside : Atom → Bool) → inside x.name ≡ true → findings (seen_by inside c) x ≡ findings c x
