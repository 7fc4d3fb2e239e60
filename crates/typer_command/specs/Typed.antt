-- The typings that are printed, and what is promised of them.
use Rattle.std.specs.Prelude.{◌≡◌, ℕ, List, map, Some}
use Rattle.std.specs.List.{flat_map, zip}
use Rattle.type_kinds.specs.declared.atom.Atom.{Atom}
use Rattle.core_ast.specs.Model as m
use Rattle.core_ast.specs.declared.syntax.FunName.{FunName}
use Rattle.core_scope.specs.Names.{defined_names}
use Rattle.type_lattice_model.specs.Values.{Value, Values}
use Rattle.cons_tree.specs.declared.parts.Summary.{Summary}
use Rattle.core_meaning.specs.Meaning.{gave, Trace, Among}
use Rattle.core_meaning.specs.Programs.{top_function}
use Rattle.core_meaning.specs.Runs.{Run}
use Rattle.sound_laws.specs.Knowledge.{Within}
use Rattle.analysis_typings.specs.Typings.{AreTypings}
use Rattle.typer_lines.specs.declared.typing.Typing.{Typing}
use Rattle.typer_lines.specs.Lines.{IsTyping, typing_line}

-- the functions of a module with their strict signatures, in the order of the text
abbrev pub typings_in : (home : Atom) → List FunName → List Summary → List Typing
typings_in home fs ss = map (λ p. record { home = home; name = p.0; sig = p.1.strict }) (zip fs ss)

-- those of all modules, in the order in which they are passed
abbrev pub typings_of : List m.Module → List (List Summary) → List Typing
typings_of xs found = flat_map (λ p. typings_in p.0.name (defined_names p.0.defs) p.1) (zip xs found)

-- These are the typings of all functions that the modules define: each has the strict signature of the summary that an analysis of these
-- modules together finds, where nothing is known of others.
pub record AreTypingsOf (xs : List m.Module) (ts : List Typing) : Type 0 where
  pub summaries : List (List Summary)
  pub found : AreTypings xs summaries
  pub typings_so : ts ≡ typings_of xs summaries

-- a line for each
abbrev pub lines_of : List Typing → List ℕ
lines_of ts = flat_map typing_line ts

-- The line is that of this typing and of no other, so whoever reads it has the module, the name and the signature again.
pub record ReadsBack (t : Typing) : Type 0 where
  pub is : IsTyping t
  pub alone : (s : Typing) → IsTyping s → typing_line s ≡ typing_line t → s ≡ t

-- The typing is true of every run of the modules, of any stage: the arguments and the value of each call of the function are of its types.
abbrev pub HoldsInRuns : List m.Module → Typing → Type 0
HoldsInRuns xs t =
    (stage : ℕ) (tr : Trace) → Run xs stage tr → (c : Value) (vs : Values) (v : Value) → top_function xs t.home t.name ≡ Some c → Among (gave c vs v) tr → Within t.sig vs v
