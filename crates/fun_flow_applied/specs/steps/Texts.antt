-- What of the text of modules is listed.
use Rattle.std.specs.Prelude.{◌≡◌, ℕ, List, Option, option_map}
use Rattle.std.specs.BTreeMap.{BTreeMap, get}
use Rattle.std.specs.Borrow.{Bor}
use Rattle.std.specs.List.{AllZip}
use Rattle.std.specs.Ordering.{nat_cmp}
use Rattle.core_ast.specs.Model as m
use Rattle.core_ast.specs.declared.syntax.FunName.{FunName}
use Rattle.core_lines.specs.Lines.{lines_of}
use Rattle.core_scope.specs.Asks.{function_name}
use Rattle.type_lattice_model.specs.Values.{Local}
use Rattle.core_meaning.specs.Programs.{Program, locals_of}
use Rattle.fun_flow_answers.specs.Listed.{defined_with}
use Rattle.fun_flow_applied.specs.declared.module_text.ModuleText.{ModuleText}

-- the name of a definition
abbrev pub name_of : Local → FunName
name_of d = function_name d.name d.arity

-- the name of the first of these definitions that has the label
abbrev pub name_with : m.Defs → (label : ℕ) → Option FunName
name_with ds l = option_map name_of (defined_with (locals_of ds) l)

-- what a map of names has at a label
abbrev pub name_at : BTreeMap ℕ (Bor FunName) → (label : ℕ) → Option FunName
name_at names l = option_map (λ (f : Bor FunName). f.now) (get nat_cmp names l)

-- A module's name, the lines of its nodes, and the names of its definitions by their labels.
pub record IsTextOf (x : m.Module) (t : ModuleText) : Type 0 where
  pub home_so : t.home.now ≡ x.name
  pub lines_so : t.lines ≡ lines_of x
  pub definitions_so : (l : ℕ) → name_at t.definitions l ≡ name_with x.defs l

-- those of modules, one after another
abbrev pub AreTextsOf : Program → List ModuleText → Type 0
AreTextsOf U ts = AllZip IsTextOf U ts
