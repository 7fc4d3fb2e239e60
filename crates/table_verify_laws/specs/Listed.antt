-- What the entries of a table list: functions with their summaries, found by name; and what is known by entries that list all
-- functions of the modules.
use Rattle.std.specs.Prelude.{Bool, cond, Option, Some, None, List, [], ◌∷◌, map}
use Rattle.type_kinds_sets.specs.Ascending.{merged}
use Rattle.core_ast.specs.Model as m
use Rattle.core_ast.specs.declared.syntax.FunName.{FunName}
use Rattle.core_scope.specs.Names.{defined_names, has_function}
use Rattle.cons_tree.specs.Callees.{same_name}
use Rattle.cons_tree.specs.declared.parts.Summary.{Summary}
use Rattle.cons_tree.specs.declared.parts.Callee.{Callee}
use Rattle.cons_tree.specs.declared.parts.Callee.TheVariants.{Undefined, Unknown}
use Rattle.comp_rounds.specs.Rounds.{Callees, standing}
use Rattle.table_keep.specs.Made.{function_cmp}
use Rattle.table_keep.specs.Model.{Source, Entry, source_of, entry_of}

-- the functions that an entry lists
abbrev pub listed : Entry → List FunName
listed e = map (λ x. x.0) e.result.exports

-- the summary of a function of a list, if it is there
abbrev pub summary_among : List (FunName × Summary) → FunName → Option Summary
summary_among [] f = None
summary_among (x ∷ xs) f = cond (same_name f x.0) (Some x.1) (summary_among xs f)

-- the functions that a module defines: each once, rising
unfoldable pub defined : m.Module → List FunName
defined x = merged function_cmp [] (defined_names x.defs)

-- a function with this summary, or with none, of a module that exports its name or doesn't
abbrev pub callee_listed : (exported : Bool) → Option Summary → Callee
callee_listed exported None = Undefined
callee_listed exported (Some s) = standing exported s

-- what is known of a function by the entry of its module
abbrev pub callee_by : Option Source → Option Entry → FunName → Callee
callee_by None e f = Unknown
callee_by (Some s) None f = Undefined
callee_by (Some s) (Some e) f = callee_listed (has_function s.tree.exports f) (summary_among e.result.exports f)

-- What is known by a certificate of the functions of sources: each that it lists has its summary there, every other name of one of the
-- modules is undefined, and of other modules nothing is known.
abbrev pub known_by : List Entry → List Source → Callees
known_by C M h f = callee_by (source_of M h) (entry_of C h) f
