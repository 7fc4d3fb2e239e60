-- How many results an expression has, and the names of calls.
use Rattle.std.specs.Prelude.{ℕ, List, Option, Some, None}
use Rattle.type_kinds.specs.declared.atom.Atom.{Atom}
use Rattle.core_ast.specs.Model as m
use Rattle.core_ast.specs.Lengths.{how_many}
use Rattle.core_ast.specs.Named.{literal_atom}
use Rattle.core_scope.specs.declared.ask.Ask.{Ask}
use Rattle.core_scope.specs.declared.ask.Ask.TheVariants.{AnyNumber, Exactly}
use Rattle.core_scope.specs.Asks.{call_gives}
use Rattle.cons_gen_rows.specs.Slots.{slots_from}

-- A form that passes on what is asked to its parts has as many results as are asked, and none where any number is.
abbrev pub passed_on : Ask → ℕ
passed_on AnyNumber = 0
passed_on (Exactly n) = n

-- A form that gives whatever is asked gives one value where any number is.
abbrev pub whatever_asked : Ask → ℕ
whatever_asked AnyNumber = 1
whatever_asked (Exactly n) = n

abbrev pub call_results : Ask → (given : Ask) → ℕ
call_results k AnyNumber = whatever_asked k
call_results k (Exactly n) = 1

-- how many results an expression has, where k values are asked of it
abbrev pub result_count : Ask → m.Tree → ℕ
result_count k (m.values i ts) = passed_on k
result_count k (m.chain i ss t) = passed_on k
result_count k (m.case i t cs) = passed_on k
result_count k (m.letrec i ds t) = passed_on k
result_count k (m.try i t xs u ys w) = passed_on k
result_count k (m.receive i cs t u) = passed_on k
result_count k (m.primop i x ts) = whatever_asked k
result_count k (m.call i t u ts) = call_results k (call_gives t u (how_many ts))
result_count k t = 1

-- the slots of the results, where those of the expression begin at s
abbrev pub results : Ask → ℕ → m.Tree → List ℕ
results k s t = slots_from s (result_count k t)

-- the module and the name of a call, where both are literal
abbrev pub both_atoms : Option Atom → Option Atom → Option (Atom × Atom)
both_atoms None y = None
both_atoms (Some x) None = None
both_atoms (Some x) (Some y) = Some (x, y)

abbrev pub call_names : m.Tree → m.Tree → Option (Atom × Atom)
call_names t u = both_atoms (literal_atom t) (literal_atom u)
