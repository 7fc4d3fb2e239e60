-- How sets of functions and lists of variables are stored.
use Rattle.std.specs.Prelude.{ℕ, List}
use Rattle.std.specs.Coded.{Coded, coded×, coded_list, coded_ℕ}
use Rattle.type_kinds.specs.declared.atom.Atom.{Atom}
use Rattle.core_ast.specs.declared.syntax.FunName.{FunName}
use Rattle.core_ast.specs.contracts.syntax.FunName as fun_name

abbrev pub names_code : Coded (List FunName)
names_code = coded_list (fun_name.the_row).coded

abbrev pub members_code : Coded (List (Atom × List FunName))
members_code = coded_list (coded× (coded_list coded_ℕ) names_code)

abbrev pub variables_code : Coded (List (Atom × ℕ))
variables_code = coded_list (coded× (coded_list coded_ℕ) coded_ℕ)
