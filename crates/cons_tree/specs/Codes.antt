-- How signatures, summaries, callees and tables of them are told apart: by their codes.
use Rattle.std.specs.Coded.{Coded, coded×, coded_list, coded_ℕ}
use Rattle.core_ast.specs.contracts.syntax.FunName as fun_name
use Rattle.cons_tree.specs.Callees.{HomeCallees, Tables}
use Rattle.cons_tree.specs.declared.parts.Callee.{Callee}
use Rattle.cons_tree.specs.declared.parts.Sig.{Sig}
use Rattle.cons_tree.specs.declared.parts.Summary.{Summary}
use Rattle.cons_tree.specs.contracts.parts.Callee as callee
use Rattle.cons_tree.specs.contracts.parts.Sig as sig
use Rattle.cons_tree.specs.contracts.parts.Summary as summary

abbrev pub signature_code : Coded Sig
signature_code = (sig.the_row).coded

abbrev pub summary_code : Coded Summary
summary_code = (summary.the_row).coded

abbrev pub callee_code : Coded Callee
callee_code = (callee.the_row).coded

abbrev pub callees_code : Coded HomeCallees
callees_code = coded× (coded_list (coded× (fun_name.the_row).coded callee_code)) callee_code

abbrev pub tables_code : Coded Tables
tables_code = coded_list (coded× (coded_list coded_ℕ) callees_code)
