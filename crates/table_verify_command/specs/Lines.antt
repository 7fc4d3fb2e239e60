-- The lines of the program, and the statuses of tables that are rejected.
use Rattle.std.specs.Prelude.{ℕ, List, ◌++◌, codes}
use Rattle.std.specs.Fmt.{decimal}
use Rattle.type_kinds.specs.declared.atom.Atom.{Atom}
use Rattle.type_kinds.specs.Quoted.{quoted}
use Rattle.analysis_sources.specs.declared.refusals.SourceFault.{SourceFault}
use Rattle.analysis_sources.specs.declared.refusals.RefusalName.TheVariants as r
use Rattle.analysis_sources.specs.Refusals.{line}
use Rattle.analysis_sources.specs.Sources.{of_the_whole}
use Rattle.analysis_answers.specs.declared.run_status.RunStatus.{RunStatus}
use Rattle.analysis_answers.specs.declared.run_status.RunStatus.TheVariants.{Refused}
use Rattle.table_verify_laws.specs.Rules.{TableRule, rule_number}
use Rattle.table_verify_laws.specs.Rules.TableRule.{same_modules, same_source, same_functions, closed}

abbrev pub usage_line : List ℕ
usage_line = line (codes "usage: table_verify make CERT FILE.. | check T CERT FILE..")

-- the table is accepted
abbrev pub accepted_line : List ℕ
accepted_line = line (codes "accepted")

-- the name of what a table has that breaks the rule
abbrev pub rule_text : TableRule → List ℕ
rule_text same_modules = codes "OtherModules"
rule_text same_source = codes "OtherSource"
rule_text same_functions = codes "OtherFunctions"
rule_text closed = codes "NotClosed"

-- rejected 32 NotClosed 'm'
abbrev pub rejected_line : TableRule → (home : Atom) → List ℕ
rejected_line r home = line (codes "rejected " ++ decimal (rule_number r) ++ codes " " ++ rule_text r ++ codes " " ++ quoted home)

-- The table, whose name is the word at position 1, breaks the rule.
abbrev pub rejected : TableRule → RunStatus
rejected r = Refused (record { number = rule_number r; word = 1; line = 0; other = 0 })

-- a certificate that is to be written has a count or a length that doesn't fit
abbrev pub too_long : SourceFault
too_long = of_the_whole r.TooLong
