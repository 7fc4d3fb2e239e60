use Rattle.std.proofs.Common.{◌≡◌, ◌||◌, drop, map}
use Rattle.type_kinds.specs.declared.atom.Atom.{Atom}
use Rattle.core_ast.specs.declared.syntax.FunName.{FunName}
use Rattle.cons_gen_rows.specs.Members.{is_member as is_own}
use Rattle.comp_rounds.specs.Members.{function_of}
use Rattle.comp_rounds.specs.Rounds.{is_member}
use Rattle.analysis_summaries.specs.Functions.{picked}
use Rattle.table_verify_rules.proofs.functions.own_functions.Given as goal

abbrev pub invariant-loop-number : goal.invariant-loop-number
invariant-loop-number l =
    (h : Atom) (f : FunName) → (is_own l.own h f || is_member (picked (map function_of l.members) (drop l.number-index l.numbers)) h f)
    ≡ is_member (picked (map function_of l.members) l.numbers) h f
