use Rattle.std.proofs.Common.{◌≡◌, map, take}
use Rattle.type_kinds.specs.declared.atom.Atom.{Atom}
use Rattle.core_ast.specs.declared.syntax.FunName.{FunName}
use Rattle.cons_gen_rows.specs.Members as members
use Rattle.comp_rounds.specs.Members.{function_of}
use Rattle.comp_rounds.specs.Rounds.{is_member}
use Rattle.comp_rounds.proofs.rounds.names.Given as goal

abbrev pub invariant-loop-member : goal.invariant-loop-member
invariant-loop-member l = (h : Atom) (f : FunName) → members.is_member l.names h f ≡ is_member (map function_of (take l.member-index l.members)) h f
