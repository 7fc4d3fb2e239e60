use Rattle.std.proofs.Common.{◌≡◌, drop, map, false}
use Rattle.type_kinds.specs.declared.atom.Atom.{Atom}
use Rattle.core_ast.specs.declared.syntax.FunName.{FunName}
use Rattle.cons_tree.specs.Callees.{found}
use Rattle.comp_rounds.specs.Members.{function_of}
use Rattle.comp_rounds.specs.Rounds.{is_member}
use Rattle.comp_rounds.specs.Turns.{AreEntered}
use Rattle.comp_rounds.proofs.entering.enter_changed.Given as goal

abbrev pub invariant-loop-number : goal.invariant-loop-number
invariant-loop-number l = record {
  entered : AreEntered (map function_of l.members) l.signatures (found l.known) (drop l.number-index l.changed);
  others : (h : Atom) (f : FunName) → is_member (map function_of l.members) h f ≡ false → found l.known h f ≡ found l.fn.known h f;
}
