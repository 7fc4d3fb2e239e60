use Rattle.std.proofs.Common.{◌≡◌, Some}
use Rattle.type_kinds.specs.declared.atom.Atom.{Atom}
use Rattle.core_ast.specs.declared.syntax.FunName.{FunName}
use Rattle.cons_tree.specs.declared.parts.Summary.{Summary}
use Rattle.sound_laws.specs.Knowledge.{summary_of}
use Rattle.table_keep.specs.Model.{trees}
use Rattle.table_verify_laws.specs.Laws.{IsSuccessTyping}
use Rattle.table_verify_laws.specs.Listed.{known_by}
use Rattle.table_verify_laws.proofs.Typings.{known_of_table, known_of_certificate}
use Rattle.table_verify_laws.proofs.laws.rules_are_sound.Goals as goal

pub returns : goal.returns
returns c = λ T C M are keeps.
    let closed = c.rules_close.ensures T C M are keeps in
    let typing : (h : Atom) (f : FunName) (s : Summary) → summary_of (known_by C M h f) ≡ Some s → IsSuccessTyping (trees M) h f s =
    λ h f s known. record {
      strict = λ stage tr run v vs w top among. c.success_typings.ensures.strict (trees M) (known_by C M) are.accepted closed stage tr run h f s v vs w known top among;
      lenient = λ stage tr run v vs w top among. c.success_typings.ensures.lenient (trees M) (known_by C M) are.accepted closed stage tr run h f s v vs w known top among;
    } in (
      λ h e f s there has. typing h f s (known_of_table T C M keeps h e f s there has),
      λ h e f s there has. typing h f s (known_of_certificate T C M keeps h e f s there has),
    )
