-- Sources may be shared with other threads.
use Rattle.std.proofs.Crossing.{crosses}
use denote.Param.SendFields.{declared_sync}
use denote.Param.Send.{IsSync, sendable}
use Rattle.type_kinds.proofs.atom.Atom.TheSendSync as Atom
use Rattle.type_kinds.proofs.list.List.TheSendSync as Listed
use Rattle.type_kinds.proofs.shared.Shared.TheSendSync as Shared
use Rattle.type_kinds.specs.contracts.place.Place as Place
use Rattle.core_ast.proofs.syntax.FunName.TheSendSync as Name
use Rattle.core_ast.specs.contracts.syntax.Expr as Expr
use Rattle.core_ast.specs.contracts.syntax.FunDefOf as FunDefOf
use Rattle.core_ast.specs.contracts.syntax.Module as Module
use Rattle.core_ast.specs.contracts.syntax.Note as Note
use Rattle.core_scope.specs.contracts.checked.Checked as Checked
use Rattle.table_file.specs.contracts.digests.Digest as Digest
use Rattle.table_keep.specs.contracts.source.Source as Source
use Rattle.analysis_crew.proofs.Crossing.{def_send, def_sync}

place_sync : IsSync Place.the_row
place_sync = search (crosses, sendable) depth 60 fits 20000

note_sync : IsSync Note.the_row
note_sync = search (crosses, sendable) depth 60 fits 20000

module_sync : IsSync Module.the_row
module_sync = declared_sync Module.the_type (Atom.the_sync, (Listed.the_sync _ Name.the_sync, (Listed.the_sync _ place_sync, (Listed.the_sync _ (Shared.the_sync (FunDefOf.the_row Expr.the_row) def_send def_sync), (note_sync, tt)))))

checked_sync : IsSync Checked.the_row
checked_sync = declared_sync Checked.the_type (module_sync, tt)

digest_sync : IsSync Digest.the_row
digest_sync = search (crosses, sendable) depth 60 fits 20000

pub source_sync : IsSync Source.the_row
source_sync = declared_sync Source.the_type (checked_sync, (digest_sync, (search sendable, tt)))
