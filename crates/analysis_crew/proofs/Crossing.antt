-- Parts of components, their outputs and their work may go to other threads, and be shared with them.
use Rattle.std.proofs.Common.{[], ◌∷◌}
use denote.RattleType.{RattleType}
use denote.Struct.Field.{bool-field}
use denote.Struct.Tuple.{TupleAt}
use denote.Param.SendFields.{declared_send, declared_sync}
use denote.Param.Send.{IsSend, IsSync, sendable, view_send, view_sync}
use Rattle.std.proofs.Crossing.{crosses}
use Rattle.std.proofs.alloc.Global.TheSendSync as Global
use Rattle.std.below.std_heap.proofs.GlobalAllocator.TheSendSync as Heap
use Rattle.std.proofs.hash.BuildHasherDefault.TheSendSync as Default
use Rattle.std.proofs.hash.FoldHasher.TheSendSync as Fold
use Rattle.std.proofs.vec.Vec.TheSendSync as Vec
use Rattle.indexmap.proofs.map.IndexMap.TheSendSync as Map
use Rattle.std.below.core.specs.contracts.clone.Clone+copy.TheImpl as Copied
use Rattle.std.specs.contracts.alloc.Global as Allocator
use Rattle.std.specs.contracts.impls.GlobalAllocator.TheImpl as Allocates
use Rattle.std.specs.contracts.hash.BuildHasherDefault as Made
use Rattle.std.specs.contracts.hash.FoldHasher as Hasher
use Rattle.std.specs.contracts.prelude.BuildHasherDefaultBuildHasher.TheImpl as Makes
use Rattle.std.specs.contracts.prelude.FoldHasherHasher.TheImpl as Hashes
use Rattle.indexmap.specs.contracts.map.IndexMap as IndexMap
use Rattle.core_ast.specs.contracts.syntax.FunName as FunName
use Rattle.core_ast.specs.contracts.syntax.FunNameHash.TheImpl as NameHash
use Rattle.core_ast.specs.contracts.syntax.FunNamePartialEq.TheImpl as NameEq
use Rattle.type_kinds.specs.contracts.atom.Atom as AtomType
use Rattle.type_kinds.specs.contracts.atom.AtomHash.TheImpl as AtomHash
use Rattle.type_kinds.specs.contracts.atom.AtomPartialEq.TheImpl as AtomEq
use Rattle.type_kinds.proofs.atom.Atom.TheSendSync as Atom
use Rattle.type_kinds.proofs.list.List.TheSendSync as Listed
use Rattle.core_ast.proofs.syntax.FunName.TheSendSync as Name
use Rattle.type_lattice_trees.proofs.node.PartsOf.TheSendSync as Parts
use Rattle.type_lattice_trees.proofs.node.Node.TheLaws.TheKnot.{crosses_both}
use Rattle.type_lattice.specs.contracts.types.Ty as Ty
use Rattle.cons_tree.specs.contracts.parts.Sig as Sig
use Rattle.cons_tree.specs.contracts.parts.Callee as Callee
use Rattle.cons_tree.specs.contracts.summaries.CalleeTable as CalleeTable
use Rattle.cons_tree.specs.contracts.summaries.Summaries as Summaries
use Rattle.std.proofs.option.Option.TheSendSync as Maybe
use Rattle.type_kinds.proofs.boxed.Boxed.TheSendSync as Boxed
use Rattle.type_kinds.proofs.shared.Shared.TheSendSync as Shared
use Rattle.type_kinds.specs.contracts.list.List as ListType
use Rattle.core_ast.proofs.syntax.Form.TheLaws.TheKnot as Tree
use Rattle.core_ast.proofs.syntax.FunDefOf.TheSendSync as Definition
use Rattle.core_ast.proofs.syntax.FunOf.TheSendSync as Fun
use Rattle.core_ast.proofs.syntax.Literal.TheSendSync as Literal
use Rattle.core_ast.proofs.syntax.Mark.TheSendSync as Mark
use Rattle.core_ast.proofs.syntax.StepOf.TheSendSync as Step
use Rattle.core_ast.proofs.syntax.TryOf.TheSendSync as Try
use Rattle.core_ast.proofs.syntax.VarName.TheSendSync as Variable
use Rattle.core_ast.specs.contracts.syntax.Expr as Expr
use Rattle.core_ast.specs.contracts.syntax.FunDefOf as FunDefOf
use Rattle.cons_tree.specs.contracts.parts.Summary as Summary
use Rattle.comp_rounds.specs.contracts.members.Member as Member
use Rattle.comp_rounds.specs.contracts.parts.CompPart as CompPart
use Rattle.comp_rounds.specs.contracts.parts.CompOut as CompOut
use Rattle.comp_rounds.specs.contracts.work.CompWork as CompWork

callee_send : IsSend Callee.the_row
callee_send = search (Vec.the_send, Listed.the_send, Parts.the_send, Parts.the_sync, crosses, crosses_both, sendable) depth 60 fits 20000

callee_sync : IsSync Callee.the_row
callee_sync = search (Vec.the_sync, Listed.the_sync, Parts.the_send, Parts.the_sync, crosses, crosses_both, sendable) depth 60 fits 20000

names_send : (V : RattleType) → IsSend V → IsSend (IndexMap.the_row FunName.the_row V (Made.the_row Hasher.the_row) Allocator.the_row Hasher.the_row NameEq.ghosts NameHash.ghosts
    (Makes.ghosts Hasher.the_row Hashes.ghosts Makes.no_dict (Copied.ghosts Hasher.the_row) Makes.no_dict) Hashes.ghosts Allocates.ghosts)
names_send V s = Map.the_send FunName.the_row V (Made.the_row Hasher.the_row) Allocator.the_row Hasher.the_row NameEq.ghosts NameHash.ghosts
    (Makes.ghosts Hasher.the_row Hashes.ghosts Makes.no_dict (Copied.ghosts Hasher.the_row) Makes.no_dict) Hashes.ghosts Allocates.ghosts
    Name.the_send s (Default.the_send Hasher.the_row Fold.the_send) Global.the_send Heap.the_frees

names_sync : (V : RattleType) → IsSync V → IsSync (IndexMap.the_row FunName.the_row V (Made.the_row Hasher.the_row) Allocator.the_row Hasher.the_row NameEq.ghosts NameHash.ghosts
    (Makes.ghosts Hasher.the_row Hashes.ghosts Makes.no_dict (Copied.ghosts Hasher.the_row) Makes.no_dict) Hashes.ghosts Allocates.ghosts)
names_sync V s = Map.the_sync FunName.the_row V (Made.the_row Hasher.the_row) Allocator.the_row Hasher.the_row NameEq.ghosts NameHash.ghosts
    (Makes.ghosts Hasher.the_row Hashes.ghosts Makes.no_dict (Copied.ghosts Hasher.the_row) Makes.no_dict) Hashes.ghosts Allocates.ghosts
    Name.the_sync s (Default.the_sync Hasher.the_row Fold.the_sync) Global.the_sync

atoms_send : (V : RattleType) → IsSend V → IsSend (IndexMap.the_row AtomType.the_row V (Made.the_row Hasher.the_row) Allocator.the_row Hasher.the_row AtomEq.ghosts AtomHash.ghosts
    (Makes.ghosts Hasher.the_row Hashes.ghosts Makes.no_dict (Copied.ghosts Hasher.the_row) Makes.no_dict) Hashes.ghosts Allocates.ghosts)
atoms_send V s = Map.the_send AtomType.the_row V (Made.the_row Hasher.the_row) Allocator.the_row Hasher.the_row AtomEq.ghosts AtomHash.ghosts
    (Makes.ghosts Hasher.the_row Hashes.ghosts Makes.no_dict (Copied.ghosts Hasher.the_row) Makes.no_dict) Hashes.ghosts Allocates.ghosts
    Atom.the_send s (Default.the_send Hasher.the_row Fold.the_send) Global.the_send Heap.the_frees

atoms_sync : (V : RattleType) → IsSync V → IsSync (IndexMap.the_row AtomType.the_row V (Made.the_row Hasher.the_row) Allocator.the_row Hasher.the_row AtomEq.ghosts AtomHash.ghosts
    (Makes.ghosts Hasher.the_row Hashes.ghosts Makes.no_dict (Copied.ghosts Hasher.the_row) Makes.no_dict) Hashes.ghosts Allocates.ghosts)
atoms_sync V s = Map.the_sync AtomType.the_row V (Made.the_row Hasher.the_row) Allocator.the_row Hasher.the_row AtomEq.ghosts AtomHash.ghosts
    (Makes.ghosts Hasher.the_row Hashes.ghosts Makes.no_dict (Copied.ghosts Hasher.the_row) Makes.no_dict) Hashes.ghosts Allocates.ghosts
    Atom.the_sync s (Default.the_sync Hasher.the_row Fold.the_sync) Global.the_sync

table_send : IsSend CalleeTable.the_row
table_send = view_send CalleeTable.TheInside.the_row _ _ _ _ (declared_send CalleeTable.TheInside.the_type (names_send Callee.the_row callee_send, (callee_send, tt)))

table_sync : IsSync CalleeTable.the_row
table_sync = view_sync CalleeTable.TheInside.the_row _ _ _ _ (declared_sync CalleeTable.TheInside.the_type (names_sync Callee.the_row callee_sync, (callee_sync, tt)))

pub summaries_send : IsSend Summaries.the_row
summaries_send = view_send Summaries.TheInside.the_row _ _ _ _ (declared_send Summaries.TheInside.the_type (Global.the_send, (atoms_send CalleeTable.the_row table_send, (callee_send, tt))))

pub summaries_sync : IsSync Summaries.the_row
summaries_sync = view_sync Summaries.TheInside.the_row _ _ _ _ (declared_sync Summaries.TheInside.the_type (Global.the_sync, (atoms_sync CalleeTable.the_row table_sync, (callee_sync, tt))))

pub def_send : IsSend (FunDefOf.the_row Expr.the_row)
def_send = search (
  Maybe.the_field_send,
  Maybe.the_send,
  Definition.the_field_send,
  Definition.the_send,
  Name.the_field_send,
  Fun.the_send,
  Literal.the_field_send,
  Mark.the_field_send,
  Step.the_send,
  Try.the_send,
  Variable.the_field_send,
  Atom.the_send,
  Boxed.the_send,
  Listed.the_send,
  crosses,
  Tree.crosses,
  sendable,
) depth 60 fits 20000

pub def_sync : IsSync (FunDefOf.the_row Expr.the_row)
def_sync = search (
  Maybe.the_field_sync,
  Maybe.the_sync,
  Definition.the_field_sync,
  Definition.the_sync,
  Name.the_field_sync,
  Fun.the_sync,
  Literal.the_field_sync,
  Mark.the_field_sync,
  Step.the_sync,
  Try.the_sync,
  Variable.the_field_sync,
  Atom.the_sync,
  Boxed.the_sync,
  Listed.the_sync,
  crosses,
  Tree.crosses,
  sendable,
) depth 60 fits 20000

member_send : IsSend Member.the_row
member_send = declared_send Member.the_type (Atom.the_send, (Shared.the_send (FunDefOf.the_row Expr.the_row) def_send def_sync, (search sendable, tt)))

summary_send : IsSend Summary.the_row
summary_send = search (Vec.the_send, Listed.the_send, Parts.the_send, Parts.the_sync, crosses, crosses_both, sendable) depth 60 fits 20000

member_sync : IsSync Member.the_row
member_sync = declared_sync Member.the_type (Atom.the_sync, (Shared.the_sync (FunDefOf.the_row Expr.the_row) def_send def_sync, (search sendable, tt)))

summary_sync : IsSync Summary.the_row
summary_sync = search (Vec.the_sync, Listed.the_sync, Parts.the_send, Parts.the_sync, crosses, crosses_both, sendable) depth 60 fits 20000

listed_send : IsSend (ListType.the_row (TupleAt (40 ∷ 44 ∷ 44 ∷ 41 ∷ []) (AtomType.the_row ∷ FunName.the_row ∷ bool-field.row ∷ [])))
listed_send = search (Listed.the_send, Atom.the_send, Name.the_send, crosses, sendable) depth 60 fits 20000

listed_sync : IsSync (ListType.the_row (TupleAt (40 ∷ 44 ∷ 44 ∷ 41 ∷ []) (AtomType.the_row ∷ FunName.the_row ∷ bool-field.row ∷ [])))
listed_sync = search (Listed.the_sync, Atom.the_sync, Name.the_sync, crosses, sendable) depth 60 fits 20000

pub part_send : IsSend CompPart.the_row
part_send = declared_send CompPart.the_type (Listed.the_send _ member_send, (summaries_send, (Listed.the_send _ (Shared.the_send _ listed_send listed_sync), tt)))

pub out_send : IsSend CompOut.the_row
out_send = declared_send CompOut.the_type (Listed.the_send _ summary_send, tt)

pub part_sync : IsSync CompPart.the_row
part_sync = declared_sync CompPart.the_type (Listed.the_sync _ member_sync, (summaries_sync, (Listed.the_sync _ (Shared.the_sync _ listed_send listed_sync), tt)))

pub out_sync : IsSync CompOut.the_row
out_sync = declared_sync CompOut.the_type (Listed.the_sync _ summary_sync, tt)

pub work_sync : IsSync CompWork.the_row
work_sync = declared_sync CompWork.the_type (Global.the_sync, (Listed.the_sync _ (Shared.the_sync _ part_send part_sync), (search (Listed.the_sync, crosses, sendable) depth 60 fits 20000, tt)))
