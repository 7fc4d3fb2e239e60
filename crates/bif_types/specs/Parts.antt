-- The part of a constraint that a row of the table says of a call's value and arguments.
use Rattle.std.specs.Prelude.{ℕ, Bool, cond, List, map, take}
use Rattle.type_lattice.specs.Types.{Type4, any}
use Rattle.cons_tree.specs.declared.parts.Part.{Part}
use Rattle.cons_tree.specs.declared.parts.Part.TheVariants.{Builtin}
use Rattle.cons_tree.specs.declared.parts.Transfer.{Transfer}
use Rattle.cons_tree.specs.declared.parts.Transfer.TheVariants as transfer
use Rattle.bif_types.specs.declared.bif.Rule.{Rule}
use Rattle.bif_types.specs.declared.bif.Rule.TheVariants as r
use Rattle.bif_types.specs.declared.bif.Bif.{Bif}
use Rattle.bif_types.specs.ArgTypes.{type_of}

-- the types of the arguments
abbrev pub arg_types : Bif → List Type4
arg_types b = map type_of (take b.arity b.args)

-- the transfer of a rule. Quietly, a function that never gives a value may give any
abbrev pub transfer_of : Rule → Bool → Transfer
transfer_of (r.Plain t) quiet = transfer.Plain (type_of t)
transfer_of r.Arith quiet = transfer.Arith
transfer_of r.Abs quiet = transfer.Abs
transfer_of r.Head quiet = transfer.Head
transfer_of r.Tail quiet = transfer.Tail
transfer_of r.Element quiet = transfer.Element
transfer_of (r.Test t) quiet = transfer.Test (type_of t)
transfer_of (r.TestSome t) quiet = transfer.TestSome (type_of t)
transfer_of r.Same quiet = transfer.Same
transfer_of r.Differ quiet = transfer.Differ
transfer_of r.Never quiet = cond quiet (transfer.Plain any) transfer.Never

-- the part of a row, for the slot of the value and those of the arguments
abbrev pub part_of_row : Bif → ℕ → List ℕ → Bool → Part
part_of_row b value args quiet = Builtin value args (arg_types b) (transfer_of b.rule quiet)
