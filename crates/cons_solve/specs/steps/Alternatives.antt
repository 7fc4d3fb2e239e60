-- The join of the solutions of alternatives, kept as entries for the slots that the first solution lowered.
use Rattle.std.specs.Prelude.{◌≡◌, List, [], ◌∷◌, Option, Some, None, length}
use Rattle.type_lattice.specs.Types.{AreBelow, join}
use Rattle.cons_tree.specs.Environments.{Types, State, type_at}
use Rattle.cons_tree.specs.Trails.{laid, Within}
use Rattle.cons_tree.specs.declared.slots.TrailEntry.{TrailEntry}

-- an entry with the type that its slot has now
abbrev pub now_of : Types → TrailEntry → TrailEntry
now_of xs f = record { slot = f.slot; ty = type_at xs f.slot }

-- an entry with the join of its type and that of its slot
abbrev pub raised_by : Types → TrailEntry → TrailEntry
raised_by xs f = record { slot = f.slot; ty = join f.ty (type_at xs f.slot) }

-- each entry has the type of its slot
abbrev pub Agrees : List TrailEntry → Types → Type 0
Agrees [] xs = Unit {0}
Agrees (f ∷ fs) xs = (f.ty ≡ type_at xs f.slot) × Agrees fs xs

-- laid onto the array, the entries lower it to the types that they have
pub record KeptLows (lows : List TrailEntry) (begin : Types) : Type 0 where
  pub within : Within (length begin) lows
  pub agrees : Agrees lows (laid lows begin)
  pub below : AreBelow (laid lows begin) begin

-- the entries of the solutions so far, if there was one
abbrev pub Kept : Option (List TrailEntry) → Types → Type 0
Kept None begin = Unit {0}
Kept (Some lows) begin = KeptLows lows begin

-- the join of the solutions so far
abbrev pub best_of : Option (List TrailEntry) → Types → State
best_of None begin = None
best_of (Some lows) begin = Some (laid lows begin)
