-- The components of a work: their parts, and which ones each calls.
use Rattle.std.specs.Prelude.{ℕ, List, []}
use Rattle.comp_rounds.specs.declared.parts.CompPart.{CompPart}
use Rattle.comp_rounds.specs.declared.work.CompWork.{CompWork}

abbrev pub parts_of : CompWork → List CompPart
parts_of work = work.parts

abbrev pub callees_of : CompWork → List (List ℕ)
callees_of work = work.callees

-- a part of no functions, which stands past the last part
abbrev pub no_part : CompPart
no_part = record { members = []; fixed = []; callees = [] }
