-- How parts and outputs are told apart: by their codes.
use Rattle.std.specs.Coded.{Coded}
use Rattle.comp_rounds.specs.declared.parts.CompOut.{CompOut}
use Rattle.comp_rounds.specs.declared.parts.CompPart.{CompPart}
use Rattle.comp_rounds.specs.contracts.parts.CompOut as comp_out
use Rattle.comp_rounds.specs.contracts.parts.CompPart as comp_part

abbrev pub part_code : Coded CompPart
part_code = (comp_part.the_row).coded

abbrev pub output_code : Coded CompOut
output_code = (comp_out.the_row).coded
