use Rattle.fun_flow_numbers.proofs.Names.{name_past, name_there, one_position}
use Rattle.fun_flow_numbers.proofs.laws.names_and_positions.Goals as goal

pub returns : goal.returns
returns c = record { there = name_there; past = name_past; one = one_position }
