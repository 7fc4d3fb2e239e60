use Rattle.call_graph.proofs.OutsideCalls.{inside_or_outside, outside_exact}
use Rattle.call_graph.proofs.laws.outside_laws.Goals as goal

pub returns : goal.returns
returns c = record { either = λ xs f home name stands other. inside_or_outside xs f home name stands other; exact = λ xs f home name. outside_exact xs f home name }
