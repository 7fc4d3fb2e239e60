use Rattle.std.proofs.Common.{◌≡◌, ◌++◌, drop}
use Rattle.cons_gen_rows.proofs.variables.Variables.push_all.Given as goal

abbrev pub invariant-loop-name : goal.invariant-loop-name
invariant-loop-name l = l.self ++ drop l.name-index l.bindings ≡ l.fn.self ++ l.bindings
