use Rattle.std.proofs.lemmas.Result.{IfOk-weaker}
use Rattle.cons_gen_rows.proofs.VariableLaws.{slots_sliced}
use Rattle.cons_gen_rows.proofs.variables.Variables.slots_since.Goals as goal

pub returns : goal.returns
returns c = IfOk-weaker c.from_slice.result _ _ (λ got e. slots_sliced c.self.inside.names c.self.inside.slots c.as_slice.result.now got c.args.self.now c.args.len c.min-len.result c.len.result c.self.view_is c.self.invariant c.len.ensures
    c.min-len.ensures c.as_slice.ensures e) c.from_slice.ensures
