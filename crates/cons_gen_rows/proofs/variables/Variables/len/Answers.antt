use Rattle.std.proofs.Common.{length, sym, ap, ◌∙◌}
use Rattle.cons_gen_rows.proofs.VariableLaws.{zip_length}
use Rattle.cons_gen_rows.proofs.variables.Variables.len.Goals as goal

pub returns : goal.returns
returns c = c.len.ensures ∙ sym (zip_length c.self.inside.names c.self.inside.slots c.self.invariant) ∙ ap length c.self.view_is
