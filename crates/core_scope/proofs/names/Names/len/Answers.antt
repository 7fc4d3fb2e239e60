use Rattle.std.proofs.Common.{sym, ap, ◌∙◌, length}
use Rattle.core_scope.proofs.Tables.{table_length}
use Rattle.core_scope.proofs.names.Names.len.Goals as goal

pub returns : goal.returns
returns g c = c.len.ensures ∙ sym (table_length g.T.PartialEq.eq g.met.T.Eq.laws c.self.inside.numbers.keys c.self.inside.last c.self.inside.bound c.self.invariant) ∙ ap length c.self.view_is
