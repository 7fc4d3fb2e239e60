use Rattle.std.proofs.Common.{subst}
use Rattle.fun_flow_numbers.specs.steps.Numbers.{AreApart}
use Rattle.fun_flow_numbers.proofs.Numbers.{are_apart}
use Rattle.fun_flow_numbers.proofs.numbered.Numbered.len.Goals as goal

pub returns-clause-once : goal.returns-clause-once
returns-clause-once g c = subst AreApart c.self.view_is (are_apart g.T.PartialEq.eq g.met.T.Eq.laws g.met.T.Numberable.same c.self.inside.values.keys c.self.invariant)
