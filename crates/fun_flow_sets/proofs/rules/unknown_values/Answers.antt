use Rattle.std.proofs.Common.{refl}
use Rattle.fun_flow_sets.specs.Sets.{may_any}
use Rattle.fun_flow_sets.proofs.rules.unknown_values.Goals as goal

pub returns-clause-everywhere : goal.returns-clause-everywhere
returns-clause-everywhere c U = may_any

pub returns-clause-missing : goal.returns-clause-missing
returns-clause-missing c = refl

pub returns-clause-primops : goal.returns-clause-primops
returns-clause-primops c U home sc k i x ts = refl

pub returns-clause-catches : goal.returns-clause-catches
returns-clause-catches c U home sc k i t = refl

pub returns-clause-unbound : goal.returns-clause-unbound
returns-clause-unbound c x xs sc = refl
