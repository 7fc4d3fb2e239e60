use Rattle.module_flow.specs.Flow.{last_round, last_state, world}
use Rattle.module_flow_walk.specs.Contributions.{contributions_of_functions}
use Rattle.module_flow_state.specs.Scopes.{outermost}
use Rattle.module_flow.proofs.Counting as counting
use Rattle.module_flow.proofs.Settling as settling
use Rattle.module_flow_state.proofs.Taking.{settled_takes}
use Rattle.module_flow.proofs.laws.last_state_laws.Goals as goal

pub returns-clause-unchanged : goal.returns-clause-unchanged
returns-clause-unchanged c = λ callees x. settling.last_still c.decision_laws.ensures.same callees x

pub returns-clause-late : goal.returns-clause-late
returns-clause-late c = λ callees x k h. settling.last_unchanged c.decision_laws.ensures.same callees x k h

pub returns-clause-ends : goal.returns-clause-ends
returns-clause-ends c = λ callees x k h. settling.ends c.decision_laws.ensures.same callees x k h

pub returns-clause-labels : goal.returns-clause-labels
returns-clause-labels c = λ callees x. settling.round_labels c.decision_laws.ensures.same callees x (last_round callees x)

pub returns-clause-taken : goal.returns-clause-taken
returns-clause-taken c = λ callees x.
    settled_takes c.decision_laws.ensures.same c.type_facts.ensures (last_state callees x) (contributions_of_functions (world callees x (last_state callees x)) outermost x.defs)
    (settling.last_still c.decision_laws.ensures.same callees x)

pub returns-clause-wholly : goal.returns-clause-wholly
returns-clause-wholly c = λ callees x counts first gives.
    counting.last_wholly counts c.decision_laws.ensures.same c.type_facts.ensures callees x first gives
    (settled_takes c.decision_laws.ensures.same c.type_facts.ensures (last_state callees x) (contributions_of_functions (world callees x (last_state callees x)) outermost x.defs)
    (settling.last_still c.decision_laws.ensures.same callees x))

pub returns-clause-stays_open : goal.returns-clause-stays_open
returns-clause-stays_open c = λ callees x counts first gives l e.
    counting.stays_open counts c.decision_laws.ensures.same c.type_facts.ensures callees x first gives (last_round callees x) l e
