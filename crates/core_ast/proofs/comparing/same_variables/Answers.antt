use Rattle.std.proofs.Common.{arith}
use Rattle.core_ast.proofs.SameItems.{begun, one_more, unlike, alike, other_length}
use Rattle.core_ast.proofs.comparing.same_variables.Goals as goal

pub loop-i-init : goal.loop-i-init
loop-i-init c = begun _ _ _ c.if-a-b.false

pub loop-i-preserved : goal.loop-i-preserved
loop-i-preserved c = one_more _ _ _ _ _ _ _ c.loop-i-test.true c.loop-i.invariant c.index-a-i.is c.index-b-i.is c.same_variable.ensures c.if-not-same_variable.false

pub returns-then-not-same_variable : goal.returns-then-not-same_variable
returns-then-not-same_variable c = unlike _ _ _ _ _ _ _ c.loop-i-test.true c.loop-i.invariant c.index-a-i.is c.index-b-i.is c.same_variable.ensures c.if-not-same_variable.true

pub returns-then-a-b : goal.returns-then-a-b
returns-then-a-b c = other_length _ _ _ c.if-a-b.true

pub returns : goal.returns
returns c = alike _ _ _ _ c.loop-i.invariant (omega arith)
