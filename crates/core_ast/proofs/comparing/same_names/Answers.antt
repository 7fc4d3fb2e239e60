use Rattle.std.proofs.Common.{arith}
use Rattle.core_ast.proofs.SameItems.{through, names_same, begun, one_more, unlike, alike, other_length}
use Rattle.core_ast.proofs.comparing.same_names.Goals as goal

pub loop-i-init : goal.loop-i-init
loop-i-init c = begun _ _ _ c.if-a-b.false

pub loop-i-preserved : goal.loop-i-preserved
loop-i-preserved c = one_more _ _ _ _ _ _ _ c.loop-i-test.true c.loop-i.invariant c.index-a-i.is c.index-b-i.is c.same_name.ensures c.if-not-same_name.false

pub returns-then-not-same_name : goal.returns-then-not-same_name
returns-then-not-same_name c = through _ (names_same _ _) (unlike _ _ _ _ _ _ _ c.loop-i-test.true c.loop-i.invariant c.index-a-i.is c.index-b-i.is c.same_name.ensures c.if-not-same_name.true)

pub returns-then-a-b : goal.returns-then-a-b
returns-then-a-b c = through _ (names_same _ _) (other_length _ _ _ c.if-a-b.true)

pub returns : goal.returns
returns c = through _ (names_same _ _) (alike _ _ _ _ c.loop-i.invariant (omega arith))
