use Rattle.std.proofs.Common.{arith, false}
use Rattle.core_ast.specs.Tree.{def_tree}
use Rattle.core_ast.specs.steps.Comparing.{compared_def}
use Rattle.core_ast.proofs.SameItems.{through, defs_same, begun, one_more, unlike, alike, other_length}
use Rattle.core_ast.proofs.SameForms.{along}
use Rattle.core_ast.proofs.comparing.same_definitions.Goals as goal

pub loop-i-init : goal.loop-i-init
loop-i-init c = begun _ _ _ c.if-a-b.false

pub loop-i-preserved : goal.loop-i-preserved
loop-i-preserved c = one_more _ _ _ _ _ _ _ c.loop-i-test.true c.loop-i.invariant c.index-a-i.is c.index-b-i.is
    (along (λ d. compared_def false (def_tree d)) _ _ _ _ _ c.get.ensures c.get-in-loop-i.ensures c.same_definition.ensures) c.if-not-same_definition.false

pub returns-then-not-same_definition : goal.returns-then-not-same_definition
returns-then-not-same_definition c = through _ (defs_same false _ _) (unlike _ _ _ _ _ _ _ c.loop-i-test.true c.loop-i.invariant c.index-a-i.is c.index-b-i.is
    (along (λ d. compared_def false (def_tree d)) _ _ _ _ _ c.get.ensures c.get-in-loop-i.ensures c.same_definition.ensures) c.if-not-same_definition.true)

pub returns-then-a-b : goal.returns-then-a-b
returns-then-a-b c = through _ (defs_same false _ _) (other_length _ _ _ c.if-a-b.true)

pub returns : goal.returns
returns c = through _ (defs_same false _ _) (alike _ _ _ _ c.loop-i.invariant (omega arith))
