use Rattle.std.proofs.Common.{◌≡◌, get_or, sym, subst}
use Rattle.core_ast.specs.declared.syntax.FunDefOf.{FunDefOf}
use Rattle.core_ast.specs.declared.syntax.Expr.{Expr}
use Rattle.core_scope.proofs.WalkExits.{defs_round}
use Rattle.core_scope.proofs.checking.walk_definitions.Goals as goal

pub loop-def-preserved : goal.loop-def-preserved
loop-def-preserved c =
    let P : FunDefOf Expr → Type 0 = λ z. z ≡ get_or c.args.defs.now c.loop-def.def-index z in
    defs_round c.loop-def.walk c.arity.new.self c.walk_under.new.walk _ c.args.defs.now c.loop-def.def-index c.get-def.result.now c.as_slice.result.now c.get.result.now c.loop-def-test.true
    (subst P (sym c.get-def.ensures) c.def-item.is) c.arity.ensures c.as_slice.ensures c.get.ensures c.in_ok-walk_under.ensures
    c.loop-def.invariant
