use Rattle.std.proofs.Common.{◌≡◌, arith}
use Rattle.std.proofs.lemmas.Result.{IfOk-weaker}
use Rattle.core_ast.specs.Named.{literal_atom}
use Rattle.core_ast.specs.Tree.{tree}
use Rattle.fun_flow_rules.proofs.Calls.{named_call}
use Rattle.fun_flow_rules.proofs.applications.walk_called.Goals as goal

pub returns : goal.returns
returns c =
    IfOk-weaker c.walk_found.result _ _ (λ q h. named_call c.args.walk.now c.walk_found.new.walk c.args.label c.args.count c.args.args.now c.in-Some.home.now c.in-Some-atom.name.now (literal_atom (tree c.args.home.now))
    (literal_atom (tree c.args.name.now)) _ q c.in-Some.ensures c.in-Some-atom.ensures (let k = c.in-Ok.ensures in let e : c.in-Ok.arity
    ≡ c.args.count = omega arith in λ i. record { name = c.in_ok-copy.ensures i; arity = e i }) h) c.walk_found.ensures
