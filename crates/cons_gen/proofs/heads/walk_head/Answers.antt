use Rattle.std.proofs.Common.{refl}
use Rattle.std.proofs.lemmas.Result.{on_ok_weaker}
use Rattle.cons_gen.proofs.MadeExits.{heads_so}
use Rattle.cons_gen.proofs.heads.walk_head.Goals as goal

pub returns : goal.returns
returns c =
    on_ok_weaker c.holds.result
    (λ five.
    heads_so c.args.context.now c.args.made.now c.walk_outer.new.made c.all_since.new.self c.walk_expression.new.made c.all_since-2.new.self c.holds.new.self c.args.args.now c.args.clause.now c.as_slice.result.now c.all_since.new.self.next
    c.requires c.as_slice.ensures c.in_ok-walk_outer.ensures c.in_ok-all_since.ensures
    c.in_ok-walk_expression.ensures c.in_ok-all_since-2.ensures refl five)
    c.holds.ensures
