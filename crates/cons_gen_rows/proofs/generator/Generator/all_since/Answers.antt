use Rattle.cons_gen_rows.proofs.Adding.{gathers_all}
use Rattle.cons_gen_rows.proofs.generator.Generator.all_since.Goals as goal
use Rattle.std.proofs.lemmas.Result.{on_ok_weaker}

pub returns : goal.returns
returns c = on_ok_weaker c.push.result (gathers_all c.args.self.now c.taken_since.new.self c.push.new.self c.args.start c.in_ok-all.all c.in_ok-all.ensures.taken c.in_ok-all.ensures.left c.taken_since.ensures.next
    c.taken_since.ensures.variables c.taken_since.ensures.functions) c.push.ensures
