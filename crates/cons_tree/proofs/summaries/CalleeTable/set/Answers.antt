use Rattle.cons_tree.proofs.CalleeLaws.{insert_fits}
use Rattle.cons_tree.proofs.summaries.CalleeTable.set.Goals as goal

pub invariant_of-self : goal.invariant_of-self
invariant_of-self c = (
  insert_fits c.insert.result c.self.inside.callees.entries c.insert.new.self.entries c.self.inside.rest c.args.name c.args.callee
      (λ u. u.0) c.insert.ensures.updates c.insert.ensures.err c.requires c.self.invariant.0,
  c.self.invariant.1,
)
