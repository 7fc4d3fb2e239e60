use Rattle.fun_flow_numbers.proofs.Growth.{flow_added, numbering_kept}
use Rattle.fun_flow_numbers.proofs.numbering.RuleNumbering.add_flow.Goals as goal

pub returns-in-Ok : goal.returns-in-Ok
returns-in-Ok c = λ table rules before.
    flow_added table rules c.place-2.new.self
    (numbering_kept table rules c.place.new.self c.place-2.new.self c.in_ok-to.ensures.keeps (numbering_kept table rules c.args.self.now c.place.new.self c.in_ok-from.ensures.keeps before))
    c.push.new.self (record { from = c.in_ok-from.from; to = c.in_ok-to.to }) c.args.from c.args.to c.in-Ok.ensures.items
    (record { from = c.in_ok-to.ensures.keeps.places c.in_ok-from.from c.args.from c.in_ok-from.ensures.number; to = c.in_ok-to.ensures.number })
