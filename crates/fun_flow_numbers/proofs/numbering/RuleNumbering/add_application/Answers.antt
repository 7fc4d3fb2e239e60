use Rattle.fun_flow_numbers.proofs.Growth.{application_added, numbering_kept}
use Rattle.fun_flow_numbers.proofs.numbering.RuleNumbering.add_application.Goals as goal

pub returns-in-Ok : goal.returns-in-Ok
returns-in-Ok c = λ table rules before.
    application_added table rules c.place-2.new.self
    (numbering_kept table rules c.place.new.self c.place-2.new.self c.in_ok-place.ensures.keeps (numbering_kept table rules c.args.self.now c.place.new.self c.in_ok-operator.ensures.keeps before))
    c.push.new.self (record { operator = c.in_ok-operator.operator; arity = c.in_ok-arity.arity; place = c.in_ok-place.place }) c.args.operator c.args.count c.args.home c.args.label c.in-Ok.ensures.items
    (record { operator = c.in_ok-place.ensures.keeps.places c.in_ok-operator.operator c.args.operator c.in_ok-operator.ensures.number; arity = c.in_ok-arity.ensures; place = c.in_ok-place.ensures.number })
