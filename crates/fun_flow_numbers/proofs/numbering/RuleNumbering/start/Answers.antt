use Rattle.std.proofs.Common.{ap, ◌∙◌, slice_get}
use Rattle.fun_flow_numbers.proofs.Growth.{numbering_kept, start_added}
use Rattle.fun_flow_numbers.proofs.numbering.RuleNumbering.start.Goals as goal

pub returns-in-Ok : goal.returns-in-Ok
returns-in-Ok c = λ table rules x at before.
    start_added table rules c.place.new.self (numbering_kept table rules c.args.self.now c.place.new.self c.in_ok-place.ensures.keeps before) c.push.new.self
    (record { place = c.in_ok-place.place; item = c.args.item }) c.args.place x c.in-Ok.ensures.items
    (record { place = c.in_ok-place.ensures.number; item = ap (λ l. slice_get l c.args.item) c.in_ok-place.ensures.keeps.items ∙ at })
