use Rattle.std.proofs.Common.{[]}
use Rattle.fun_flow_places.specs.declared.places.Item.TheVariants.{Anything}
use Rattle.fun_flow_numbers.proofs.Growth.{numbering_begins}
use Rattle.fun_flow_numbers.proofs.numbering.RuleNumbering.new.Goals as goal

pub returns : goal.returns
returns c = λ table.
    c.in_ok-start.ensures table [] Anything c.in_ok-item.ensures.number
    (numbering_begins table (record {
      alloc = c.args.alloc;
      places = c.new-5.result;
      items = c.new-6.result;
      problem = record { starts = c.new.result; flows = c.new-2.result; applications = c.new-3.result; items = c.new-4.result };
    }) c.add_item.new.self
    c.new-6.ensures c.new-4.ensures.items c.new.ensures.items c.new-2.ensures.items c.new-3.ensures.items c.in_ok-item.ensures.adds)
