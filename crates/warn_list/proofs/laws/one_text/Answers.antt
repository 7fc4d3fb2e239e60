use Rattle.std.proofs.Common.{ap, sym, ◌∙◌}
use Rattle.warn_list.specs.Order.{stands_before}
use Rattle.warn_list.specs.Lines.{lines_of}
use Rattle.warn_list.proofs.OneOrder.{one_stable_sort}
use Rattle.warn_list.proofs.FindingOrder.{in_order}
use Rattle.warn_list.proofs.laws.one_text.Goals as goal

pub returns : goal.returns
returns c = λ home findings one other a b. a.written ∙ ap (lines_of home) (one_stable_sort stands_before in_order findings a.ordered b.ordered a.in_order.sorted b.in_order.sorted a.in_order.stable b.in_order.stable) ∙ sym b.written
