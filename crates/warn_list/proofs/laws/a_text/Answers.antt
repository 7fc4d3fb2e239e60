use Rattle.std.proofs.Common.{refl}
use Rattle.warn_list.specs.Lines.{lines_of}
use Rattle.warn_list.specs.Order.{stands_before}
use Rattle.warn_list.proofs.FindingOrder.{in_order}
use Rattle.warn_list.proofs.SomeOrder.{stable_sort}
use Rattle.warn_list.proofs.laws.a_text.Goals as goal

pub returns : goal.returns
returns c = λ home findings.
    let s = stable_sort stands_before in_order findings in
    (lines_of home s.0, record { ordered = s.0; in_order = record { same = s.1; sorted = s.2; stable = s.3 }; written = refl })
