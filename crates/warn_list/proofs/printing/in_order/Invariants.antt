use Rattle.std.proofs.Common.{◌≡◌, map, take, Bor}
use Rattle.warn_list.specs.declared.finding.Finding.{Finding}
use Rattle.warn_list.proofs.printing.in_order.Given as goal

abbrev pub invariant-loop-finding : goal.invariant-loop-finding
invariant-loop-finding l = map (λ (f : Bor Finding). f.now) l.ordered.items ≡ take l.finding-index l.findings
