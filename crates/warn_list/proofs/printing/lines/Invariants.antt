use Rattle.std.proofs.Common.{◌≡◌, map, take, Bor}
use Rattle.warn_list.specs.declared.finding.Finding.{Finding}
use Rattle.warn_list.specs.Lines.{lines_of}
use Rattle.warn_list.proofs.printing.lines.Given as goal

abbrev pub invariant-loop-finding : goal.invariant-loop-finding
invariant-loop-finding l = l.out ≡ lines_of l.home (take l.finding-index (map (λ (f : Bor Finding). f.now) l.finding-items))
