use Rattle.std.proofs.Common.{◌≡◌, map}
use Rattle.std.specs.List.{range_with_len}
use Rattle.core_make.specs.Modules.{module_text}
use Rattle.core_make.proofs.modules.make.Given as goal

abbrev pub invariant-loop-i : goal.invariant-loop-i
invariant-loop-i l = l.texts ≡ map (module_text l.n) (range_with_len 0 l.i)
