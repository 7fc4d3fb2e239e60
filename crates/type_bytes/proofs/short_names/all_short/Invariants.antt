use Rattle.std.proofs.Common.{◌≡◌, true, take}
use Rattle.std.specs.List.{list_all}
use Rattle.type_bytes.specs.ShortNames.{is_short}
use Rattle.type_bytes.proofs.short_names.all_short.Given as goal

abbrev pub invariant-loop-atom : goal.invariant-loop-atom
invariant-loop-atom l = list_all is_short (take l.atom-index l.atoms) ≡ true
