use Rattle.std.proofs.Common.{◌≡◌, drop, map}
use Rattle.table_keep.specs.Model.{used_so}
use Rattle.sound_laws_kept.specs.Waves.{any_in, used_homes}
use Rattle.analysis.proofs.stopping.any_used_in.Given as goal

abbrev pub invariant-loop-one : goal.invariant-loop-one
invariant-loop-one l = any_in l.todo (used_homes (map used_so l.used)) ≡ any_in l.todo (used_homes (map used_so (drop l.one-index l.used)))
