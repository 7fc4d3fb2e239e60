use Rattle.std.proofs.Common.{◌≡◌, drop}
use Rattle.sound_laws_kept.specs.Waves.{any_in}
use Rattle.analysis.proofs.stopping.any_in.Given as goal

abbrev pub invariant-loop-name : goal.invariant-loop-name
invariant-loop-name l = any_in l.todo l.names ≡ any_in l.todo (drop l.name-index l.names)
