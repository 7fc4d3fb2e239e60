use Rattle.std.proofs.Common.{◌≡◌, ◌≤◌, length, take, drop}
use Rattle.cons_tree.specs.Trails.{laid, Within}
use Rattle.cons_tree.proofs.slots.Slots.undo.Given as goal

abbrev pub invariant-loop-self : goal.invariant-loop-self
invariant-loop-self l = record {
  low : l.checkpoint ≤ length l.self.trail;
  within : Within (length l.self.types) (drop l.checkpoint l.self.trail);
  back : laid (drop l.checkpoint l.self.trail) l.self.types ≡ laid (drop l.checkpoint l.initial.self.trail) l.initial.self.types;
  front : take l.checkpoint l.self.trail ≡ take l.checkpoint l.initial.self.trail;
}

abbrev pub decreases-loop-self : goal.decreases-loop-self
decreases-loop-self l = length l.self.trail
