-- The summary of a callee that is made of a function is the one that it is made with.
use Rattle.std.proofs.Common.{◌≡◌, Bool, true, false, cond, Some, refl}
use Rattle.cons_tree.specs.declared.parts.Callee.TheVariants.{Known, Local}
use Rattle.cons_tree.specs.declared.parts.Summary.{Summary}
use Rattle.comp_rounds.specs.Rounds.{Function, callee_of}
use Rattle.sound_laws.specs.Knowledge.{summary_of}

pub summary_is : (g : Function) (s : Summary) → summary_of (callee_of g s) ≡ Some s
summary_is g s = by g.exported
  where
    by : (b : Bool) → summary_of (cond b (Known s) (Local s)) ≡ Some s
    by true = refl
    by false = refl
