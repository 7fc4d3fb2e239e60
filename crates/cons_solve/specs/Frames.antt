-- Slots that a constraint doesn't name.
use Rattle.std.specs.Prelude.{ℕ}
use Rattle.cons_tree.specs.Constraints.{Cons, ConsList, only, all_of, any_of, no_cons, and_cons}
use Rattle.cons_tree.specs.Frames.{IsNone, slots_of}
use Rattle.cons_tree.specs.declared.parts.Part.{Part}

-- the slot is named by no part of the constraint
abbrev mutual
  pub Free : ℕ → Cons Part → Type 0
  Free s (only p) = IsNone s (slots_of p)
  Free s (all_of cs) = FreeEach s cs
  Free s (any_of cs) = FreeEach s cs

  pub FreeEach : ℕ → ConsList Part → Type 0
  FreeEach s no_cons = Unit {0}
  FreeEach s (and_cons c cs) = Free s c × FreeEach s cs
