-- The equations that the code of lists goes by.
use Rattle.std.specs.Prelude.{Option, Some, None}
use Rattle.cons_tree.specs.Constraints.{ConsList, no_cons, and_cons}
use Rattle.cons_solve.specs.Solutions.{Space, on_some, joined, greatest}

module _ (S : Space) where
  open S use {Env, Part}

  -- the members' greatest solutions, each below the one before
  abbrev pub passes : ConsList Part → Env → Option Env
  passes no_cons e = Some e
  passes (and_cons c cs) e = on_some (greatest S c e) (passes cs)

  -- the join of the members' greatest solutions
  abbrev pub unions : ConsList Part → Env → Option Env
  unions no_cons e = None
  unions (and_cons c cs) e = joined S (greatest S c e) (unions cs e)

  -- the same join, with a state that was there before
  abbrev pub merged : Option Env → ConsList Part → Env → Option Env
  merged s no_cons e = s
  merged s (and_cons c cs) e = merged (joined S s (greatest S c e)) cs e
