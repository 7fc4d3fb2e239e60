-- What is kept of the members of a constraint from one sweep to the next, and when that is right at an environment.
use Rattle.std.specs.Prelude.{List, [], ◌∷◌, Some, None, map}
use Rattle.cons_tree.specs.Constraints.{Cons, ConsList, only, all_of, any_of, no_cons, and_cons}
use Rattle.cons_tree.specs.Environments.{Types}
use Rattle.cons_tree.specs.declared.parts.Part.{Part}
use Rattle.cons_tree.specs.declared.slots.TrailEntry.{TrailEntry}
use Rattle.cons_solve.specs.steps.Plans.{IsKept}
use Rattle.table_verify_sweeps.specs.declared.kept.Kept.{Kept}
use Rattle.table_verify_sweeps.specs.declared.kept.Kept.TheOpen.{Kept-F}
use Rattle.table_verify_sweeps.specs.declared.kept.Kept.TheFolds.{fold-Kept}

-- what is kept of a constraint: nothing yet; that it has no solution; or the slots that its last solution lowered with their types, and
-- what is kept of its members
mutual
  pub data Memo : Type 0 where
    blank : Memo
    dead : Memo
    solved : (lows : List TrailEntry) (ms : MemoList) → Memo

  pub data MemoList : Type 0 where
    no_memos : MemoList
    and_memo : (m : Memo) (ms : MemoList) → MemoList

abbrev pub collected : List Memo → MemoList
collected [] = no_memos
collected (m ∷ ms) = and_memo m (collected ms)

abbrev pub layer : Kept-F Memo → Memo
layer Kept-F.Blank = blank
layer Kept-F.Dead = dead
layer (Kept-F.Solved lows ms) = solved lows (collected ms)

unfoldable pub memo : Kept → Memo
memo = fold-Kept Memo layer

abbrev pub memos : List Kept → MemoList
memos ks = collected (map memo ks)

-- What is kept of a constraint speaks of each solution below the environment: there is none, or each is below the entries. What is kept of
-- its members is right at the environment that the entries lower this one to.
abbrev pub RightBy : Cons Part → (MemoList → Types → Type 0) → Memo → Types → Type 0
RightBy c G blank xs = Unit {0}
RightBy c G dead xs = IsKept c None (λ ys. Unit {0}) xs
RightBy c G (solved lows ms) xs = IsKept c (Some lows) (G ms) xs

-- What is kept is right for a constraint at an environment, and so for each member. Past the end nothing is kept.
abbrev mutual
  pub IsRight : Cons Part → Memo → Types → Type 0
  IsRight (only p) m xs = RightBy (only p) (λ ms ys. Unit {0}) m xs
  IsRight (all_of cs) m xs = RightBy (all_of cs) (λ ms ys. AreRight cs ms ys) m xs
  IsRight (any_of cs) m xs = RightBy (any_of cs) (λ ms ys. AreRight cs ms ys) m xs

  pub AreRight : ConsList Part → MemoList → Types → Type 0
  AreRight no_cons ms xs = Unit {0}
  AreRight (and_cons c cs) no_memos xs = Unit {0}
  AreRight (and_cons c cs) (and_memo m ms) xs = IsRight c m xs × AreRight cs ms xs

-- what is kept of the members of a constraint is right; a part has none
abbrev pub MembersRight : Cons Part → MemoList → Types → Type 0
MembersRight (only p) ms xs = Unit {0}
MembersRight (all_of cs) ms xs = AreRight cs ms xs
MembersRight (any_of cs) ms xs = AreRight cs ms xs
