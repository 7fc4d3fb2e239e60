-- What a plan keeps of a constraint while it is solved, and when that is right at an environment.
use Rattle.std.specs.Prelude.{ℕ, suc, List, [], ◌∷◌, Option, Some, None, length, set, map}
use Rattle.type_lattice.specs.Types.{Below, AreBelow, meet}
use Rattle.cons_tree.specs.Constraints.{Cons, ConsList, only, all_of, any_of, no_cons, and_cons}
use Rattle.cons_tree.specs.Environments.{Types, type_at}
use Rattle.cons_tree.specs.Trails.{Within}
use Rattle.cons_tree.specs.declared.parts.Part.{Part}
use Rattle.cons_tree.specs.declared.slots.TrailEntry.{TrailEntry}
use Rattle.cons_solve.specs.Environments.{Solves}
use Rattle.cons_solve.specs.Frames.{Free}
use Rattle.cons_solve.specs.steps.Positions.{Has, here}
use Rattle.cons_solve.specs.declared.index.Naming.{Naming}
use Rattle.cons_solve.specs.declared.plan.Plan.{Plan}
use Rattle.cons_solve.specs.declared.plan.Plan.TheOpen.{Plan-F}
use Rattle.cons_solve.specs.declared.plan.Plan.TheFolds.{fold-Plan}

-- what is kept of an alternative: the slots that its last solution lowered with their types, and None where it has no solution
abbrev pub Outcome : Type 0
Outcome = Option (List TrailEntry)

-- a plan, with an index as its namings
mutual
  pub data Memo : Type 0 where
    blank : Memo
    listing : (ms : MemoList) (index : List Naming) → Memo
    choosing : (ms : MemoList) (ks : List Outcome) → Memo

  pub data MemoList : Type 0 where
    no_memos : MemoList
    and_memo : (m : Memo) (ms : MemoList) → MemoList

abbrev pub collected : List Memo → MemoList
collected [] = no_memos
collected (m ∷ ms) = and_memo m (collected ms)

abbrev pub layer : Plan-F Memo → Memo
layer Plan-F.Blank = blank
layer (Plan-F.All ms index) = listing (collected ms) index.namings
layer (Plan-F.Any ms ks) = choosing (collected ms) ks

unfoldable pub memo : Plan → Memo
memo = fold-Plan Memo layer

abbrev pub memos : List Plan → MemoList
memos ps = collected (map memo ps)

-- the first of some plans and the others; past the end plans are blank
abbrev pub first : MemoList → Memo
first no_memos = blank
first (and_memo m ms) = m

abbrev pub rest : MemoList → MemoList
rest no_memos = no_memos
rest (and_memo m ms) = ms

-- ---- entries that the array is lowered to

-- each slot of the entries is below the type there
abbrev pub IsUnder : List TrailEntry → Types → Type 0
IsUnder [] xs = Unit {0}
IsUnder (f ∷ fs) xs = Below (type_at xs f.slot) f.ty × IsUnder fs xs

-- a slot at its meet with a type
abbrev pub met : Types → TrailEntry → Types
met xs f = set xs f.slot (meet (type_at xs f.slot) f.ty)

-- the slots of the entries at their meets with the types there
abbrev pub fallen : List TrailEntry → Types → Types
fallen [] xs = xs
fallen (f ∷ fs) xs = met (fallen fs xs) f

-- ---- when a plan is right

-- each member, counted from this number on, names only slots where the index has it
abbrev pub IsIndex : ConsList Part → ℕ → List Naming → Type 0
IsIndex no_cons i index = Unit {0}
IsIndex (and_cons c cs) i index = ((s : ℕ) → (Has (here index s) i → ⊥) → Free s c) × IsIndex cs (suc i) index

-- What is kept of an alternative speaks of each solution below the environment: there is none, or each is below the entries.
-- What is kept further in is right at the environment that the entries lower this one to.
abbrev pub IsKept : Cons Part → Outcome → (Types → Type 0) → Types → Type 0
IsKept c None G xs = (ys : Types) → AreBelow ys xs → Solves c ys → ⊥
IsKept c (Some lows) G xs =
    Within (length xs) lows × ((ys : Types) → AreBelow ys xs → Solves c ys → IsUnder lows ys) × G (fallen lows xs)

-- A plan is right for a constraint at an environment. One of another kind is never used, so it is right as well.
abbrev mutual
  pub Good : Cons Part → Memo → Types → Type 0
  Good (only p) m xs = Unit {0}
  Good (all_of cs) blank xs = Unit {0}
  Good (all_of cs) (listing ms index) xs = IsIndex cs 0 index × GoodEach cs ms xs
  Good (all_of cs) (choosing ms ks) xs = Unit {0}
  Good (any_of cs) blank xs = Unit {0}
  Good (any_of cs) (listing ms index) xs = Unit {0}
  Good (any_of cs) (choosing ms ks) xs = GoodAny cs ms ks xs

  pub GoodEach : ConsList Part → MemoList → Types → Type 0
  GoodEach no_cons ms xs = Unit {0}
  GoodEach (and_cons c cs) ms xs = Good c (first ms) xs × GoodEach cs (rest ms) xs

  pub GoodAny : ConsList Part → MemoList → List Outcome → Types → Type 0
  GoodAny no_cons ms ks xs = Unit {0}
  GoodAny (and_cons c cs) ms [] xs = ⊥
  GoodAny (and_cons c cs) ms (k ∷ ks) xs = IsKept c k (Good c (first ms)) xs × GoodAny cs (rest ms) ks xs
