-- What a board keeps besides what it shows: counts of callees that aren't done, lists of callers, and the set of the ready components.
use Rattle.std.specs.Prelude.{◌≡◌, ◌↔◌, ◌⊎◌, ℕ, ◌+◌, ◌*◌, ◌<◌, ◌≤◌, ◌==◌, cond, List, [], ◌∷◌, length, slice_get, slice_index_or}
use Rattle.std.specs.declared.option.Option.{Option}
use Rattle.std.specs.declared.option.Option.TheVariants.{Some, None}
use Rattle.summary_board.specs.Machine.{Standing, waiting, out, done, called, IsReady}
use Rattle.summary_board.specs.steps.Rows.{IsMarked}

-- 1 if the component isn't done
abbrev pub open_one : Option Standing → ℕ
open_one None = 1
open_one (Some waiting) = 1
open_one (Some (out seat)) = 1
open_one (Some done) = 0

-- how many of these components aren't done
abbrev pub open_in : List Standing → List ℕ → ℕ
open_in standings [] = 0
open_in standings (c ∷ cs) = open_one (slice_get standings c) + open_in standings cs

-- how many of all components aren't done
abbrev pub unfinished_in : List Standing → ℕ
unfinished_in [] = 0
unfinished_in (m ∷ ms) = open_one (Some m) + unfinished_in ms

-- how often a component is in a list
abbrev pub times : ℕ → List ℕ → ℕ
times c [] = 0
times c (d ∷ cs) = cond (c == d) 1 0 + times c cs

-- the count of a component
abbrev pub count_at : List ℕ → ℕ → ℕ
count_at counts c = slice_index_or counts c 0

-- Each component is in the list of callers of another as often as it calls it.
abbrev pub AreCallers : List (List ℕ) → List (List ℕ) → Type 0
AreCallers callees callers = (c d : ℕ) → times c (called callers d) ≡ times d (called callees c)

-- Each count is how many callees of the component aren't done, and just the ready components are marked.
pub record Tracks (callees : List (List ℕ)) (standings : List Standing) (callers : List (List ℕ)) (counts : List ℕ) (unfinished : ℕ) (ready : List ℕ) : Type 0 where
  pub as_many_callees : length callees ≡ length standings
  pub as_many_callers : length callers ≡ length standings
  pub as_many_counts : length counts ≡ length standings
  pub room : length standings ≤ 64 * length ready
  pub inverse : AreCallers callees callers
  pub counted : (c : ℕ) → c < length standings → count_at counts c ≡ open_in standings (called callees c)
  pub left : unfinished ≡ unfinished_in standings
  pub exact : (c : ℕ) → IsMarked ready c ↔ IsReady callees standings c

-- The counts of these callers are lower, each by how often it is there, and those whose count is 0 then are marked.
pub record Lowered (callers counts counts' ready ready' : List ℕ) : Type 0 where
  pub as_many : length counts' ≡ length counts
  pub room : length ready' ≡ length ready
  pub lower : (k : ℕ) → count_at counts' k + times k callers ≡ count_at counts k
  pub marked : (k : ℕ) → IsMarked ready' k ↔ (IsMarked ready k ⊎ ((0 < times k callers) × (count_at counts' k ≡ 0)))

-- The same of the callers that were gone through, while these are left.
pub record LoweredTo (callers rest counts counts' ready ready' : List ℕ) : Type 0 where
  pub as_many : length counts' ≡ length counts
  pub room : length ready' ≡ length ready
  pub lower : (k : ℕ) → count_at counts' k + times k callers ≡ count_at counts k + times k rest
  pub marked : (k : ℕ) → IsMarked ready' k ↔ (IsMarked ready k ⊎ ((times k rest < times k callers) × (count_at counts' k ≡ 0)))

-- The callers of the components so far.
pub record CallersTo (callees callers : List (List ℕ)) (end : ℕ) : Type 0 where
  pub as_many : length callers ≡ length callees
  pub known : (c d : ℕ) → c < end → times c (called callers d) ≡ times d (called callees c)
  pub unknown : (c d : ℕ) → end ≤ c → times c (called callers d) ≡ 0

-- A caller was added to the lists of some of those that it calls, while these are left.
pub record AddedTo (callers callers' : List (List ℕ)) (c : ℕ) (numbers rest : List ℕ) : Type 0 where
  pub as_many : length callers' ≡ length callers
  pub added : (b d : ℕ) → times b (called callers' d) + cond (b == c) (times d rest) 0 ≡ times b (called callers d) + cond (b == c) (times d numbers) 0
