-- The signatures of functions that call one another, by rounds (Lindahl and Sagonas, "Practical type inference based on success
-- typings"): from none upward, each round by what the one before it gave, and widened where that takes long.
use Rattle.std.specs.Prelude.{ℕ, zero, suc, ◌+◌, Bool, true, false, ◌&&◌, ◌||◌, List, [], ◌∷◌, length, map, replicate, take, nat_lt, cond}
use Rattle.std.specs.declared.option.Option.TheVariants.{Some, None}
use Rattle.type_kinds.specs.declared.atom.Atom.{Atom}
use Rattle.type_lattice.specs.Types.{any}
use Rattle.core_ast.specs.declared.syntax.VarName.{VarName}
use Rattle.core_ast.specs.declared.syntax.FunName.{FunName}
use Rattle.core_ast.specs.Model as m
use Rattle.cons_tree.specs.Callees.{same_home, same_name}
use Rattle.cons_tree.specs.Environments.{State, type_at}
use Rattle.cons_tree.specs.declared.parts.Sig.{Sig}
use Rattle.cons_tree.specs.declared.parts.Summary.{Summary}
use Rattle.cons_tree.specs.declared.parts.Callee.{Callee}
use Rattle.cons_tree.specs.declared.parts.Callee.TheVariants.{Known, Local}
use Rattle.cons_solve.specs.Environments.{solution}
use Rattle.cons_gen.specs.Made.{definition_constraint, definition_slots}
use Rattle.cons_gen_rows.specs.Passes.{Knowledge}
use Rattle.comp_rounds.specs.Signatures.{nothing, signature, anything, join_of, is_below}

-- A function of the component: its module, its definition, and whether its module exports it.
pub record Function : Type 0 where
  pub home : Atom
  pub name : FunName
  pub parameters : List VarName
  pub body : m.Tree
  pub exported : Bool

abbrev pub arity : Function → ℕ
arity g = length g.parameters

-- ---- one function

-- its greatest solution, where every slot may have any value at first
unfoldable pub solved : Knowledge → Function → State
solved P g =
    solution (definition_constraint P g.home g.parameters g.body) (replicate (definition_slots g.parameters g.body) any)

-- the signature in a solution: the parameters have the first n slots, and the result the next one
abbrev pub signature_in : ℕ → State → Sig
signature_in n None = nothing n
signature_in n (Some ts) = signature (type_at ts n) (take n ts)

unfoldable pub inferred : Knowledge → Function → Sig
inferred P g = signature_in (arity g) (solved P g)

-- ---- what a pass knows

-- what is known under each module and name
abbrev pub Callees : Type 0
Callees = Atom → FunName → Callee

-- whether a function has this module and name, and whether one of some functions has
abbrev pub is_named : Function → Atom → FunName → Bool
is_named g home f = same_home home g.home && same_name f g.name

abbrev pub is_member : List Function → Atom → FunName → Bool
is_member [] home f = false
is_member (g ∷ gs) home f = is_named g home f || is_member gs home f

-- what is known where this callee stands under a module and a name, before what was known there
abbrev pub with_callee : Callees → Atom → FunName → Callee → Callees
with_callee outside home name callee h f = cond (same_home h home && same_name f name) callee (outside h f)

-- a summary under a name, by whether its module exports the name
abbrev pub standing : (exported : Bool) → Summary → Callee
standing exported s = cond exported (Known s) (Local s)

abbrev pub callee_of : Function → Summary → Callee
callee_of g s = standing g.exported s

-- what is known where a function has this summary, before what was known under its name
abbrev pub with_function : Callees → Function → Summary → Callees
with_function outside g s = with_callee outside g.home g.name (callee_of g s)

-- What is known where these functions have these summaries, before what was known under their names. The last one of a name
-- counts.
abbrev pub with_summaries : Callees → List Function → List Summary → Callees
with_summaries outside [] ss = outside
with_summaries outside (g ∷ gs) [] = outside
with_summaries outside (g ∷ gs) (s ∷ ss) = with_summaries (with_function outside g s) gs ss

-- a summary whose signatures are one
abbrev pub of_one : Sig → Summary
of_one s = record { strict = s; lenient = s }

abbrev pub with_signatures : Callees → List Function → List Sig → Callees
with_signatures outside gs ss = with_summaries outside gs (map of_one ss)

abbrev pub strict_pass : Callees → Knowledge
strict_pass callees = record { lenient = false; own = λ home f. false; callee = callees }

-- the lenient pass knows nothing of the calls of the component's own functions
abbrev pub lenient_pass : List Function → Callees → Knowledge
lenient_pass gs callees = record { lenient = true; own = is_member gs; callee = callees }

-- ---- rounds

-- how many rounds join what they give to what was there
unfoldable pub joined_rounds : ℕ
joined_rounds = 12

-- A function's signature after the round of this number, from 0 on: joined with what the round gave; later as it was where that
-- is below it, and else the signature of which nothing is known.
abbrev pub next_signature : ℕ → (old given : Sig) → Sig
next_signature k s t =
    cond (nat_lt k joined_rounds) (join_of s t) (cond (is_below t s) s (anything (length s.args)))

-- all at once
abbrev pub all_next : ℕ → (old given : List Sig) → List Sig
all_next k [] ts = []
all_next k (s ∷ ss) [] = []
all_next k (s ∷ ss) (t ∷ ts) = next_signature k s t ∷ all_next k ss ts

-- each function with its strict and its lenient signature
abbrev pub paired : (strict lenient : List Sig) → List Summary
paired [] ts = []
paired (s ∷ ss) [] = []
paired (s ∷ ss) (t ∷ ts) = record { strict = s; lenient = t } ∷ paired ss ts

-- outside: what is known outside the component; gs: the component's functions
module _ (outside : Callees) (gs : List Function) where
  -- what a round gives for each function, by the signatures before it
  abbrev pub given : List Sig → List Sig
  given ss = map (inferred (strict_pass (with_signatures outside gs ss))) gs

  -- the signatures after that many rounds
  abbrev pub after_rounds : ℕ → List Sig
  after_rounds zero = map (λ g. nothing (arity g)) gs
  after_rounds (suc k) = all_next k (after_rounds k) (given (after_rounds k))

  -- After this many rounds nothing changes: each round after the joined ones leaves all as it is, or widens one function more.
  abbrev pub last_round : ℕ
  last_round = joined_rounds + length gs

  abbrev pub strict_signatures : List Sig
  strict_signatures = after_rounds last_round

  -- the lenient signatures are taken once, when the rounds are over
  abbrev pub lenient_signatures : List Sig
  lenient_signatures = map (inferred (lenient_pass gs (with_signatures outside gs strict_signatures))) gs

  -- the summaries of the component's functions
  abbrev pub summaries : List Summary
  summaries = paired strict_signatures lenient_signatures
