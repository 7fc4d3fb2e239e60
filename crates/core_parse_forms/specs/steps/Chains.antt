-- A chain under way: its steps so far, and what is still to come behind its last expression.
use Rattle.std.specs.Prelude.{◌≡◌, ℕ, ◌+◌, List, [], ◌∷◌, ◌++◌, Bool, true, false}
use Rattle.type_kinds.specs.declared.place.Place.{Place}
use Rattle.core_scan.specs.declared.token.Token.{Token}
use Rattle.core_scan.specs.declared.sort.Sort.{Sort}
use Rattle.core_scan.specs.declared.sort.Sort.TheVariants as s
use Rattle.core_ast.specs.declared.syntax.StepOf.{StepOf}
use Rattle.core_ast.specs.Model as m
use Rattle.core_ast.specs.Notes.{note_tree}
use Rattle.core_ast.specs.Tree.{step_tree, steps}
use Rattle.core_parse_forms.specs.declared.chains.Frame.{Frame}
use Rattle.core_parse_grammar.specs.declared.fault.PartFault.{PartFault}
use Rattle.core_parse_grammar.specs.Labels.{number_steps}
use Rattle.core_parse_grammar.specs.Build.{at, StepParts, let_, do_, before, and_step}
use Rattle.core_parse_grammar.specs.Grammar.{Part, a, the, Nonterminal, Said, Action, annotation, variables, expression, other_expression}
use Rattle.core_parse_grammar.specs.Track.{Branch, Goes, itself}
use Rattle.core_parse_grammar.specs.Faults.{Starts, Takes, Refuses}
use Rattle.core_parse_grammar.specs.Readings.{chain_sort, opens_chain, ReadsExpression}

-- A step with its place, and whether annotation brackets stand around it and what follows it.
pub record Raw : Type 0 where
  pub noted : Bool
  pub place : Place
  pub step : StepParts

abbrev pub raw_step : Bool → Place → StepParts → Raw
raw_step b place x = record { noted = b; place = place; step = x }

-- An annotation is to come for each step in brackets, the innermost first. So stand the steps.
abbrev pub pend_one : Bool → List Part → List Part
pend_one true ps = the annotation ∷ ps
pend_one false ps = ps

abbrev pub pend : List Raw → List Part
pend [] = []
pend (f ∷ fs) = pend_one f.noted (pend fs)

abbrev pub wrap : (b : Bool) (place : Place) (x : StepParts) (ps : List Part) → (m.Tree → Action ps m.Tree) → m.Tree → Action (pend_one b ps) m.Tree
wrap true place x ps f t = λ n. f (note_tree n (before place x t))
wrap false place x ps f t = f (before place x t)

abbrev pub fold : (fs : List Raw) → m.Tree → Action (pend fs) m.Tree
fold [] t = t
fold (f ∷ fs) t = wrap f.noted f.place f.step (pend fs) (fold fs) t

-- the place of the outermost step
abbrev pub outer : List Raw → Place → Place
outer [] place = place
outer (f ∷ fs) place = outer fs f.place

abbrev pub filled : List Raw → m.Steps → Bool
filled [] m.no_step = false
filled fs ss = true

-- What comes behind a step's word, and before the expression behind the step.
abbrev pub step_branch : Sort → ℕ → (n : Nonterminal) (qs : List Part) → (StepParts → m.Tree → Action qs (Said n)) → Branch n
step_branch s.Do d n qs f = record { parts = the (expression (d + 1)) ∷ the (expression d) ∷ qs; build = λ e. f (do_ e) }
step_branch _ d n qs f = record { parts = the variables ∷ a s.Equals ∷ the (expression (d + 1)) ∷ a s.In ∷ the (expression d) ∷ qs; build = λ xs _ e _. f (let_ xs e) }

-- The step is read, in whatever part it stands. Its label is n, and p follows its last.
pub record ReadsStep (word : Sort) (d n : ℕ) (place : Place) (ts : List Token) (made : StepOf m.Tree) (left : List Token) (p : ℕ) : Type 0 where
  pub says : StepParts
  pub goes : (o : Nonterminal) (qs : List Part) (f : StepParts → m.Tree → Action qs (Said o)) → Goes o (step_branch word d o qs f ∷ []) (record { parts = the (expression d) ∷ qs; build = f says } ∷ []) ts left
  pub agrees : number_steps n (and_step (at place) says m.no_step) ≡ (steps (made ∷ []), p)

-- The step is refused, in whatever part it stands.
abbrev pub RefusesStep : Sort → ℕ → List Token → PartFault → Type 0
RefusesStep word d us e = (o : Nonterminal) (qs : List Part) (f : StepParts → m.Tree → Action qs (Said o)) (ts : List Token) → Goes o (itself o) (step_branch word d o qs f ∷ []) ts us → Refuses o ts e

-- A step's word comes first, behind a bracket or not.
abbrev pub BeginsStep : List Token → Token → Sort → Place → List Token → Bool → Type 0
BeginsStep ts t q place left false = Starts ts t q place left × (chain_sort q ≡ true)
BeginsStep ts t q place left true = (us : List Token) × Takes s.OpenRound ts us × Starts us t q place left × (chain_sort q ≡ true)

-- The code's frames, the outermost first, are the steps, numbered from n on; p is the next label.
pub data Agree (n : ℕ) : List Raw → List Frame → ℕ → Type 0 where
  empty : Agree n [] [] n
  grown : {fs : List Raw} {cs ds : List Frame} {p q : ℕ} {b : Bool} {place : Place} {x : StepParts} (e : Frame) → Agree n fs cs p → number_steps p (and_step (at place) x m.no_step) ≡ (steps (step_tree e.step ∷ []), q)
      → e.noted ≡ b → ds ≡ cs ++ e ∷ [] → Agree n (raw_step b place x ∷ fs) ds q

-- Steps are read, the outermost at this place.
pub record ReadsSteps (d n : ℕ) (place : Place) (ts : List Token) (frames : List Frame) (left : List Token) (p : ℕ) : Type 0 where
  pub raw : List Raw
  pub goes : Goes (other_expression d) (itself (other_expression d)) (record { parts = the (expression d) ∷ pend raw; build = fold raw } ∷ []) ts left
  pub agrees : Agree (n + 1) raw frames p
  pub outer_is : (any : Place) → outer raw any ≡ place
  pub some : filled raw m.no_step ≡ true

-- The steps are read, and the last expression, which is no step without annotation brackets.
pub record ReadsChain (d n : ℕ) (place : Place) (ts : List Token) (frames : List Frame) (last : m.Tree) (left : List Token) (p : ℕ) : Type 0 where
  pub behind : List Token
  pub next : ℕ
  pub steps_are : ReadsSteps d n place ts frames behind next
  pub no_step : opens_chain behind ≡ false
  pub last_is : ReadsExpression d next behind last left p
