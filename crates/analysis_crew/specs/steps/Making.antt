-- What the parts of components are made of.
use Rattle.std.specs.Prelude.{◌≡◌, ℕ, List, [], map, Some, length, slice_get, slice_index_or}
use Rattle.components.specs.Numbering.{Numbering, members_of, callees_of}
use Rattle.cons_tree.specs.Callees.{found}
use Rattle.comp_rounds.specs.declared.parts.CompPart.{CompPart}
use Rattle.comp_rounds.specs.Members.{function_of}
use Rattle.comp_rounds.specs.declared.parts.CompOut.{CompOut}
use Rattle.comp_rounds.specs.Parts.{Listed, written}
use Rattle.comp_rounds.specs.Rounds.{Callees, Function}
use Rattle.comp_rounds.specs.Works.{no_part}
use Rattle.summary_board.specs.Calls.{each_below}
use Rattle.summary_board.specs.Solved.{solved}
use Rattle.analysis_summaries.specs.Functions.{picked}
use Rattle.analysis_crew.specs.Parts.{listed}
use Rattle.analysis_summaries.specs.Known.{all_unknown}
use Rattle.analysis_crew.specs.steps.Fixing.{Call, fixed_by}

-- The part has the functions of the component, what is fixed for them, and the lists of the components that it calls.
pub record IsMadeOf (fs : List Function) (first : Callees) (outside : List (List Call)) (lists : List (List Listed)) (c : Numbering) (n : ℕ) (part : CompPart) : Type 0 where
  pub members : map function_of part.members ≡ picked fs (members_of c n)
  pub fixed : found part.fixed ≡ fixed_by first fs outside all_unknown (members_of c n)
  pub callees : part.callees ≡ map (λ d. slice_index_or lists d []) (callees_of c n)

-- each of these parts, in the order of the components
abbrev pub AreMadeOf : List Function → (first : Callees) → (outside : List (List Call)) → (lists : List (List Listed)) → Numbering → List CompPart → Type 0
AreMadeOf fs first outside lists c parts = (n : ℕ) (part : CompPart) → slice_get parts n ≡ Some part → IsMadeOf fs first outside lists c n part

-- the functions of each component, as those that call it see them
abbrev pub lists_of : List Function → Numbering → List (List Listed)
lists_of fs c = each_below c.count (λ n. map listed (picked fs (members_of c n)))

-- A work has the parts of all components, each with those that it calls.
pub record IsWorkOf (fs : List Function) (first : Callees) (outside : List (List Call)) (c : Numbering) (parts : List CompPart) (callees : List (List ℕ)) : Type 0 where
  pub counted : length parts ≡ c.count
  pub made : AreMadeOf fs first outside (lists_of fs c) c parts
  pub numbers : callees ≡ each_below c.count (callees_of c)

-- The outputs are the written ones of such a work.
pub record AreOutputsOf (fs : List Function) (first : Callees) (outside : List (List Call)) (c : Numbering) (outputs : List CompOut) : Type 0 where
  pub parts : List CompPart
  pub callees : List (List ℕ)
  pub work : IsWorkOf fs first outside c parts callees
  pub solved_so : outputs ≡ solved written (λ n. slice_index_or parts n no_part) (λ n. slice_index_or callees n []) (length parts)
  pub counted : length outputs ≡ length parts
