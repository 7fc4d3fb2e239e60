-- The written outputs of all components are their summaries.
use Rattle.std.proofs.Common.{◌≡◌, ℕ, zero, suc, ◌<◌, List, [], ◌∷◌, ◌++◌, length, map, Some, Contains, All, refl, sym, ap, ap₂, ◌∙◌, subst, arith}
use Rattle.std.specs.Prelude.{slice_get, slice_index_or}
use Rattle.std.specs.Option.{option_to_list}
use Rattle.type_kinds.proofs.Lists.{contains_first, contains_later}
use Rattle.core_ast.specs.Model as m
use Rattle.core_scope.specs.Names.{Distinct}
use Rattle.components.specs.Numbering.{Numbering, callees_of}
use Rattle.components.specs.Ready.{IsReadyNumbering}
use Rattle.cons_tree.specs.Callees.{found}
use Rattle.comp_rounds.specs.declared.parts.CompOut.{CompOut}
use Rattle.comp_rounds.specs.declared.parts.CompPart.{CompPart}
use Rattle.comp_rounds.specs.Members.{function_of}
use Rattle.comp_rounds.specs.Parts.{Listed, with_inputs, written}
use Rattle.comp_rounds.specs.Rounds.{Callees, Function, summaries}
use Rattle.comp_rounds.specs.Takes.{AllTake}
use Rattle.sound_laws.specs.Accepted.{AreAccepted}
use Rattle.summary_board.specs.Solved as board
use Rattle.summary_board.proofs.SolvedLaws.{solved_at}
use Rattle.analysis_summaries.specs.Known.{module_names}
use Rattle.analysis_summaries.specs.Whole.{IsCallGraph}
use Rattle.analysis_crew.specs.Parts.{functions_in, listed, IsPartOf, summaries_of}
use Rattle.analysis_crew.proofs.Same.{component_same}

-- the output of a part, by what it has
written_by : (part : CompPart) (gs : List Function) (xss : List (List Listed)) (inputs : List CompOut) → map function_of part.members ≡ gs → part.callees ≡ xss
    → written part inputs ≡ record { summaries = summaries (with_inputs (found part.fixed) xss inputs) gs }
written_by part gs xss inputs members callees =
    ap₂ (λ ks yss. record { summaries = summaries (with_inputs (found part.fixed) yss inputs) ks }) members callees

pub all_of : (P : ℕ → Type 0) (ds : List ℕ) → ((d : ℕ) → Contains ds d → P d) → All P ds
all_of P ds h k d low = h (slice_index_or ds k d) (k, low, same ds k d low)
  where
    same : (es : List ℕ) (k d : ℕ) → k < length es → slice_index_or es k (slice_index_or es k d) ≡ slice_index_or es k d
    same [] k d low = absurd (omega (arith, low))
    same (e ∷ es) zero d low = refl
    same (e ∷ es) (suc k) d low = same es k d (omega (arith, low))

module _ (take : (outside : Callees) (gs : List Function) → AllTake gs (summaries outside gs))
    (xs : List m.Module) (accepted : AreAccepted xs) (apart : Distinct (module_names xs)) (graph : List (List ℕ)) (is : IsCallGraph xs graph) (c : Numbering) (r : IsReadyNumbering graph c) (around : Callees)
    (part : ℕ → CompPart) (callees : ℕ → List ℕ) (parts : (n : ℕ) → n < c.count → IsPartOf around xs c n (part n)) (called : (n : ℕ) → n < c.count → callees n ≡ callees_of c n) where
  abbrev all : List CompOut
  all = board.solved written part callees c.count

  abbrev out : ℕ → CompOut
  out n = record { summaries = summaries_of around xs c n }

  -- the inputs of a component, where the outputs of those that it calls are their summaries
  inputs_are : (ds : List ℕ) → ((d : ℕ) → Contains ds d → slice_get all d ≡ Some (out d)) → board.picked all ds ≡ map out ds
  inputs_are [] h = refl
  inputs_are (d ∷ ds) h = ap₂ (λ o rest. option_to_list o ++ rest) (h d (contains_first d ds)) (inputs_are ds (λ e has. h e (contains_later d e ds has)))

  written_is : (n : ℕ) → n < c.count → board.picked all (callees_of c n) ≡ map out (callees_of c n) → written (part n) (board.picked all (callees n)) ≡ out n
  written_is n low inputs =
      ap (written (part n)) (ap (board.picked all) (called n low) ∙ inputs)
      ∙ written_by (part n) (functions_in xs c n) (map (λ d. map listed (functions_in xs c d)) (callees_of c n)) (map out (callees_of c n)) (parts n low).members (parts n low).callees
      ∙ ap (λ ss. record { summaries = ss }) (component_same take xs accepted apart graph is c r around n low (found (part n).fixed) (parts n low).fixed)

  below : (top n : ℕ) → n < top → n < c.count → slice_get all n ≡ Some (out n)
  below zero n under low = absurd (omega (arith, under))
  below (suc top) n under low =
      let before = (λ (d : ℕ) (has : Contains (callees_of c n) d). below top d (down d (r.kept.callees_below n d low has)) (within d (r.kept.callees_below n d low has))) in
      solved_at written part callees c.count n low
      (subst (All (λ d. d < n)) (sym (called n low)) (all_of (λ d. d < n) (callees_of c n) (λ d has. r.kept.callees_below n d low has)))
      ∙ ap Some (written_is n low (inputs_are (callees_of c n) before))
    where
      down : (d : ℕ) → d < n → d < top
      down d less = omega (arith, less, under)

      within : (d : ℕ) → d < n → d < c.count
      within d less = omega (arith, less, low)

  pub outputs_are : (n : ℕ) → n < c.count → slice_get all n ≡ Some (out n)
  outputs_are n low = below (suc n) n (omega arith) low
