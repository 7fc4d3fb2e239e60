use Rattle.std.proofs.Common.{map, sym, ap₂, ◌∙◌, subst}
use Rattle.cons_tree.specs.Callees.{found}
use Rattle.comp_rounds.specs.Members.{function_of}
use Rattle.comp_rounds.specs.Rounds.{of_one, strict_signatures, with_summaries}
use Rattle.comp_rounds.specs.Takes.{AllTake}
use Rattle.comp_rounds.proofs.Knowing.{overwritten}
use Rattle.comp_rounds.proofs.Rounding.{take_length}
use Rattle.comp_rounds.proofs.Taking.{summaries_take}
use Rattle.comp_rounds.proofs.rounds.component_summaries.Goals as goal

pub enter_summaries-requires : goal.enter_summaries-requires
enter_summaries-requires c =
    let gs = map function_of c.args.members.now in
    subst (AllTake gs) (sym (c.as_slice.ensures ∙ c.in_ok-list.ensures.value)) (summaries_take c.solution_laws.ensures.below (found c.args.known.now) gs)

pub returns-clause-known : goal.returns-clause-known
returns-clause-known c =
    let gs = map function_of c.args.members.now in
    let outside = found c.args.known.now in
    let takes : AllTake gs c.in_ok-list.list =
    subst (AllTake gs) (sym c.in_ok-list.ensures.value) (summaries_take c.solution_laws.ensures.below outside gs)
    in
    c.in_ok-enter_summaries.ensures ∙ ap₂ (λ callees ss. with_summaries callees gs ss) c.in_ok-list.ensures.known c.as_slice.ensures
    ∙ overwritten gs c.in_ok-list.list (map of_one (strict_signatures outside gs)) outside (take_length gs c.in_ok-list.list takes)

pub returns-clause-take : goal.returns-clause-take
returns-clause-take c =
    let gs = map function_of c.args.members.now in
    subst (AllTake gs) (sym c.in_ok-list.ensures.value) (summaries_take c.solution_laws.ensures.below (found c.args.known.now) gs)
