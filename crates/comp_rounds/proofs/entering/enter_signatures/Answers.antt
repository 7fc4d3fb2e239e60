use Rattle.std.proofs.Common.{map, refl, sym, ◌∙◌, arith}
use Rattle.cons_tree.specs.Callees.{found}
use Rattle.comp_rounds.specs.Members.{function_of}
use Rattle.comp_rounds.specs.Rounds.{of_one, with_summaries}
use Rattle.comp_rounds.proofs.Knowing.{with_none}
use Rattle.comp_rounds.proofs.Steps.{none_left}
use Rattle.comp_rounds.proofs.entering.enter_signatures.Goals as goal

pub returns : goal.returns
returns c =
    let known = found c.loop-at.known in
    sym
    (none_left (λ ms ss. with_summaries known (map function_of ms) (map of_one ss)) known (λ ss. refl) (λ ms. with_none known (map function_of ms))
    c.args.members.now c.args.signatures.now c.loop-at.at (omega arith))
    ∙ c.loop-at.invariant.known
