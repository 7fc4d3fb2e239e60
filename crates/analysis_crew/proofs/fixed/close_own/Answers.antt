use Rattle.std.proofs.Common.{ap, ◌∙◌, sym}
use Rattle.std.specs.Prelude.{option_map}
use Rattle.std.proofs.lemmas.Option.{slice_get-map}
use Rattle.std.proofs.lemmas.Result.{on_ok_weaker}
use Rattle.cons_tree.specs.Callees.{found}
use Rattle.comp_rounds.specs.Members.{function_of}
use Rattle.analysis_crew.specs.steps.Fixing.{with_own}
use Rattle.analysis_crew.proofs.fixed.close_own.Goals as goal

pub returns-in-Some : goal.returns-in-Some
returns-in-Some c =
    on_ok_weaker c.close_home.result
    (λ is. is ∙ ap (with_own (found c.args.fixed.now)) (sym (slice_get-map function_of c.args.members.now c.args.number ∙ ap (option_map function_of) (sym c.in-Some.ensures.value))))
    c.close_home.ensures

pub returns-in-None : goal.returns-in-None
returns-in-None c =
    ap (with_own (found c.args.fixed.now)) (sym (slice_get-map function_of c.args.members.now c.args.number ∙ ap (option_map function_of) (sym c.in-None.ensures.value)))
