use Rattle.std.proofs.Common.{◌++◌, ◌∷◌, [], sym, ap, ◌∙◌, append-nil}
use Rattle.std.proofs.lemmas.Result.{on_ok_weaker}
use Rattle.module_flow_state.proofs.Positions.{functions_none, functions_told, within_kept}
use Rattle.module_flow_state.proofs.states.FlowStates.add_function.Goals as goal

pub at-requires : goal.at-requires
at-requires c = within_kept c.self.inside.functions c.args.self.now c.in-Some.position c.self.view_is c.in-Some.ensures.within

pub returns-in-None : goal.returns-in-None
returns-in-None c =
    sym (ap (λ fs. c.args.list.now ++ fs) (functions_none c.args.self.now c.args.label (sym c.position.ensures.there ∙ c.in-None.is)) ∙ append-nil c.args.list.now)

pub returns-in_ok-copy-in-Some : goal.returns-in_ok-copy-in-Some
returns-in_ok-copy-in-Some c =
    on_ok_weaker c.add.result
    (λ is. is ∙ ap (λ f. c.args.list.now ++ f ∷ []) c.in_ok-copy-in-Some.ensures
    ∙ sym (ap (λ fs. c.args.list.now ++ fs) (functions_told c.self.inside.functions c.args.self.now c.args.label c.in-Some.position c.at.result.now c.self.view_is c.in-Some.ensures.there c.at.ensures)))
    c.add.ensures.ok
