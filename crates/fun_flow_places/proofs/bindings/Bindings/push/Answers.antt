use Rattle.std.proofs.Common.{ap, ◌∙◌, ◌∷◌, [], ◌++◌}
use Rattle.std.specs.List.{zip}
use Rattle.fun_flow_places.proofs.BindingLaws.{zip_more}
use Rattle.fun_flow_places.proofs.bindings.Bindings.push.Goals as goal

pub returns-in-Ok-clause-bound : goal.returns-in-Ok-clause-bound
returns-in-Ok-clause-bound g c =
    ap (λ xs. zip xs c.add.new.self) c.in-Ok.ensures.bound ∙ ap (zip (c.self.inside.names ++ c.args.name.now ∷ [])) c.in_ok-add.ensures.ok
    ∙ zip_more c.self.inside.names c.self.inside.values c.args.name.now c.args.value c.self.invariant ∙ ap (λ l. l ++ (c.args.name.now, c.args.value) ∷ []) c.self.view_is
