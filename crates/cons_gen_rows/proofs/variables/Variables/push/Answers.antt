use Rattle.std.proofs.Common.{ap, ◌∙◌, ◌∷◌, [], ◌++◌}
use Rattle.std.specs.List.{zip}
use Rattle.cons_gen_rows.proofs.VariableLaws.{zip_more}
use Rattle.cons_gen_rows.proofs.variables.Variables.push.Goals as goal

pub returns-in-Ok-clause-bound : goal.returns-in-Ok-clause-bound
returns-in-Ok-clause-bound c =
    ap (λ xs. zip xs c.add.new.self) c.in-Ok.ensures.bound ∙ ap (zip (c.self.inside.names ++ c.args.name.now ∷ [])) c.in_ok-add.ensures.ok
    ∙ zip_more c.self.inside.names c.self.inside.slots c.args.name.now c.args.slot c.self.invariant ∙ ap (λ l. l ++ (c.args.name.now, c.args.slot) ∷ []) c.self.view_is
