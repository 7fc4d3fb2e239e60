use Rattle.std.proofs.Common.{◌≡◌, ◌++◌, ◌∷◌, []}
use Rattle.std.proofs.lemmas.Result.{IfOk-weaker}
use Rattle.cons_solve.specs.steps.Positions.{Grown}
use Rattle.cons_solve.proofs.IndexLaws.{naming, grown_one}
use Rattle.cons_solve.proofs.index.enter_at.Goals as goal

pub returns : goal.returns
returns c =
    let old = c.args.namings.now in
    let new = c.add.new.self in
    IfOk-weaker c.add.result (λ _. new ≡ old ++ naming c.args.slot c.args.member ∷ []) (λ _. Grown (λ s. c.args.slot ≡ s → ⊥) c.args.member old new) (λ _ e. grown_one c.args.slot c.args.member old new e) c.add.ensures.ok
