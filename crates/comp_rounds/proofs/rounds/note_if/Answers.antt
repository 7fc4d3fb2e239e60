use Rattle.std.proofs.Common.{[], ◌∷◌, Contains, inl, sym, ◌∙◌, subst, true≢false}
use Rattle.std.proofs.lemmas.List.Elements.{Contains-append_left, Contains-append_right}
use Rattle.std.proofs.lemmas.Result.{on_ok_weaker}
use Rattle.type_kinds.proofs.Lists.{contains_first}
use Rattle.comp_rounds.proofs.Gathering.{one_cases}
use Rattle.comp_rounds.proofs.rounds.note_if.Goals as goal

pub returns-then-wanted-clause-kept : goal.returns-then-wanted-clause-kept
returns-then-wanted-clause-kept c =
    on_ok_weaker c.add.result (λ is i has. subst (λ l. Contains l i) (sym is) (Contains-append_left c.args.numbers.now (c.args.number ∷ []) i has)) c.add.ensures.ok

pub returns-then-wanted-clause-added : goal.returns-then-wanted-clause-added
returns-then-wanted-clause-added c =
    on_ok_weaker c.add.result
    (λ is wanted. subst (λ l. Contains l c.args.number) (sym is) (Contains-append_right c.args.numbers.now (c.args.number ∷ []) c.args.number (contains_first c.args.number [])))
    c.add.ensures.ok

pub returns-then-wanted-clause-only : goal.returns-then-wanted-clause-only
returns-then-wanted-clause-only c =
    on_ok_weaker c.add.result (λ is i has. one_cases c.args.numbers.now c.args.number i (subst (λ l. Contains l i) is has)) c.add.ensures.ok

pub returns-clause-kept : goal.returns-clause-kept
returns-clause-kept c = λ i has. has

pub returns-clause-added : goal.returns-clause-added
returns-clause-added c = λ wanted. absurd (true≢false (sym wanted ∙ c.if-wanted.false))

pub returns-clause-only : goal.returns-clause-only
returns-clause-only c = λ i has. inl has
