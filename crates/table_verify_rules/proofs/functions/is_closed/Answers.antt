use Rattle.std.proofs.Common.{◌≡◌, ◌↔◌, IsTrue, inl, inr, Some, sym, ap, ◌∙◌}
use Rattle.std.proofs.lemmas.Result.{IfOk-weaker}
use Rattle.cons_tree.specs.Callees.{found}
use Rattle.cons_gen_rows.specs.Knowing.{knowledge}
use Rattle.comp_rounds.specs.Members.{function_of}
use Rattle.sound_laws.specs.Knowledge.{summary_of}
use Rattle.table_verify_laws.specs.Closed.{GivesBelow}
use Rattle.table_verify_rules.specs.steps.Knowing.{KeepsBy}
use Rattle.table_verify_rules.proofs.Owned.{told_by}
use Rattle.table_verify_rules.proofs.functions.is_closed.Goals as goal

pub returns-else-not-branch : goal.returns-else-not-branch
returns-else-not-branch c =
    let g = function_of c.args.member.now in let K = found c.args.known.now in let lenient = knowledge c.args.lenient.now c.args.known.now in let s = c.in-Known.summary in
    let known : summary_of (K g.home g.name) ≡ Some s = ap summary_of (ap (λ d. K g.home d.name) (sym c.get.ensures) ∙ sym c.find.ensures.value) ∙ elim c.in-Known.is [ inl e ↦ ap summary_of e | inr e ↦ ap summary_of e ] in
    IfOk-weaker c.gives_below-in-Known.result (λ b. IsTrue b ↔ GivesBelow lenient g s.lenient) (λ b. IsTrue b ↔ KeepsBy K lenient g)
    (λ b more. told_by K lenient g s known c.in_ok-gives_below-in-Known.field-0 b
    (rw c.get-in-Known.ensures at c.in_ok-gives_below-in-Known.ensures) c.if-not-branch.false more)
    (rw c.get-in-Known-2.ensures at c.gives_below-in-Known.ensures)
