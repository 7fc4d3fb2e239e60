use Rattle.std.proofs.Common.{◌++◌, ◌∙◌, sym, ap, codes}
use Rattle.warn_list.specs.Lines.{callee_text, kind_text}
use Rattle.type_kinds.proofs.Lists.{two_parts}
use Rattle.warn_list.proofs.printing.append_kind.Goals as goal

pub returns-in_ok-append-in-DeadCall : goal.returns-in_ok-append-in-DeadCall
returns-in_ok-append-in-DeadCall c =
    two_parts c.args.out.now c.append_callee.new.out c.append-in-DeadCall.new.self (callee_text c.in-DeadCall.callee) (codes " never returns")
    (c.in_ok-append_callee-in-DeadCall.ensures) (c.in_ok-append-in-DeadCall.ensures.ok)
    ∙ ap (λ k. c.args.out.now ++ kind_text k) (sym c.in-DeadCall.is)

pub returns-in_ok-append-in-DeadClause : goal.returns-in_ok-append-in-DeadClause
returns-in_ok-append-in-DeadClause c = c.in_ok-append-in-DeadClause.ensures.ok ∙ ap (λ k. c.args.out.now ++ kind_text k) (sym c.in-DeadClause.is)
