use Rattle.std.proofs.Common.{◌++◌, ◌∙◌, sym, ap, codes}
use Rattle.std.specs.Fmt.{decimal}
use Rattle.warn_list.specs.Lines.{callee_text}
use Rattle.type_kinds.proofs.Lists.{three_parts}
use Rattle.warn_list.proofs.printing.append_callee.Goals as goal

pub returns-in_ok-append-in-Value-2 : goal.returns-in_ok-append-in-Value-2
returns-in_ok-append-in-Value-2 c =
    three_parts c.args.out.now c.append-in-Value.new.self c.append_decimal.new.self c.append-in-Value-2.new.self (codes "the call of a value with ") (decimal c.in-Value.count) (codes " arguments")
    (c.in_ok-append-in-Value.ensures.ok) (c.in_ok-append_decimal-in-Value.ensures.ok) (c.in_ok-append-in-Value-2.ensures.ok)
    ∙ ap (λ k. c.args.out.now ++ callee_text k) (sym c.in-Value.is)
