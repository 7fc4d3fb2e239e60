use Rattle.std.specs.Prelude.{codes}
use Rattle.std.specs.Fmt.{decimal}
use Rattle.core_make.proofs.Parts.{last_may_fail}
use Rattle.core_make.proofs.modules.append_zero_clause.Goals as goal

pub returns : goal.returns
returns c =
    last_may_fail c.append-2.result c.args.out.now c.append.new.self c.append_decimal.new.self c.append-2.new.self (codes "<0> when 'true' -> 'z") (decimal c.args.i) (codes "'\n")
    c.in_ok-append.ensures.ok c.in_ok-append_decimal.ensures.ok c.append-2.ensures.ok
