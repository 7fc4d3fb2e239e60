use Rattle.std.specs.Prelude.{◌+◌, ◌%◌, codes}
use Rattle.core_make.specs.Modules.{zero_clause, pair_clause}
use Rattle.core_make.proofs.Parts.{last_may_fail}
use Rattle.core_make.proofs.modules.append_f.Goals as goal

pub returns : goal.returns
returns c =
    last_may_fail c.append_pair_clause.result c.args.out.now c.append.new.self c.append_zero_clause.new.out c.append_pair_clause.new.out (codes "'f'/1 = fun (X) -> case X of\n") (zero_clause c.args.i)
    (pair_clause ((c.args.i + 1) % c.args.n))
    c.in_ok-append.ensures.ok c.in_ok-append_zero_clause.ensures c.append_pair_clause.ensures
