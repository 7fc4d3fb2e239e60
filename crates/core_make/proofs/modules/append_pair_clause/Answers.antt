use Rattle.std.specs.Prelude.{codes}
use Rattle.core_make.specs.Modules.{name_text}
use Rattle.core_make.proofs.Parts.{last_may_fail}
use Rattle.core_make.proofs.modules.append_pair_clause.Goals as goal

pub returns : goal.returns
returns c =
    last_may_fail c.append-2.result c.args.out.now c.append.new.self c.append_name.new.out c.append-2.new.self (codes "<{'ok',Y}> when 'true' -> call ") (name_text c.args.next) (codes ":'f'(Y) end\n")
    c.in_ok-append.ensures.ok c.in_ok-append_name.ensures c.append-2.ensures.ok
