use Rattle.std.proofs.Common.{ap}
use Rattle.type_kinds.proofs.Results.{on_both}
use Rattle.cons_tree.specs.Callees.{found}
use Rattle.comp_rounds.specs.Members.{function_of}
use Rattle.comp_rounds.proofs.Naming.{callee_fits, set_function}
use Rattle.comp_rounds.proofs.entering.enter.Goals as goal

pub set-requires : goal.set-requires
set-requires c = callee_fits c.args.member.now c.args.summary c.callee.result c.get.result.now c.callee.ensures c.get.ensures c.requires

pub returns : goal.returns
returns c =
    on_both c.set.result c.set.ensures.set c.set.ensures.others
    (set_function (found c.args.known.now) (found c.set.new.self) (function_of c.args.member.now) c.args.summary c.callee.result
    c.get.result.now.name c.callee.ensures (ap (λ d. d.name) c.get.ensures))
