use Rattle.std.proofs.lemmas.Result.{on_ok_weaker}
use Rattle.core_print.proofs.PartLemmas.{name_written}
use Rattle.core_print.proofs.leaves.append_name.Goals as goal

pub returns : goal.returns
returns c = on_ok_weaker c.append_decimal.result (name_written c.args.name.now _ _ _ _ c.in_ok-append_atom.ensures c.in_ok-append.ensures.ok) c.append_decimal.ensures.ok
