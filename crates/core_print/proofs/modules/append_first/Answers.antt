use Rattle.std.proofs.lemmas.Result.{on_ok_weaker}
use Rattle.core_print.proofs.PartLemmas.{first_open, first_bare}
use Rattle.core_print.proofs.modules.append_first.Goals as goal
use Rattle.std.proofs.Common.{sym, ◌∙◌}

pub returns-then-is_written : goal.returns-then-is_written
returns-then-is_written c = on_ok_weaker c.append.result (first_open c.args.note.now c.args.out.now _ c.requires (sym c.is_written.ensures ∙ c.if-is_written.true)) c.append.ensures.ok

pub returns : goal.returns
returns c = on_ok_weaker c.append-2.result (first_bare c.args.note.now c.args.out.now _ c.requires (sym c.is_written.ensures ∙ c.if-is_written.false)) c.append-2.ensures.ok
