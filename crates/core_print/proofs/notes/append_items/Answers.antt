use Rattle.std.proofs.lemmas.Result.{on_ok_weaker}
use Rattle.core_print.proofs.PartLemmas.{line_and_flag, flag_alone}
use Rattle.core_print.proofs.notes.append_items.Goals as goal

pub returns-then-note : goal.returns-then-note
returns-then-note c = on_ok_weaker c.append-then-note.result (λ e. line_and_flag _ _ _ _ _ _ _ c.in-Some.is c.if-note.true c.in_ok-append.ensures.ok c.in_ok-append_decimal.ensures.ok e) c.append-then-note.ensures.ok

pub returns-then-note-2 : goal.returns-then-note-2
returns-then-note-2 c = on_ok_weaker c.append-then-note-2.result (λ e. flag_alone _ _ _ _ c.in_default.not-Some c.if-note-2.true e) c.append-then-note-2.ensures.ok
