use Rattle.std.proofs.Common.{sym, ◌∙◌}
use Rattle.std.proofs.lemmas.List.{take_rest}
use Rattle.std.proofs.lemmas.Result.{err_from_is_err_and}
use Rattle.core_scan.proofs.PassLemmas.{blank_step, comment_step, token_step}
use Rattle.core_scan.proofs.scanner.step.Goals as goal

pub one_token-requires-clause-room : goal.one_token-requires-clause-room
one_token-requires-clause-room c = c.requires.room

pub returns-then-is_blank-clause-ok : goal.returns-then-is_blank-clause-ok
returns-then-is_blank-clause-ok c = blank_step c.args.place c.args.rest.now c.args.tokens.now c.requires.some (sym c.is_blank.ensures ∙ c.if-is_blank.true)

pub returns-then-first-eq37-clause-ok : goal.returns-then-first-eq37-clause-ok
returns-then-first-eq37-clause-ok c = comment_step c.args.place c.args.rest.now c.args.tokens.now c.line_len.result c.requires.some c.if-first-eq37.true (simp take_rest at c.line_len.ensures.run)
    (simp take_rest at c.line_len.ensures.within)

pub returns-in_err-found-clause-err : goal.returns-in_err-found-clause-err
returns-in_err-found-clause-err c = let p = err_from_is_err_and c.from_residual.result c.from_residual.ensures.1 in rw (p.1, p.2) c.in_err-found.ensures.err

pub returns-clause-ok : goal.returns-clause-ok
returns-clause-ok c = token_step c.args.place c.args.rest.now c.args.tokens.now c.add.new.self c.in_ok-found.found.kind c.in_ok-found.found.len c.in_ok-found.ensures.ok c.in_ok-add.ensures.ok
