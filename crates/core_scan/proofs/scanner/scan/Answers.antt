use Rattle.std.proofs.Common.{sym, ◌∙◌}
use Rattle.std.proofs.lemmas.List.{take_rest}
use Rattle.std.proofs.lemmas.Result.{err_from_is_err_and}
use Rattle.core_scan.specs.Bytes.{start}
use Rattle.core_scan.proofs.PassLemmas.{setting_out, further, all_lexed, all_tokens, first_fault, lexed_once, never_both}
use Rattle.core_scan.proofs.scanner.scan.Goals as goal

pub loop-rest-init : goal.loop-rest-init
loop-rest-init c = setting_out c.args.text.now c.new-tokens.result c.new-tokens.ensures

pub loop-rest-preserved : goal.loop-rest-preserved
loop-rest-preserved c = further c.args.text.now c.loop-rest.place c.past-place.result c.loop-rest.rest.now _ c.loop-rest.tokens c.step.new.tokens c.in_ok-len.len c.loop-rest.invariant c.in_ok-len.ensures.ok c.past-place.ensures
    (take_rest c.loop-rest.rest.now c.in_ok-len.len)

pub returns-in_err-len-clause-fault : goal.returns-in_err-len-clause-fault
returns-in_err-len-clause-fault c =
    let p = err_from_is_err_and c.from_residual.result c.from_residual.ensures.1 in
    rw (p.1, p.2) (λ other. first_fault c.args.text.now c.loop-rest.place c.loop-rest.rest.now c.loop-rest.tokens c.in_err-len.field-0.0 c.loop-rest.invariant (c.in_err-len.ensures.err other))

pub returns-in_err-len-clause-refused : goal.returns-in_err-len-clause-refused
returns-in_err-len-clause-refused c =
    let p = err_from_is_err_and c.from_residual.result c.from_residual.ensures.1 in
    rw (p.1, p.2) (λ other ts lexed. never_both start c.args.text.now ts c.in_err-len.field-0.0 lexed
    (first_fault c.args.text.now c.loop-rest.place c.loop-rest.rest.now c.loop-rest.tokens c.in_err-len.field-0.0 c.loop-rest.invariant (c.in_err-len.ensures.err other)))

pub returns-clause-tokens : goal.returns-clause-tokens
returns-clause-tokens c = all_lexed c.args.text.now c.loop-rest.place c.loop-rest.rest.now c.loop-rest.tokens c.loop-rest.invariant (sym c.is_empty.ensures ∙ c.loop-rest-test.false)

pub returns-clause-once : goal.returns-clause-once
returns-clause-once c = λ us lexed. lexed_once start c.args.text.now us c.loop-rest.tokens lexed
    (all_lexed c.args.text.now c.loop-rest.place c.loop-rest.rest.now c.loop-rest.tokens c.loop-rest.invariant (sym c.is_empty.ensures ∙ c.loop-rest-test.false))

pub returns-clause-kinds : goal.returns-clause-kinds
returns-clause-kinds c = all_tokens c.args.text.now c.loop-rest.place c.loop-rest.rest.now c.loop-rest.tokens c.loop-rest.invariant
