use Rattle.std.proofs.Common.{◌≡◌, true, map, ap, ◌∙◌, subst}
use Rattle.std.specs.Prelude.{option_map, slice_index}
use Rattle.std.proofs.lemmas.List.{get_or_default}
use Rattle.std.proofs.lemmas.Option.{slice_get-map}
use Rattle.cons_gen_rows.specs.Members.{is_member as is_own}
use Rattle.comp_rounds.specs.Members.{function_of}
use Rattle.comp_rounds.specs.Rounds.{is_member}
use Rattle.analysis_summaries.specs.Functions.{picked}
use Rattle.table_verify_rules.proofs.Owned.{next_owned}
use Rattle.table_verify_rules.proofs.functions.own_functions.Goals as goal

pub loop-number-preserved : goal.loop-number-preserved
loop-number-preserved c =
    let fs = map function_of c.args.members.now in let numbers = c.args.numbers.now in let i = c.loop-number.number-index in let n = slice_index numbers i in
    next_owned fs numbers i n (function_of c.at-member.result.now) (is_own c.loop-number.own) (is_own c.add.new.self) c.loop-number-test.true (get_or_default numbers i 0 n c.loop-number-test.true)
    (slice_get-map function_of c.args.members.now n ∙ ap (option_map function_of) c.at-member.ensures)
    (subst (λ d. is_own c.add.new.self c.at-member.result.now.home d.name ≡ true) c.get.ensures c.in_ok-add.ensures.added)
    (λ h f lacks. c.in_ok-add.ensures.others h f (λ w. lacks (w.0, w.1 ∙ ap (λ d. d.name) c.get.ensures))) (is_member (picked fs numbers)) c.loop-number.invariant
