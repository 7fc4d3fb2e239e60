use Rattle.std.proofs.Common.{◌<◌, ◌∷◌, [], ◌++◌, List, map, take, sym, ap, ◌∙◌, subst, append-nil}
use Rattle.std.specs.Prelude.{option_map, slice_index}
use Rattle.std.proofs.lemmas.List.{get_or_default, length-map, take_all}
use Rattle.std.proofs.lemmas.Option.{slice_get-map}
use Rattle.cons_tree.specs.Callees.{found}
use Rattle.cons_gen_rows.specs.Knowing.{knowledge}
use Rattle.comp_rounds.specs.Members.{function_of}
use Rattle.comp_rounds.specs.Rounds.{Function}
use Rattle.analysis_summaries.specs.Functions.{picked}
use Rattle.sound_laws_whole.proofs.Tables.{picked_has}
use Rattle.table_verify_laws.specs.Closed.{IsClosedAt}
use Rattle.table_verify_rules.specs.steps.Leasts.{IsLeastOpen}
use Rattle.table_verify_rules.proofs.Closedness.{told_closed}
use Rattle.table_verify_rules.proofs.Components.{picked_next}
use Rattle.table_verify_rules.proofs.Leasts.{next_least}
use Rattle.table_verify_rules.proofs.functions.with_members.Goals as goal

pub at-member-requires : goal.at-member-requires
at-member-requires c =
    let numbers = c.args.numbers.now in let i = c.loop-number.number-index in let n = slice_index numbers i in
    subst (λ k. n < k) (length-map c.args.members.now function_of) (c.requires.component.within n (i, c.loop-number-test.true, sym (get_or_default numbers i 0 n c.loop-number-test.true)))

pub loop-number-init : goal.loop-number-init
loop-number-init c = λ before is. subst (λ gs. IsLeastOpen (map function_of c.args.members.now) (found c.args.known.now) gs c.args.least) (sym (append-nil before)) is

pub loop-number-preserved : goal.loop-number-preserved
loop-number-preserved c =
    let fs = map function_of c.args.members.now in let K = found c.args.known.now in let numbers = c.args.numbers.now in
    let i = c.loop-number.number-index in let n = slice_index numbers i in let is_number = get_or_default numbers i 0 n c.loop-number-test.true in let g = function_of c.at-member.result.now in
    let there = slice_get-map function_of c.args.members.now n ∙ ap (option_map function_of) c.at-member.ensures in
    let has = picked_has fs numbers n g (i, c.loop-number-test.true, sym is_number) there in
    let told = told_closed fs numbers c.requires.component K (knowledge c.args.lenient.now c.args.known.now) c.requires.lenient g has c.in_ok-closed.closed c.in_ok-closed.ensures in
    λ before is.
    subst (λ gs. IsLeastOpen fs K gs c.in_ok-least.least) (sym (picked_next fs numbers i n g c.loop-number-test.true is_number there before))
    (subst (IsLeastOpen fs K ((before ++ picked fs (take i numbers)) ++ g ∷ [])) (sym c.in_ok-least.ensures)
    (next_least (λ k. k.home) (IsClosedAt fs K) (before ++ picked fs (take i numbers)) g c.in_ok-closed.closed told c.loop-number.least (c.loop-number.invariant before is)))

pub returns : goal.returns
returns c =
    let fs = map function_of c.args.members.now in let K = found c.args.known.now in
    subst (λ js. (before : List Function) → IsLeastOpen fs K before c.args.least → IsLeastOpen fs K (before ++ picked fs js) c.loop-number.least)
    (take_all c.loop-number.number-index c.args.numbers.now c.loop-number-test.false) c.loop-number.invariant
