use Rattle.std.proofs.Common.{length, sym, ap, ◌∙◌, arith}
use Rattle.std.proofs.lemmas.List.{take_all}
use Rattle.comp_rounds.proofs.inference.first_types.Goals as goal

pub returns-then-count-all : goal.returns-then-count-all
returns-then-count-all c =
    let xs = c.args.slots.now.types in
    c.in_ok-types.ensures ∙ c.as_slice-all.ensures ∙ sym (take_all c.args.count xs (omega (arith, c.if-count-all.true, ap length c.as_slice-all.ensures)))
