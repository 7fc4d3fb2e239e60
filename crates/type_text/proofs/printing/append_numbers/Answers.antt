use Rattle.std.proofs.Common.{map, ℤ, pos, get_or, refl, rules}
use Rattle.std.specs.Fmt.{signed_decimal}
use Rattle.std.proofs.lemmas.Int.{to_z-of_z}
use Rattle.std.proofs.lemmas.List.{map-append}
use mir.Val.{SFits}
use mir.Syntax.{w128}
use Rattle.type_text.proofs.Adding.{one_word, one_more}
use Rattle.type_text.proofs.printing.append_numbers.Goals as goal

pub loop-n-preserved : goal.loop-n-preserved
loop-n-preserved c =
    let n : ℤ = get_or c.args.numbers.now c.loop-n.n-index (pos 0) in
    let fits : SFits w128 n = search rules in
    one_more (map signed_decimal) (map-append signed_decimal) c.args.numbers.now c.loop-n.n-index (pos 0) n c.loop-n-test.true refl c.loop-n.invariant
    (one_word c.in_ok-separate.ensures.ok (signed_decimal n) c.append_decimal.new.self (simp to_z-of_z at c.in_ok-append_decimal.ensures.ok))
