use Rattle.std.proofs.Common.{◌∷◌, [], ℤ, pos, get_or, length, refl, rules, sym}
use Rattle.std.specs.List.{flat_map}
use Rattle.std.proofs.lemmas.Grind.{flat_map-append}
use Rattle.std.proofs.lemmas.List.{append-nil}
use Rattle.std.proofs.lemmas.Int.{to_z-of_z}
use mir.Val.{SFits}
use mir.Syntax.{w128}
use Rattle.type_bytes.specs.Spelling.{int_bytes}
use Rattle.type_bytes.proofs.Fronts.{still_front}
use Rattle.type_bytes.proofs.Writes.{one_more}
use Rattle.type_bytes.proofs.writing.append_numbers.Goals as goal

pub loop-n-preserved : goal.loop-n-preserved
loop-n-preserved c =
    let n : ℤ = get_or c.args.numbers.now c.loop-n.n-index (pos 0) in
    let fits : SFits w128 n = search rules in
    one_more (flat_map int_bytes) (flat_map-append int_bytes) c.args.numbers.now c.loop-n.n-index (pos 0) n c.loop-n-test.true refl (length c.args.numbers.now ∷ []) c.args.out.now c.loop-n.out _ _ c.loop-n.invariant
    (simp to_z-of_z at c.in_ok-append_int.ensures.ok) (sym (append-nil (int_bytes n)))

pub returns-in_err-append_int-clause-front : goal.returns-in_err-append_int-clause-front
returns-in_err-append_int-clause-front c = still_front c.args.out.now c.loop-n.out c.append_int.new.out _ c.loop-n.invariant c.append_int.ensures.front
