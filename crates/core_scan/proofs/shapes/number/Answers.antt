use Rattle.std.proofs.Common.{◌≡◌, ◌≤◌, ◌^◌, ◌+◌, ◌-◌, arith, drop, take, refl}
use Rattle.std.proofs.lemmas.List.{take_rest}
use Rattle.std.proofs.lemmas.Int.{to_z-of_z}
use Rattle.type_kinds.specs.Digits.{number}
use Rattle.core_scan.specs.steps.Fronts.{fraction_len}
use Rattle.type_kinds.proofs.DigitLaws.{front_digits}
use Rattle.core_scan.proofs.ShapeLemmas.{float_found, integer_found, integer_wide}
use Rattle.core_scan.proofs.shapes.number.Goals as goal
use mir.Val.{SFits}
use mir.Syntax.{w128}

pub parse_decimal-requires : goal.parse_decimal-requires
parse_decimal-requires c =
    let size : c.args.sign + c.args.whole - c.args.sign ≡ c.args.whole = omega arith in
    rw (size, c.requires.whole) (front_digits (drop c.args.sign c.args.rest.now))

pub returns-then-fraction-gt0-clause-ok : goal.returns-then-fraction-gt0-clause-ok
returns-then-fraction-gt0-clause-ok c =
    float_found c.args.rest.now c.args.sign c.args.whole c.requires.sign c.requires.whole c.requires.some c.in_ok-from_slice.field-0 c.fraction_len-fraction.result (simp take_rest at c.fraction_len-fraction.ensures.front) (omega arith)
    (simp take_rest at c.fraction_len-fraction.ensures.within) c.in_ok-from_slice.ensures

pub returns-in_default-clause-err : goal.returns-in_default-clause-err
returns-in_default-clause-err c =
    let front : c.fraction_len-fraction.result ≡ fraction_len (drop (c.args.sign + c.args.whole) c.args.rest.now) = simp take_rest at c.fraction_len-fraction.ensures.front in
    let size : c.args.sign + c.args.whole - c.args.sign ≡ c.args.whole = omega arith in
    let far : 2 ^ 127 ≤ number 10 (take c.args.whole (drop c.args.sign c.args.rest.now)) = rw size at c.in_default.ensures in
    λ _. integer_wide c.args.rest.now c.args.sign c.args.whole c.requires.sign c.requires.whole c.requires.some c.args.place (omega arith) far

pub returns-clause-ok : goal.returns-clause-ok
returns-clause-ok c =
    let front : c.fraction_len-fraction.result ≡ fraction_len (drop (c.args.sign + c.args.whole) c.args.rest.now) = simp take_rest at c.fraction_len-fraction.ensures.front in
    let size : c.args.sign + c.args.whole - c.args.sign ≡ c.args.whole = omega arith in
    let is : c.in-Some.magnitude ≡ number 10 (take c.args.whole (drop c.args.sign c.args.rest.now)) = rw size at c.in-Some.ensures.0 in
    let fits : SFits w128 c.signed.result = record { sfits = c.signed.type_inv } in
    integer_found c.args.rest.now c.args.sign c.args.whole c.requires.sign c.requires.whole c.requires.some _ _ c.in-Some.magnitude (omega arith) is c.in-Some.ensures.1 (rw (to_z-of_z w128 c.signed.result fits) c.signed.ensures) refl
