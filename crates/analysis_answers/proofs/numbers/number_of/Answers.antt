use Rattle.std.proofs.Common.{sym, ◌∙◌, ◌<◌, ◌≤◌, ◌^◌, subst, arith}
use Rattle.analysis_answers.proofs.PrintedNumbers.{not_begun, not_digits, all_digits, not_so_many, too_many_told, number_so}
use Rattle.analysis_answers.proofs.numbers.number_of.Goals as goal

pub returns-then-not-begins_number : goal.returns-then-not-begins_number
returns-then-not-begins_number c =
    λ n least low e. not_begun c.as_bytes-digits.result.now c.begins_number.result c.begins_number.ensures c.if-not-begins_number.true n least (omega (arith, low, c.requires)) (c.as_bytes-digits.ensures.value ∙ e)

pub returns-then-digits_len-digits : goal.returns-then-digits_len-digits
returns-then-digits_len-digits c =
    λ n least low e. not_digits c.as_bytes-digits.result.now c.digits_len.result c.digits_len.ensures.front c.if-digits_len-digits.true n (omega (arith, low, c.requires)) (c.as_bytes-digits.ensures.value ∙ e)

pub parse_decimal-requires : goal.parse_decimal-requires
parse_decimal-requires c = all_digits c.as_bytes-digits.result.now c.digits_len.result c.digits_len.ensures.front c.if-digits_len-digits.false

pub returns-in_default : goal.returns-in_default
returns-in_default c =
    λ n least low e. not_so_many c.as_bytes-digits.result.now (2 ^ 127) c.in_default.ensures n (omega (arith, low, c.requires)) (omega (arith, low, c.requires)) (c.as_bytes-digits.ensures.value ∙ e)

pub returns-then-number-from : goal.returns-then-number-from
returns-then-number-from c =
    λ n least low e. too_many_told c.as_bytes-digits.result.now c.in-Some.number c.args.most c.in-Some.ensures.0 (subst (λ m. m < c.in-Some.number) c.from.ensures c.if-number-from.true) n low (omega (arith, low, c.requires))
    (c.as_bytes-digits.ensures.value ∙ e)

pub returns : goal.returns
returns c =
    let so = number_so c.as_bytes-digits.result.now c.begins_number.result c.in-Some.number c.args.most (omega (arith, c.requires)) c.begins_number.ensures c.if-not-begins_number.false
    (all_digits c.as_bytes-digits.result.now c.digits_len.result c.digits_len.ensures.front c.if-digits_len-digits.false) c.in-Some.ensures.0 (subst (λ m. c.in-Some.number ≤ m) c.from.ensures c.if-number-from.false) in
    (sym c.as_bytes-digits.ensures.value ∙ so.0, so.1, so.2)
