-- Arithmetic and exact rows, worked by hand.
use Rattle.std.proofs.Common.{◌≡◌, pos, negsuc, true, false, ◌∷◌, [], Some, None, refl}
use Rattle.std.specs.Prelude.{codes}
use Rattle.bif_types.specs.Results.{computed, is_exact}

-- 7 and -7 divided by 2 and -2: `negsuc 2` is -3
seven_by_two : computed (codes "div") (pos 7 ∷ pos 2 ∷ []) ≡ Some (pos 3)
seven_by_two = refl

minus_seven_by_two : computed (codes "div") (negsuc 6 ∷ pos 2 ∷ []) ≡ Some (negsuc 2)
minus_seven_by_two = refl

seven_by_minus_two : computed (codes "div") (pos 7 ∷ negsuc 1 ∷ []) ≡ Some (negsuc 2)
seven_by_minus_two = refl

rest_of_seven : computed (codes "rem") (pos 7 ∷ negsuc 1 ∷ []) ≡ Some (pos 1)
rest_of_seven = refl

rest_of_minus_seven : computed (codes "rem") (negsuc 6 ∷ pos 2 ∷ []) ≡ Some (negsuc 0)
rest_of_minus_seven = refl

nothing_by_zero : computed (codes "div") (pos 7 ∷ pos 0 ∷ []) ≡ None
nothing_by_zero = refl

no_rest_by_zero : computed (codes "rem") (negsuc 6 ∷ pos 0 ∷ []) ≡ None
no_rest_by_zero = refl

two_less_five : computed (codes "-") (pos 2 ∷ pos 5 ∷ []) ≡ Some (negsuc 2)
two_less_five = refl

minus_two : computed (codes "-") (pos 2 ∷ []) ≡ Some (negsuc 1)
minus_two = refl

-- `div` is exact, `band` isn't, and a name outside the table isn't
division_is_exact : is_exact (codes "div") 2 ≡ true
division_is_exact = refl

bits_are_not : is_exact (codes "band") 2 ≡ false
bits_are_not = refl

head_is_exact : is_exact (codes "hd") 1 ≡ true
head_is_exact = refl

others_are_not : is_exact (codes "send") 2 ≡ false
others_are_not = refl
