-- An arity that tokens spell is at most 255.
use Rattle.std.proofs.Common.{◌≡◌, ◌≤◌, ℤ, pos, negsuc, Bool, true, false, refl, arith}
use Rattle.std.specs.Prelude.{if◌then◌else◌, nat_le}
use Rattle.std.proofs.lemmas.Bool.Decides.{nat_tests}
use Rattle.core_parse_grammar.specs.Build.{magnitude}

pub magnitude_small : (z : ℤ) → magnitude z ≤ 255
magnitude_small (pos n) = by (nat_le n 255) refl
  where
    by : (t : Bool) → nat_le n 255 ≡ t → (if t then n else 0) ≤ 255
    by true e = grind (arith, nat_tests)
    by false e = omega arith
magnitude_small (negsuc n) = omega arith
