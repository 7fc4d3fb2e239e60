-- Text that is added in three parts, where the call that adds the last of them may fail.
use Rattle.std.proofs.Common.{◌≡◌, List, ◌++◌, Result, Ok, Err, OnOk}
use Rattle.type_kinds.proofs.Lists.{three_parts}

pub last_may_fail : {A E X : Type 0} (r : Result A E) (o p q s a b c : List X) → p ≡ o ++ a → q ≡ p ++ b → OnOk r (s ≡ q ++ c) → OnOk r (s ≡ o ++ (a ++ b ++ c))
last_may_fail (Ok x) o p q s a b c first second third = three_parts o p q s a b c first second third
last_may_fail (Err e) o p q s a b c first second third = third
