-- A choice between the same is the same.
use Rattle.std.proofs.Common.{◌≡◌, Bool, true, false, sym, true≢false}
use Rattle.std.specs.Prelude.{if◌then◌else◌}

pub both_ways : {A : Type 0} (t : Bool) {x y v w : A} → x ≡ v → y ≡ w → (if t then x else y) ≡ (if t then v else w)
both_ways true e f = e
both_ways false e f = f

pub first_way : {A : Type 0} (t : Bool) (x y v w : A) → t ≡ true → x ≡ v → (if t then x else y) ≡ (if t then v else w)
first_way true x y v w h e = e
first_way false x y v w h e = absurd (true≢false (sym h))
