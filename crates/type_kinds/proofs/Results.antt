-- What holds where there is a value, beside what std has of it.
use Rattle.std.proofs.Common.{Result, Ok, Err, OnOk}

pub always : {A E P : Type 0} (r : Result A E) → P → OnOk r P
always (Ok x) p = p
always (Err x) p = tt

pub on_both : {A E P Q R : Type 0} (r : Result A E) → OnOk r P → OnOk r Q → (P → Q → R) → OnOk r R
on_both (Ok x) p q f = f p q
on_both (Err x) p q f = tt
