use Rattle.std.proofs.Common.{refl, ◌∷◌, codes}
use Rattle.std.proofs.lemmas.Result.{on_ok_weaker}
use Rattle.core_print.specs.Words.{reserved, symbol}
use Rattle.core_print.proofs.Adding.{both, fixed}
use Rattle.core_print.proofs.leaves.append_external.Goals as goal

pub returns : goal.returns
returns c = on_ok_weaker c.append_name.result (λ e. (both (fixed (λ rest. reserved (codes "fun") ∷ rest) _ _ _ c.in_ok-append.ensures.ok (λ rest. refl))
    (both c.in_ok-append_atom.ensures (both (fixed (λ rest. symbol (codes ":") ∷ rest) _ _ _ c.in_ok-append-2.ensures.ok (λ rest. refl)) e)))) c.append_name.ensures
