use Rattle.std.proofs.Common.{refl, ◌∷◌, codes, subst, true}
use Rattle.std.proofs.lemmas.Result.{on_ok_weaker}
use Rattle.core_print.specs.Words.{reserved, symbol}
use Rattle.core_print.specs.Canonical.{exports}
use Rattle.core_print.specs.steps.Writes.{Writes}
use Rattle.core_print.proofs.Adding.{both, fixed}
use Rattle.core_print.proofs.modules.append_header.Goals as goal

pub returns : goal.returns
returns c =
    on_ok_weaker c.append-2.result
    (λ e.
    both c.in_ok-append_atom.ensures
    (both (fixed (λ rest. symbol (codes "[") ∷ rest) _ _ _ c.in_ok-append.ensures.ok (λ rest. refl))
    (both (subst (λ fs. Writes (exports true fs) c.append.new.self c.append_exports.new.out) c.as_slice.ensures c.in_ok-append_exports.ensures)
    (fixed (λ rest. symbol (codes "]") ∷ reserved (codes "attributes") ∷ symbol (codes "[") ∷ symbol (codes "]") ∷ rest) _ _ _ e (λ rest. refl)))))
    c.append-2.ensures.ok
