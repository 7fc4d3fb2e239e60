use Rattle.std.proofs.Common.{refl, ◌∷◌, codes, subst}
use Rattle.std.proofs.lemmas.Result.{on_ok_weaker}
use Rattle.core_ast.specs.Tree.{all_defs}
use Rattle.core_print.specs.Words.{reserved}
use Rattle.core_print.specs.Canonical.{definitions}
use Rattle.core_print.specs.steps.Writes.{Writes}
use Rattle.core_print.proofs.Adding.{fixed}
use Rattle.core_print.proofs.PartLemmas.{begun, ended}
use Rattle.core_print.proofs.modules.append_module.Goals as goal

pub returns : goal.returns
returns c =
    on_ok_weaker c.append-2.result
    (λ e.
    ended
    (begun (begun (begun (begun c.in_ok-append_first.ensures c.in_ok-append_header.ensures)
    (subst (λ ds. Writes (definitions (all_defs ds)) c.append_header.new.out c.append_definitions.new.out) c.as_slice.ensures c.in_ok-append_definitions.ensures))
    (fixed (λ rest. reserved (codes "end") ∷ rest) _ _ _ c.in_ok-append.ensures.ok (λ rest. refl)))
    c.in_ok-append_closed.ensures)
    e)
    c.append-2.ensures.ok
