use Rattle.type_bytes.proofs.FormatLaws.{are_bytes}
use Rattle.type_bytes.proofs.TypeFormats.{taken, not_taken, left_shorter}
use Rattle.type_lattice_trees.specs.View.{view}
use Rattle.type_bytes.proofs.taking.take_first.Goals as goal

pub returns-in-Ok-clause-ok : goal.returns-in-Ok-clause-ok
returns-in-Ok-clause-ok c = (taken c.args.bytes.now c.in-Ok.rest.now c.of_node.result (view 4 c.in-Ok.node) c.of_node.ensures (are_bytes c.args.bytes.now (λ i. (c.type_inv.bytes i).fits)) c.in-Ok.ensures.read).0

pub returns-in-Ok-clause-names : goal.returns-in-Ok-clause-names
returns-in-Ok-clause-names c = (taken c.args.bytes.now c.in-Ok.rest.now c.of_node.result (view 4 c.in-Ok.node) c.of_node.ensures (are_bytes c.args.bytes.now (λ i. (c.type_inv.bytes i).fits)) c.in-Ok.ensures.read).1

pub returns-in-Ok-clause-shorter : goal.returns-in-Ok-clause-shorter
returns-in-Ok-clause-shorter c = left_shorter c.args.bytes.now c.in-Ok.rest.now c.of_node.result
    (taken c.args.bytes.now c.in-Ok.rest.now c.of_node.result (view 4 c.in-Ok.node) c.of_node.ensures (are_bytes c.args.bytes.now (λ i. (c.type_inv.bytes i).fits)) c.in-Ok.ensures.read).0

pub returns-in-Err-Short-clause-none : goal.returns-in-Err-Short-clause-none
returns-in-Err-Short-clause-none c = λ e. not_taken c.args.bytes.now (rw c.in-Err-Short.field-0-is at c.in-Err-Short.ensures.read)

pub returns-in-Err-NotCanonical-clause-none : goal.returns-in-Err-NotCanonical-clause-none
returns-in-Err-NotCanonical-clause-none c = λ e. not_taken c.args.bytes.now (rw c.in-Err-NotCanonical.field-0-is at c.in-Err-NotCanonical.ensures.read)
