use Rattle.std.proofs.Common.{◌≡◌, ◌↔◌, ℕ, ◌∙◌, subst}
use Rattle.std.proofs.lemmas.Result.{on_ok_weaker}
use Rattle.indexmap.specs.IndexMap.{keys}
use Rattle.components.specs.Graph.{Leads}
use Rattle.core_scope.specs.Checked.{tree_of}
use Rattle.table_keep.specs.Calls.{called_modules}
use Rattle.table_keep.specs.steps.Named.{IsNamed}
use Rattle.table_keep.proofs.CallPairs.{With}
use Rattle.table_keep.proofs.GraphLaws.{modules_called}
use Rattle.table_keep.proofs.module_graph.add_calls_by.Goals as goal

pub returns-clause-pairs : goal.returns-clause-pairs
returns-clause-pairs c =
    let is : c.as_slice-2.result.now ≡ called_modules (tree_of c.args.source.now.checked) =
    c.as_slice-2.ensures ∙ c.in_ok-names.ensures ∙ modules_called (tree_of c.args.source.now.checked) c.as_slice.result.now (c.as_slice.ensures ∙ c.in_ok-functions.ensures) in
    on_ok_weaker c.add_calls.result (λ pairs.
    subst (λ l. (i j : ℕ) → Leads c.add_calls.new.graph i j ↔ With c.args.graph.now c.args.from (IsNamed (keys c.args.found.now) l) i j) is pairs) c.add_calls.ensures.pairs
