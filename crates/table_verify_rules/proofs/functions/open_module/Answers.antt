use Rattle.std.proofs.Common.{map, ap, ◌∙◌, IfOk, subst}
use Rattle.cons_tree.specs.Callees.{found}
use Rattle.comp_rounds.specs.Members.{function_of}
use Rattle.analysis_summaries.specs.Functions.{all_functions}
use Rattle.table_verify_rules.specs.steps.Leasts.{IsLeastOpen}
use Rattle.table_verify_rules.proofs.Components.{components_so}
use Rattle.table_verify_rules.proofs.Sources.{trees_so}
use Rattle.table_verify_rules.proofs.functions.open_module.Goals as goal

pub least_open-least-requires : goal.least_open-least-requires
least_open-least-requires c =
    let r = c.in_ok-comps.ensures in
    components_so c.args.sources.now c.requires.distinct c.in_ok-graph.graph c.in_ok-graph.ensures.counted c.in_ok-graph.ensures.pairs c.in_ok-comps.comps
    (record { nodes = r.nodes; together = r.together; downward = r.downward; used = r.used; ready = r.ready; members = r.members; callees = r.callees; kept = r.kept })
    (map function_of c.in_ok-members.members) c.in_ok-members.ensures

pub returns : goal.returns
returns c =
    subst (λ fs. IfOk c.least_open-least.result (λ name. IsLeastOpen fs (found c.args.known.now) fs name))
    (c.in_ok-members.ensures ∙ ap all_functions (trees_so c.args.sources.now)) c.least_open-least.ensures
