use Rattle.std.proofs.Common.{inr}
use Rattle.fun_flow_sets.specs.Items.{holds, parameter, anything}
use Rattle.fun_flow_sets.specs.Sets.{may_hold}
use Rattle.fun_flow_sets.proofs.RuleLaws.{fun_opens, name_stands, opened, export_opens}
use Rattle.fun_flow_sets.proofs.rules.parameters_may_be_anything.Goals as goal

pub returns-clause-of_funs : goal.returns-clause-of_funs
returns-clause-of_funs c U home sc k i xs t n h b = fun_opens U home sc k i xs t n h b

pub returns-clause-of_names : goal.returns-clause-of_names
returns-clause-of_names c U home sc k i f d n h e b = may_hold (name_stands U home sc k i f d (holds (parameter home d.label n) anything) h e (inr (opened home d.label d.arity n b)))

pub returns-clause-of_exports : goal.returns-clause-of_exports
returns-clause-of_exports c U home f d n e is b = export_opens U home f d n e is b
