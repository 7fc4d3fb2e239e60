use Rattle.std.proofs.Common.{inl, refl}
use Rattle.fun_flow_sets.specs.Items.{holds, part, closure_at}
use Rattle.fun_flow_sets.specs.Sets.{may_hold}
use Rattle.fun_flow_sets.proofs.RuleLaws.{fun_holds, name_stands, external_holds}
use Rattle.fun_flow_sets.proofs.rules.functions_have_themselves.Goals as goal

pub returns-clause-funs : goal.returns-clause-funs
returns-clause-funs c U home sc k i xs t h = fun_holds U home sc k i xs t h

pub returns-clause-names : goal.returns-clause-names
returns-clause-names c U home sc k i f d h e = may_hold (name_stands U home sc k i f d (holds (part home i.label 0) (closure_at home d.label d.arity)) h e (inl refl))

pub returns-clause-externals : goal.returns-clause-externals
returns-clause-externals c U home sc k i x f h = external_holds U home sc k i x f h
