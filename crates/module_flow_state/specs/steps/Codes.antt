-- How the functions of a state are stored.
use Rattle.std.specs.Prelude.{List}
use Rattle.std.specs.Coded.{Coded, coded_list}
use Rattle.module_flow_state.specs.declared.states.FlowFun.{FlowFun}
use Rattle.module_flow_state.specs.contracts.states.FlowFun as flow_fun

abbrev pub functions_code : Coded (List FlowFun)
functions_code = coded_list (flow_fun.the_row).coded
