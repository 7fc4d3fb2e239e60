use Rattle.table_keep.proofs.CallLaws.{called_exactly, called_rise, modules_exactly, modules_rise, exported_exactly}
use Rattle.table_keep.proofs.laws.call_laws.Goals as goal

pub returns : goal.returns
returns c = record {
  functions = λ x d. called_exactly x d;
  functions_rise = λ x. called_rise x;
  modules = λ x h. modules_exactly x h;
  modules_rise = λ x. modules_rise x;
  exports = λ x f. exported_exactly x f;
}
