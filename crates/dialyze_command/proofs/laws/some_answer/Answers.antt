use Rattle.dialyze_command.proofs.GeneratedTexts as texts
use Rattle.dialyze_command.proofs.SomeAnswer.{answered, comes_to_modules}
use Rattle.dialyze_command.proofs.laws.some_answer.Goals as goal

pub returns : goal.returns
returns c = λ words held are_bytes.
    answered c.table_or_fault.ensures c.read_or_refused.ensures words held are_bytes
    (comes_to_modules c.read_or_refused.ensures
    (λ n few. texts.none_refused c.generated_is_accepted.ensures.accepted c.generated_is_accepted.ensures.short c.spelled_module_is_read.ensures.no_other c.spelled_module_is_read.ensures.no_fault n few)
    (λ n few. texts.own_names c.generated_is_accepted.ensures.accepted c.generated_is_accepted.ensures.short c.spelled_module_is_read.ensures.no_other c.spelled_module_is_read.ensures.no_fault n few)
    words)
