use Rattle.analysis_sources.proofs.OneRead.{one_list, one_refusal, none_refused}
use Rattle.analysis_sources.proofs.laws.one_reading_of_files.Goals as goal

pub returns-clause-one_list : goal.returns-clause-one_list
returns-clause-one_list c = λ held files xs ys a b h k.
    (one_list c.one_reading.ensures.one_module c.one_reading.ensures.one_fault c.one_reading.ensures.never_both held 0 files xs ys a b h k).0

pub returns-clause-one_refusal : goal.returns-clause-one_refusal
returns-clause-one_refusal c = λ held files i j f g h k.
    one_refusal c.one_reading.ensures.one_module c.one_reading.ensures.one_fault c.one_reading.ensures.never_both held files i j f g h k

pub returns-clause-none_refused : goal.returns-clause-none_refused
returns-clause-none_refused c = λ held files xs after i f h k.
    none_refused c.one_reading.ensures.one_module c.one_reading.ensures.one_fault c.one_reading.ensures.never_both held files xs after i f h k
