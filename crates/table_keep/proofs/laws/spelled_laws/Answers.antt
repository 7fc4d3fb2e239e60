use Rattle.table_keep.proofs.SpelledLaws.{small_exports, few_functions}
use Rattle.table_keep.proofs.laws.spelled_laws.Goals as goal

pub returns : goal.returns
returns c = record { small = λ x f h e. small_exports x f h e; few = λ ts x h. few_functions ts x h }
