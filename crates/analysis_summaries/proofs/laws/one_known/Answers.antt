use Rattle.analysis_summaries.proofs.OneKnown as one
use Rattle.analysis_summaries.proofs.laws.one_known.Goals as goal

pub returns : goal.returns
returns c = λ outside xs known other a b. one.one_known c.one_numbering.ensures outside xs known other a b
