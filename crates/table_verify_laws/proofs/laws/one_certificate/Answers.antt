use Rattle.std.proofs.Common.{[], subst}
use Rattle.analysis_summaries.specs.Known.{all_unknown}
use Rattle.table_keep.specs.Model.{trees}
use Rattle.table_verify_laws.specs.Certificates.{EachListsAll}
use Rattle.table_verify_laws.proofs.Certified as certified
use Rattle.table_verify_laws.proofs.laws.one_certificate.Goals as goal

pub returns : goal.returns
returns c = λ M C D are a b.
    let known = c.one_known.ensures all_unknown (trees M) a.known b.known a.whole b.whole in
    let table = (c.one_analysis.ensures [] M a.reports b.reports a.table b.table are (certified.nothing_used M) a.written b.written).1 in
    certified.one_certificate b.known M b.table C D
    (subst (λ k. EachListsAll k M b.table C) known (subst (λ t. EachListsAll a.known M t C) table a.lists)) b.lists
