use Rattle.std.proofs.Common.{subst}
use Rattle.table_keep.specs.Model.{entries_so, sources_so}
use Rattle.table_verify_rules.specs.steps.Verdict.{IsVerdict}
use Rattle.table_verify_rules.proofs.Broken.{kept_by, broken_by}
use Rattle.table_verify_rules.proofs.Sources.{handed}
use Rattle.table_verify_rules.proofs.verifying.verify.Goals as goal

pub first_broken-requires : goal.first_broken-requires
first_broken-requires c = c.requires

pub returns-in-Ok-None-clause-accepted : goal.returns-in-Ok-None-clause-accepted
returns-in-Ok-None-clause-accepted c =
    let T = entries_so c.args.table.now in let C = entries_so c.args.cert.now in let M = sources_so c.args.sources.now in
    kept_by T C M (subst (IsVerdict T C M) c.in-Ok-None.field-0-is c.in-Ok-None.ensures)

pub returns-in-Ok-None-clause-sound : goal.returns-in-Ok-None-clause-sound
returns-in-Ok-None-clause-sound c =
    let T = entries_so c.args.table.now in let C = entries_so c.args.cert.now in let M = sources_so c.args.sources.now in
    (c.rules_are_sound.ensures T C M (handed c.args.sources.now c.requires.distinct) (kept_by T C M (subst (IsVerdict T C M) c.in-Ok-None.field-0-is c.in-Ok-None.ensures))).0

pub returns-in-Ok-Some-clause-rejected : goal.returns-in-Ok-Some-clause-rejected
returns-in-Ok-Some-clause-rejected c =
    let T = entries_so c.args.table.now in let C = entries_so c.args.cert.now in let M = sources_so c.args.sources.now in
    broken_by T C M c.in-Ok-Some.number c.in-Ok-Some.home (subst (IsVerdict T C M) c.in-Ok-Some.field-0-is c.in-Ok-Some.ensures)

pub returns-in-Ok-Some-clause-complete : goal.returns-in-Ok-Some-clause-complete
returns-in-Ok-Some-clause-complete c =
    let T = entries_so c.args.table.now in let C = entries_so c.args.cert.now in let M = sources_so c.args.sources.now in
    λ reports written certified.
    let b = broken_by T C M c.in-Ok-Some.number c.in-Ok-Some.home (subst (IsVerdict T C M) c.in-Ok-Some.field-0-is c.in-Ok-Some.ensures) in
    b.2.broken (c.rules_are_complete.ensures T C M reports (handed c.args.sources.now c.requires.distinct) written certified b.0 c.in-Ok-Some.home)
