use Rattle.std.proofs.Common.{◌≡◌, sym, subst}
use Rattle.std.specs.Prelude.{MatchOption}
use Rattle.table_keep.specs.Model.{entries_so, sources_so}
use Rattle.table_verify_laws.specs.Lined.{entry_names, AreModuleNames}
use Rattle.table_verify_laws.specs.Rules.{same_modules, IsFirstBroken}
use Rattle.table_verify_rules.proofs.Broken.{verdict_at}
use Rattle.table_verify_rules.proofs.verifying.first_broken.Goals as goal

pub returns-in-Some : goal.returns-in-Some
returns-in-Some c =
    let T = entries_so c.args.table.now in let C = entries_so c.args.cert.now in let M = sources_so c.args.sources.now in let names = c.as_slice-names.result.now in
    let are = subst (AreModuleNames M) (sym c.as_slice-names.ensures) c.in_ok-names.ensures in
    verdict_at T C M same_modules c.in-Some.home
    (subst (λ o. MatchOption o ((entry_names T ≡ names) × (entry_names C ≡ names)) (λ h. IsFirstBroken T C M same_modules h)) c.in-Some.is (c.in_ok-home.ensures M are))

pub broken_by_sources-requires-clause-rising : goal.broken_by_sources-requires-clause-rising
broken_by_sources-requires-clause-rising c = (subst (AreModuleNames (sources_so c.args.sources.now)) (sym c.as_slice-names.ensures) c.in_ok-names.ensures).rising

pub broken_by_sources-requires-clause-table : goal.broken_by_sources-requires-clause-table
broken_by_sources-requires-clause-table c =
    let T = entries_so c.args.table.now in let C = entries_so c.args.cert.now in let M = sources_so c.args.sources.now in let names = c.as_slice-names.result.now in
    let are = subst (AreModuleNames M) (sym c.as_slice-names.ensures) c.in_ok-names.ensures in
    (subst (λ o. MatchOption o ((entry_names T ≡ names) × (entry_names C ≡ names)) (λ h. IsFirstBroken T C M same_modules h)) c.in-None.is (c.in_ok-home.ensures M are)).0

pub broken_by_sources-requires-clause-cert : goal.broken_by_sources-requires-clause-cert
broken_by_sources-requires-clause-cert c =
    let T = entries_so c.args.table.now in let C = entries_so c.args.cert.now in let M = sources_so c.args.sources.now in let names = c.as_slice-names.result.now in
    let are = subst (AreModuleNames M) (sym c.as_slice-names.ensures) c.in_ok-names.ensures in
    (subst (λ o. MatchOption o ((entry_names T ≡ names) × (entry_names C ≡ names)) (λ h. IsFirstBroken T C M same_modules h)) c.in-None.is (c.in_ok-home.ensures M are)).1

pub broken_by_sources-requires-clause-modules : goal.broken_by_sources-requires-clause-modules
broken_by_sources-requires-clause-modules c =
    let T = entries_so c.args.table.now in let C = entries_so c.args.cert.now in let M = sources_so c.args.sources.now in let names = c.as_slice-names.result.now in
    let are = subst (AreModuleNames M) (sym c.as_slice-names.ensures) c.in_ok-names.ensures in
    let both = subst (λ o. MatchOption o ((entry_names T ≡ names) × (entry_names C ≡ names)) (λ h. IsFirstBroken T C M same_modules h)) c.in-None.is (c.in_ok-home.ensures M are) in
    c.names_tell.ensures.same T C M names are both.0 both.1
