use Rattle.std.proofs.Common.{◌≡◌, false, subst}
use Rattle.cons_gen_rows.specs.Members.{is_member}
use Rattle.cons_gen_rows.proofs.MemberLaws.{member_in, member_nowhere}
use Rattle.cons_gen_rows.proofs.members.Members.has.Goals as goal

pub returns-in-Some : goal.returns-in-Some
returns-in-Some c =
    let h = c.args.home.now in
    let f = c.args.name.now in
    subst (λ ts. c.has.result ≡ is_member ts h f) c.self.view_is (member_in c.self.inside.tables.entries h f c.in-Some.table.now c.has.result c.has.ensures c.in-Some.ensures.value)

pub returns-in-None : goal.returns-in-None
returns-in-None c =
    let h = c.args.home.now in
    let f = c.args.name.now in
    subst (λ ts. false ≡ is_member ts h f) c.self.view_is (member_nowhere c.self.inside.tables.entries h f c.in-None.ensures.value)
