use Rattle.std.proofs.Common.{◌≡◌, true, false, ◌&&◌, ◌+◌, drop, sym, ap, ◌∙◌, subst, arith}
use Rattle.std.specs.Prelude.{Contains}
use Rattle.cons_tree.specs.Callees.{as_called, found}
use Rattle.table_keep.specs.Groups.{group_at}
use Rattle.table_keep.specs.Kept.{Standing, all_unchanged}
use Rattle.table_keep.specs.Lists.{lists_of, member_names}
use Rattle.table_keep.specs.Model.{entries_so, sources_so}
use Rattle.table_keep.proofs.StandingEntries.{failed, member_end, member_next, passed}
use Rattle.table_keep.proofs.unchanged_groups.unchanged.Goals as goal

pub member_stands-requires : goal.member_stands-requires
member_stands-requires c =
    c.requires.made_for c.members.result.now c.member-item.result c.members.ensures.among (subst (λ l. Contains l c.member-item.result) c.as_slice-members.ensures (c.loop-member.member-index, c.loop-member-test.true, sym c.member-item.is))

pub loop-member-preserved : goal.loop-member-preserved
loop-member-preserved c =
    let K : Standing = λ h f. as_called (found c.args.known.now h f) in
    let T = entries_so c.args.table.now in
    let M = sources_so c.args.sources.now in
    let ms = c.as_slice-members.result.now in
    let i = c.loop-member.member-index in
    let rest = all_unchanged T M (member_names ms) K (member_names (drop (i + 1) ms)) in
    passed (all_unchanged T M (member_names ms) K (member_names ms)) (all_unchanged T M (member_names ms) K (member_names (drop i ms))) c.member_stands.result rest c.loop-member.invariant
    (member_next T M (member_names ms) K ms i c.member-item.result c.loop-member-test.true c.member-item.is ∙ ap (λ b. b && rest) (sym c.member_stands.ensures)) c.if-not-member_stands.false

pub returns-then-not-member_stands : goal.returns-then-not-member_stands
returns-then-not-member_stands c =
    let K : Standing = λ h f. as_called (found c.args.known.now h f) in
    let T = entries_so c.args.table.now in
    let M = sources_so c.args.sources.now in
    let ms = c.as_slice-members.result.now in
    let i = c.loop-member.member-index in
    let rest = all_unchanged T M (member_names ms) K (member_names (drop (i + 1) ms)) in
    let is : member_names ms ≡ group_at (lists_of c.args.list.now) c.args.group = ap member_names c.as_slice-members.ensures ∙ c.members.ensures.names in
    subst (λ g. false ≡ all_unchanged T M g K g) is
    (failed (all_unchanged T M (member_names ms) K (member_names ms)) (all_unchanged T M (member_names ms) K (member_names (drop i ms))) c.member_stands.result rest c.loop-member.invariant
    (member_next T M (member_names ms) K ms i c.member-item.result c.loop-member-test.true c.member-item.is ∙ ap (λ b. b && rest) (sym c.member_stands.ensures)) c.if-not-member_stands.true)

pub returns : goal.returns
returns c =
    let K : Standing = λ h f. as_called (found c.args.known.now h f) in
    let T = entries_so c.args.table.now in
    let M = sources_so c.args.sources.now in
    let ms = c.as_slice-members.result.now in
    let is : member_names ms ≡ group_at (lists_of c.args.list.now) c.args.group = ap member_names c.as_slice-members.ensures ∙ c.members.ensures.names in
    subst (λ g. true ≡ all_unchanged T M g K g) is
    (sym (c.loop-member.invariant ∙ member_end T M (member_names ms) K ms c.loop-member.member-index (let t = c.loop-member-test.false in omega arith)))
