use Rattle.std.proofs.Common.{◌≡◌, ◌↔◌, IsTrue, ◌&&◌, ◌+◌, drop, sym, ap, ◌∙◌, subst, arith}
use Rattle.std.specs.Cmp.Lexicographic.{pointwise}
use Rattle.core_scope.specs.Names.{same_atom}
use Rattle.table_keep.specs.declared.group_list.GroupMember.{GroupMember}
use Rattle.table_keep.specs.Lists.{member_names}
use Rattle.table_keep.proofs.StandingEntries.{failed, name_end, name_next, name_told, passed}
use Rattle.table_keep.proofs.unchanged_groups.has_group.Goals as goal

pub loop-at-preserved : goal.loop-at-preserved
loop-at-preserved c =
    let xs = c.args.names.now in
    let ms = c.args.group.now in
    let i = c.loop-at.at in
    let told = subst (λ (m : GroupMember). IsTrue c.is.result ↔ (c.index-names-at.result ≡ m.name)) (sym c.index-group-at.is) c.is.ensures in
    let rest = pointwise same_atom (drop (i + 1) xs) (member_names (drop (i + 1) ms)) in
    passed (pointwise same_atom xs (member_names ms)) (pointwise same_atom (drop i xs) (member_names (drop i ms))) c.is.result rest c.loop-at.invariant
    (name_next xs ms i c.index-names-at.result c.index-group-at.result c.loop-at-test.true c.index-names-at.is (omega arith) c.index-group-at.is
    ∙ ap (λ b. b && rest) (sym (name_told c.index-names-at.result c.index-group-at.result.name c.is.result told))) c.if-not-is.false

pub returns-then-not-is : goal.returns-then-not-is
returns-then-not-is c =
    let xs = c.args.names.now in
    let ms = c.args.group.now in
    let i = c.loop-at.at in
    let told = subst (λ (m : GroupMember). IsTrue c.is.result ↔ (c.index-names-at.result ≡ m.name)) (sym c.index-group-at.is) c.is.ensures in
    let rest = pointwise same_atom (drop (i + 1) xs) (member_names (drop (i + 1) ms)) in
    failed (pointwise same_atom xs (member_names ms)) (pointwise same_atom (drop i xs) (member_names (drop i ms))) c.is.result rest c.loop-at.invariant
    (name_next xs ms i c.index-names-at.result c.index-group-at.result c.loop-at-test.true c.index-names-at.is (omega arith) c.index-group-at.is
    ∙ ap (λ b. b && rest) (sym (name_told c.index-names-at.result c.index-group-at.result.name c.is.result told))) c.if-not-is.true

pub returns : goal.returns
returns c = sym (c.loop-at.invariant ∙ name_end c.args.names.now c.args.group.now c.loop-at.at (let t = c.loop-at-test.false in omega arith) (let t = c.loop-at-test.false in omega arith))
