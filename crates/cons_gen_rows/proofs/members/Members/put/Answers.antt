use Rattle.std.proofs.Common.{◌≡◌, None, refl, sym, ap, ◌∙◌, subst}
use Rattle.std.specs.Prelude.{IsSome}
use Rattle.std.specs.Map.{lookup, set_value}
use Rattle.std.proofs.lemmas.Map.Steps.{set_value_same}
use Rattle.std.proofs.lemmas.Result.{on_ok_weaker, on_err_weaker}
use Rattle.type_kinds.specs.declared.atom.Atom.{Atom}
use Rattle.core_ast.specs.declared.syntax.FunName.{FunName}
use Rattle.cons_tree.specs.Callees.{same_home}
use Rattle.cons_gen_rows.specs.Members.{is_member}
use Rattle.cons_gen_rows.proofs.MemberLaws.{member_added, member_others, had, had_none}
use Rattle.cons_gen_rows.proofs.members.Members.put.Goals as goal

pub returns-in-Some-clause-added : goal.returns-in-Some-clause-added
returns-in-Some-clause-added c =
    let old = c.self.inside.tables.entries in
    let w = c.add.new.self in
    let new = (c.get_mut.follows.lender w).entries in
    let home = c.args.home.now in
    let there = c.in-Some.ensures.value in
    let writes = c.get_mut.follows.holds w in
    let updates = writes.3 (subst (λ o. IsSome o) there refl) in
    on_ok_weaker c.add.result (λ set. member_added old new home c.args.name w updates.0 (had old home c.in-Some.table.now w c.args.name there set)) c.add.ensures.ok

pub returns-in-Some-clause-others : goal.returns-in-Some-clause-others
returns-in-Some-clause-others c =
    let old = c.self.inside.tables.entries in
    let w = c.add.new.self in
    let new = (c.get_mut.follows.lender w).entries in
    let home = c.args.home.now in
    let there = c.in-Some.ensures.value in
    let writes = c.get_mut.follows.holds w in
    let updates = writes.3 (subst (λ o. IsSome o) there refl) in
    on_ok_weaker c.add.result
    (λ set.
    subst (λ ts. (h : Atom) (f : FunName) → ((h ≡ home) × (f ≡ c.args.name) → ⊥) → is_member new h f ≡ is_member ts h f) c.self.view_is
    (member_others old new home c.args.name w updates.0 (had old home c.in-Some.table.now w c.args.name there set)))
    c.add.ensures.ok

pub returns-in-Some-clause-err : goal.returns-in-Some-clause-err
returns-in-Some-clause-err c =
    let old = c.self.inside.tables.entries in
    let w = c.add.new.self in
    let home = c.args.home.now in
    let v = c.in-Some.table.now in
    let writes = c.get_mut.follows.holds w in
    on_err_weaker c.add.result (λ e. writes.0 ∙ ap (set_value (same_home home) old) e ∙ set_value_same (same_home home) old v (sym c.in-Some.ensures.value) ∙ c.self.view_is) c.add.ensures.err

pub returns-in-Ok-clause-added : goal.returns-in-Ok-clause-added
returns-in-Ok-clause-added c =
    let old = c.get_mut.follows.lender-at-none.entries in
    let home = c.args.home.now in
    let w = c.in-Ok.table in
    let same = ap (λ m. m.entries) c.get_mut.follows.holds-at-none in
    let none : None ≡ lookup (same_home home) old = subst (λ es. None ≡ lookup (same_home home) es) (sym same) c.in_default.ensures.value in
    on_ok_weaker c.put_table.result (λ put. member_added old c.put_table.new.self home c.args.name w put (had_none old home w c.args.name none c.in-Ok.ensures)) c.put_table.ensures.ok

pub returns-in-Ok-clause-others : goal.returns-in-Ok-clause-others
returns-in-Ok-clause-others c =
    let old = c.get_mut.follows.lender-at-none.entries in
    let home = c.args.home.now in
    let w = c.in-Ok.table in
    let same = ap (λ m. m.entries) c.get_mut.follows.holds-at-none in
    let none : None ≡ lookup (same_home home) old = subst (λ es. None ≡ lookup (same_home home) es) (sym same) c.in_default.ensures.value in
    on_ok_weaker c.put_table.result
    (λ put.
    subst (λ ts. (h : Atom) (f : FunName) → ((h ≡ home) × (f ≡ c.args.name) → ⊥) → is_member c.put_table.new.self h f ≡ is_member ts h f) (same ∙ c.self.view_is)
    (member_others old c.put_table.new.self home c.args.name w put (had_none old home w c.args.name none c.in-Ok.ensures)))
    c.put_table.ensures.ok
