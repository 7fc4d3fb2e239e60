use Rattle.std.proofs.Common.{sym, ap, ◌∙◌}
use Rattle.std.proofs.lemmas.Bool.{iff_false}
use Rattle.core_ast.specs.declared.syntax.Literal.TheVariants as l
use Rattle.core_parse_forms.proofs.ExpressionExits.{literal_made, name_made, atom_last, atom_next, name_end, name_bad, name_ok}
use Rattle.core_parse_forms.proofs.expressions.atom_or_name.Goals as goal

pub returns-in-Ok-literal-clause-ok : goal.returns-in-Ok-literal-clause-ok
returns-in-Ok-literal-clause-ok c = atom_last _ _ _ _ _ _ _ c.requires.starts c.requires.shallow c.requires.sort _ (literal_made _ _ _ _ _ c.in-Ok-literal.ensures c.mark-mark.ensures (ap l.Atom c.in-Ok.ensures)) c.in_default.ensures.cases

pub returns-in-Ok-literal-2-clause-ok : goal.returns-in-Ok-literal-2-clause-ok
returns-in-Ok-literal-2-clause-ok c = atom_next _ _ _ _ _ _ _ c.requires.starts c.requires.shallow c.requires.sort _
    (literal_made _ _ _ _ _ c.in-Ok-literal-2.ensures c.mark-mark.ensures (ap l.Atom c.in-Ok.ensures)) _ _ c.in-Some.ensures.cases.0 (λ z. iff_false c.same.ensures c.if-not-same.true (c.sort_of.ensures ∙ z))

pub returns-in-Err-next-clause-err : goal.returns-in-Err-next-clause-err
returns-in-Err-next-clause-err c = name_end _ 0 _ _ _ _ _ c.requires.starts c.requires.shallow c.requires.sort _ _ c.in-Some.ensures.cases.0 (sym c.sort_of.ensures ∙ c.same.ensures.0 c.if-not-same.false) _ c.in-Err-next.ensures.err

pub returns-then-not-same-2-clause-err : goal.returns-then-not-same-2-clause-err
returns-then-not-same-2-clause-err c = name_bad _ 0 _ _ _ _ _ c.requires.starts c.requires.shallow c.requires.sort _ _ c.in-Some.ensures.cases.0
    (sym c.sort_of.ensures ∙ c.same.ensures.0 c.if-not-same.false) _ _ _ _ c.in-Ok-next.ensures.ok (λ z. iff_false c.same-2.ensures c.if-not-same-2.true z)

pub returns-in-Ok-local-clause-ok : goal.returns-in-Ok-local-clause-ok
returns-in-Ok-local-clause-ok c = name_ok _ _ _ _ _ _ _ c.requires.starts c.requires.shallow c.requires.sort _ _ c.in-Some.ensures.cases.0 (sym c.sort_of.ensures ∙ c.same.ensures.0 c.if-not-same.false) _ _ _ _ c.in-Ok-next.ensures.ok
    (c.same-2.ensures.0 c.if-not-same-2.false) _ (name_made _ _ _ _ _ _ _ c.in-Ok-local.ensures c.mark-mark.ensures c.in-Ok.ensures c.arity_of.ensures)
