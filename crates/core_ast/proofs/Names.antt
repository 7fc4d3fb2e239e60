-- The names that an expression may be.
use Rattle.std.proofs.Common.{◌≡◌, None, Some, refl, ap, ◌∙◌}
use Rattle.type_kinds.specs.declared.atom.Atom.{Atom}
use Rattle.core_ast.specs.declared.syntax.FunName.{FunName}
use Rattle.core_ast.specs.declared.syntax.Literal.{Literal}
use Rattle.core_ast.specs.declared.syntax.Literal.TheVariants as l
use Rattle.core_ast.specs.declared.syntax.Expr.{Expr}
use Rattle.core_ast.specs.declared.syntax.Form.TheVariants as f
use Rattle.core_ast.specs.Model as m
use Rattle.core_ast.specs.Tree.{tree}
use Rattle.core_ast.specs.Named.{literal_atom, local_name}
use Rattle.core_ast.proofs.Forms.{local_tree, literal_tree, opened}

-- each way out of the readers
pub name_it : (e : Expr) (g : FunName) → e.form ≡ f.Local g → local_name (tree e) ≡ Some g
name_it e g is = ap local_name (local_tree e g is)

pub no_name : (e : Expr) → ((g : FunName) → e.form ≡ f.Local g → ⊥) → local_name (tree e) ≡ None
no_name e other = by (tree e) refl
  where
    by : (t : m.Tree) → tree e ≡ t → local_name t ≡ None
    by (m.local k g) is = absurd (other g (opened e _ is).0)
    by t is = refl

pub atom_it : (e : Expr) (x : Literal) (a : Atom) → e.form ≡ f.Lit x → x ≡ l.Atom a → literal_atom (tree e) ≡ Some a
atom_it e x a is it = ap literal_atom (literal_tree e x is ∙ ap (m.literal e.mark) it)

pub no_literal : (e : Expr) → ((x : Literal) → e.form ≡ f.Lit x → ⊥) → literal_atom (tree e) ≡ None
no_literal e other = by (tree e) refl
  where
    by : (t : m.Tree) → tree e ≡ t → literal_atom t ≡ None
    by (m.literal k x) is = absurd (other x (opened e _ is).0)
    by t is = refl

pub no_atom_literal : (e : Expr) (x : Literal) → e.form ≡ f.Lit x → ((a : Atom) → x ≡ l.Atom a → ⊥) → literal_atom (tree e) ≡ None
no_atom_literal e x is other = ap literal_atom (literal_tree e x is) ∙ by x other
  where
    by : (x : Literal) → ((a : Atom) → x ≡ l.Atom a → ⊥) → literal_atom (m.literal e.mark x) ≡ None
    by (l.Atom a) other = absurd (other a refl)
    by x other = refl

pub ruleset named_exits = (name_it, no_name, atom_it, no_literal, no_atom_literal)
