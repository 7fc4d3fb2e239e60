-- A tree whose outermost node has another note.
use Rattle.std.proofs.Common.{◌≡◌, List, [], ◌∷◌, map, Some, None, refl, sym, ap, ◌∙◌}
use Rattle.std.specs.Prelude.{slice_get, slice_set}
use Rattle.core_ast.specs.declared.syntax.StepOf.{StepOf}
use Rattle.core_ast.specs.declared.syntax.StepOf.TheVariants.{Let, Do}
use Rattle.core_ast.specs.declared.syntax.Form.TheVariants as f
use Rattle.core_ast.specs.declared.syntax.Form.TheOpen.{Form-F, PatForm-F}
use Rattle.core_ast.specs.declared.syntax.Note.{Note}
use Rattle.core_ast.specs.declared.syntax.Mark.{Mark}
use Rattle.core_ast.specs.declared.syntax.Expr.{Expr}
use Rattle.core_ast.specs.declared.syntax.Form.{Form}
use Rattle.core_ast.specs.declared.syntax.Pattern.{Pattern}
use Rattle.core_ast.specs.declared.syntax.PatForm.{PatForm}
use Rattle.core_ast.specs.Model as m
use Rattle.core_ast.specs.Tree.{Marked, MarkedPattern, ClauseParts, PairParts, PatPairParts, SegmentParts, PatSegmentParts, form_layer, pat_form_layer, tree, form_tree, pattern_tree, pat_form_tree, steps, step_tree, all_steps}
use Rattle.core_ast.specs.Notes.{marked, noted, note_steps, note_tree, noted_step, noted_pattern}
use Rattle.core_ast.proofs.Trees.{tree-is, form_tree-out, pattern_tree-is, pat_form_tree-out}
use Rattle.core_ast.proofs.Forms.{chain_tree, opened}

-- the note of a form's tree is that of its mark
layer_noted : (n : Note) (k : Mark) (y : Form-F Marked MarkedPattern ClauseParts m.Tree PairParts PatPairParts PatSegmentParts m.Pattern SegmentParts) → form_layer y (marked n k) ≡ noted n (form_layer y k)
layer_noted n k (Form-F.Form::Map ps None) = refl
layer_noted n k (Form-F.Form::Map ps (Some t)) = refl
layer_noted n k y = refl

form_noted : (n : Note) (k : Mark) (x : Form) → form_tree x (marked n k) ≡ noted n (form_tree x k)
form_noted n k x = ap (λ g. g (marked n k)) (form_tree-out x) ∙ layer_noted n k _ ∙ sym (ap (λ g. noted n (g k)) (form_tree-out x))

pattern_layer_noted : (n : Note) (k : Mark) (y : PatForm-F Marked MarkedPattern ClauseParts m.Tree PairParts PatPairParts PatSegmentParts m.Pattern SegmentParts) → pat_form_layer y (marked n k) ≡ noted_pattern n (pat_form_layer y k)
pattern_layer_noted n k (PatForm-F.PatForm::Var x) = refl
pattern_layer_noted n k y = refl

pattern_form_noted : (n : Note) (k : Mark) (x : PatForm) → pat_form_tree x (marked n k) ≡ noted_pattern n (pat_form_tree x k)
pattern_form_noted n k x = ap (λ g. g (marked n k)) (pat_form_tree-out x) ∙ pattern_layer_noted n k _ ∙ sym (ap (λ g. noted_pattern n (g k)) (pat_form_tree-out x))

pub pattern_noted : (n : Note) (e d : Pattern) → d.form ≡ e.form → d.mark ≡ marked n e.mark → pattern_tree d ≡ noted_pattern n (pattern_tree e)
pattern_noted n e d is k = pattern_tree-is d ∙ ap (pat_form_tree d.form) k ∙ ap (λ x. pat_form_tree x (marked n e.mark)) is ∙ pattern_form_noted n e.mark e.form ∙ ap (noted_pattern n) (sym (pattern_tree-is e))

-- a chain, and every other form
pub chain_noted : (n : Note) (e d : Expr) (xs ys : List (StepOf Expr)) (x : Expr) → e.form ≡ f.Chain xs x → d.form ≡ f.Chain ys x → d.mark ≡ e.mark → all_steps ys ≡ note_steps n (all_steps xs)
    → tree d ≡ note_tree n (tree e)
chain_noted n e d xs ys x a b k h =
    chain_tree d ys x b ∙ ap (λ z. m.chain z (all_steps ys) (tree x)) k ∙ ap (λ z. m.chain e.mark z (tree x)) h ∙ ap (note_tree n) (sym (chain_tree e xs x a))

no_chain : (n : Note) (e : Expr) → ((ys : List (StepOf Expr)) (y : Expr) → e.form ≡ f.Chain ys y → ⊥) → noted n (tree e) ≡ note_tree n (tree e)
no_chain n e other = by (tree e) refl
  where
    by : (t : m.Tree) → tree e ≡ t → noted n t ≡ note_tree n t
    by (m.chain k ss t) is = let o = opened e (m.chain k ss t) is in absurd (other o.0 o.1 o.2)
    by t is = refl

pub other_noted : (n : Note) (e d : Expr) → d.form ≡ e.form → d.mark ≡ marked n e.mark → ((ys : List (StepOf Expr)) (y : Expr) → e.form ≡ f.Chain ys y → ⊥) → tree d ≡ note_tree n (tree e)
other_noted n e d is k other =
    tree-is d ∙ ap (form_tree d.form) k ∙ ap (λ x. form_tree x (marked n e.mark)) is ∙ form_noted n e.mark e.form ∙ ap (noted n) (sym (tree-is e)) ∙ no_chain n e other

-- the first step with a note
pub first_noted : (n : Note) (xs : List (StepOf Expr)) (x y u : StepOf Expr) → slice_get xs 0 ≡ Some x → step_tree y ≡ noted_step n (step_tree x) → all_steps (slice_set (slice_set xs 0 u) 0 y) ≡ note_steps n (all_steps xs)
first_noted n [] x y u g e = absurd cc
first_noted n (z ∷ zs) x y u g e = ap (λ w. steps (w ∷ map step_tree zs)) (e ∙ ap (λ w. noted_step n (step_tree w)) (same_some g)) ∙ both (step_tree z)
  where
    same_some : Some z ≡ Some x → x ≡ z
    same_some g = cc

    both : (w : StepOf m.Tree) → steps (noted_step n w ∷ map step_tree zs) ≡ note_steps n (steps (w ∷ map step_tree zs))
    both (Let k vs t) = refl
    both (Do k t) = refl
