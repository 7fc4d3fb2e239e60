-- How many results an expression has.
use Rattle.std.proofs.Common.{◌≡◌, ℕ, List, length, sym, ap, ◌∙◌}
use Rattle.core_ast.specs.declared.syntax.Expr.{Expr}
use Rattle.core_ast.specs.declared.syntax.Form.TheVariants as f
use Rattle.core_ast.specs.Tree.{tree}
use Rattle.core_ast.proofs.Forms.{call_tree}
use Rattle.core_ast.proofs.Items.{how_many-length}
use Rattle.core_scope.specs.declared.ask.Ask.{Ask}
use Rattle.core_scope.specs.Asks.{call_gives}
use Rattle.cons_gen_rows.specs.Counts.{call_results, result_count}

pub call_count : (k : Ask) (e x y x1 y1 : Expr) (xs : List Expr) (n : ℕ) (given : Ask) (r : ℕ) → e.form ≡ f.Call x y xs → x1 ≡ x → y1 ≡ y → n ≡ length xs → given ≡ call_gives (tree x1) (tree y1) n
    → r ≡ call_results k given → r ≡ result_count k (tree e)
call_count k e x y x1 y1 xs n given r is home name count gives result =
    result
    ∙ ap (call_results k) (gives ∙ ap (λ z. call_gives (tree z) (tree y1) n) home ∙ ap (λ z. call_gives (tree x) (tree z) n) name ∙ ap (call_gives (tree x) (tree y)) (count ∙ sym (how_many-length xs)))
    ∙ sym (ap (result_count k) (call_tree e x y xs is))
