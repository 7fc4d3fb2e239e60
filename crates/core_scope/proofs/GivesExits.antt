-- How many values an expression gives: the ways out of the test.
use Rattle.std.proofs.Common.{◌≡◌, ℕ, List, None, Some, Option, length, sym, ap, ◌∙◌}
use Rattle.core_ast.specs.declared.syntax.Expr.{Expr}
use Rattle.core_ast.specs.declared.syntax.MapPair.{MapPair}
use Rattle.core_ast.specs.declared.syntax.Form.TheVariants as f
use Rattle.core_ast.specs.Tree.{tree}
use Rattle.core_ast.proofs.Forms.{values_tree, call_tree, new_map_tree, updated_map_tree}
use Rattle.core_ast.proofs.Items.{how_many-length}
use Rattle.core_scope.specs.declared.ask.Ask.{Ask}
use Rattle.core_scope.specs.declared.ask.Ask.TheVariants.{Exactly}
use Rattle.core_scope.specs.Asks.{gives, call_gives}

pub gives_values : (e : Expr) (xs : List Expr) (n : ℕ) → e.form ≡ f.Values xs → n ≡ length xs → Exactly n ≡ gives (tree e)
gives_values e xs n is count = ap Exactly (count ∙ sym (how_many-length xs)) ∙ sym (ap gives (values_tree e xs is))

pub gives_call : (e x y x1 y1 : Expr) (xs : List Expr) (n : ℕ) (r : Ask) → e.form ≡ f.Call x y xs → x1 ≡ x → y1 ≡ y → n ≡ length xs → r ≡ call_gives (tree x1) (tree y1) n → r ≡ gives (tree e)
gives_call e x y x1 y1 xs n r is home name count given =
    given ∙ ap (λ z. call_gives (tree z) (tree y1) n) home ∙ ap (λ z. call_gives (tree x) (tree z) n) name ∙ ap (call_gives (tree x) (tree y)) (count ∙ sym (how_many-length xs)) ∙ sym (ap gives (call_tree e x y xs is))

pub gives_map : (e : Expr) (ps : List MapPair) (o : Option Expr) → e.form ≡ f.Map ps o → Exactly 1 ≡ gives (tree e)
gives_map e ps None is = sym (ap gives (new_map_tree e ps is))
gives_map e ps (Some x) is = sym (ap gives (updated_map_tree e ps x is))

pub ruleset gives_exits = (gives_values, gives_call, gives_map)
