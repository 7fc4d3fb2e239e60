-- The order of what an application may enter, and that of applications.
use Rattle.std.specs.Prelude.{◌≡◌, ℕ, refl}
use Rattle.std.specs.Cmp.{IsTotalOrder, nat_cmp_total, on_total, then_total}
use Rattle.std.specs.Cmp.Lexicographic.{slice_cmp, nat_list_cmp_total}
use Rattle.std.specs.declared.cmp.Ordering.{Ordering}
use Rattle.std.specs.declared.cmp.Ordering.TheVariants.{Less, Equal, Greater}
use Rattle.std.specs.Ordering.{nat_cmp, on, then_cmp, ordering_reverse}
use Rattle.type_kinds.specs.declared.atom.Atom.{Atom}
use Rattle.core_ast.specs.declared.syntax.FunName.{FunName}
use Rattle.fun_flow_answers.specs.declared.target.AppliedCall.{AppliedCall}
use Rattle.fun_flow_answers.specs.declared.target.Target.{Target}
use Rattle.fun_flow_answers.specs.declared.target.Target.TheVariants.{Fun, Name}

-- funs, by module, label and line
abbrev pub fun_cmp : ℕ × ℕ × ℕ → ℕ × ℕ × ℕ → Ordering
fun_cmp = then_cmp (then_cmp (on (λ (f : ℕ × ℕ × ℕ). f.0) nat_cmp) (on (λ (f : ℕ × ℕ × ℕ). f.1) nat_cmp)) (on (λ (f : ℕ × ℕ × ℕ). f.2) nat_cmp)

-- names, by module, name and arity
abbrev pub name_cmp : Atom × FunName → Atom × FunName → Ordering
name_cmp = then_cmp (then_cmp (on (λ (n : Atom × FunName). n.0) (slice_cmp nat_cmp)) (on (λ (n : Atom × FunName). n.1.name) (slice_cmp nat_cmp))) (on (λ (n : Atom × FunName). n.1.arity) nat_cmp)

-- funs before names
abbrev pub target_cmp : Target → Target → Ordering
target_cmp (Fun i l n) (Fun j k m) = fun_cmp (i, l, n) (j, k, m)
target_cmp (Fun i l n) (Name y g) = Less
target_cmp (Name x f) (Fun j k m) = Greater
target_cmp (Name x f) (Name y g) = name_cmp (x, f) (y, g)

-- applications, by module and label
abbrev pub call_cmp : AppliedCall → AppliedCall → Ordering
call_cmp = then_cmp (on (λ (c : AppliedCall). c.«module») nat_cmp) (on (λ (c : AppliedCall). c.label) nat_cmp)

-- ---- they are orders

pub fun_total : IsTotalOrder fun_cmp
fun_total = then_total (then_total (on_total (λ (f : ℕ × ℕ × ℕ). f.0) nat_cmp_total) (on_total (λ (f : ℕ × ℕ × ℕ). f.1) nat_cmp_total)) (on_total (λ (f : ℕ × ℕ × ℕ). f.2) nat_cmp_total)

pub name_total : IsTotalOrder name_cmp
name_total = then_total (then_total (on_total (λ (n : Atom × FunName). n.0) nat_list_cmp_total) (on_total (λ (n : Atom × FunName). n.1.name) nat_list_cmp_total)) (on_total (λ (n : Atom × FunName). n.1.arity) nat_cmp_total)

pub call_total : IsTotalOrder call_cmp
call_total = then_total (on_total (λ (c : AppliedCall). c.«module») nat_cmp_total) (on_total (λ (c : AppliedCall). c.label) nat_cmp_total)

target_turned : (s t : Target) → target_cmp s t ≡ ordering_reverse (target_cmp t s)
target_turned (Fun i l n) (Fun j k m) = fun_total.antisymm (i, l, n) (j, k, m)
target_turned (Fun i l n) (Name y g) = refl
target_turned (Name x f) (Fun j k m) = refl
target_turned (Name x f) (Name y g) = name_total.antisymm (x, f) (y, g)

greater_is_less : Greater ≡ Less → ⊥
greater_is_less e = cc

target_chain : (s t u : Target) → target_cmp s t ≡ Less → target_cmp t u ≡ Less → target_cmp s u ≡ Less
target_chain (Fun i l n) (Fun j k m) (Fun a b c) = fun_total.trans (i, l, n) (j, k, m) (a, b, c)
target_chain (Fun i l n) (Fun j k m) (Name z h) = λ e f. refl
target_chain (Fun i l n) (Name y g) (Fun a b c) = λ e f. absurd (greater_is_less f)
target_chain (Fun i l n) (Name y g) (Name z h) = λ e f. refl
target_chain (Name x p) (Fun j k m) u = λ e f. absurd (greater_is_less e)
target_chain (Name x p) (Name y g) (Fun a b c) = λ e f. absurd (greater_is_less f)
target_chain (Name x p) (Name y g) (Name z h) = name_total.trans (x, p) (y, g) (z, h)

less_is_equal : Less ≡ Equal → ⊥
less_is_equal e = cc

greater_is_equal : Greater ≡ Equal → ⊥
greater_is_equal e = cc

target_alike : (s t u : Target) → target_cmp s t ≡ Equal → target_cmp s u ≡ target_cmp t u
target_alike (Fun i l n) (Fun j k m) (Fun a b c) = fun_total.congr (i, l, n) (j, k, m) (a, b, c)
target_alike (Fun i l n) (Fun j k m) (Name z h) = λ e. refl
target_alike (Fun i l n) (Name y g) u = λ e. absurd (less_is_equal e)
target_alike (Name x p) (Fun j k m) u = λ e. absurd (greater_is_equal e)
target_alike (Name x p) (Name y g) (Fun a b c) = λ e. refl
target_alike (Name x p) (Name y g) (Name z h) = name_total.congr (x, p) (y, g) (z, h)

pub target_total : IsTotalOrder target_cmp
target_total = record { antisymm = target_turned; trans = target_chain; congr = target_alike }
