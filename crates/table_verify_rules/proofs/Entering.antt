-- What is known after functions that an entry lists were entered, the last first.
use Rattle.std.proofs.Common.{◌≡◌, ℕ, zero, suc, ◌<◌, Bool, true, false, ◌&&◌, cond, List, [], ◌∷◌, length, drop, get_or, slice_get, Some, refl, sym, ap, ◌∙◌, true≢false, nat_eq, nat_lt, eqb-true, arith}
use Rattle.std.specs.List.{list_all}
use Rattle.std.proofs.lemmas.List.Folds.{list_all_at}
use Rattle.type_kinds.proofs.Truths.{first, second}
use Rattle.type_kinds.specs.declared.atom.Atom.{Atom}
use Rattle.core_ast.specs.declared.syntax.FunName.{FunName}
use Rattle.core_scope.specs.Names.{has_function}
use Rattle.cons_tree.specs.Callees.{same_home, same_name, Fits, Takes}
use Rattle.cons_tree.specs.declared.parts.Summary.{Summary}
use Rattle.cons_tree.specs.declared.parts.Callee.{Callee}
use Rattle.cons_tree.proofs.NameLaws.{name_is}
use Rattle.comp_rounds.specs.Rounds.{Callees, standing, with_callee}
use Rattle.table_file.specs.Rules.{is_export}
use Rattle.table_file.specs.Stored.{takes}
use Rattle.table_verify_rules.specs.steps.Knowing.{listed_or, with_listed}
use Rattle.table_verify_laws.specs.Listed.{summary_among}

-- ---- the next one, in front of those that were entered

pub none_listed : (home : Atom) (exports : List FunName) (K : Callees) → K ≡ with_listed home exports [] K
none_listed home exports K = λ i h f. by (same_home h home) (K h f) i
  where
    by : (b : Bool) (c : Callee) → c ≡ cond b c c
    by true c = refl
    by false c = refl

pub one_listed : (home : Atom) (exports : List FunName) (x : FunName × Summary) (xs : List (FunName × Summary)) (K L N : Callees)
    → L ≡ with_listed home exports xs K → N ≡ with_callee L home x.0 (standing (has_function exports x.0) x.1) → N ≡ with_listed home exports (x ∷ xs) K
one_listed home exports x xs K L N before now =
    now ∙ ap (λ M. with_callee M home x.0 (standing (has_function exports x.0) x.1)) before ∙ (λ i h f. by h f (same_home h home) (same_name f x.0) refl i)
  where
    by : (h : Atom) (f : FunName) (b c : Bool) → same_name f x.0 ≡ c
        → cond (b && c) (standing (has_function exports x.0) x.1) (cond b (listed_or (has_function exports f) (summary_among xs f) (K h f)) (K h f))
        ≡ cond b (listed_or (has_function exports f) (cond c (Some x.1) (summary_among xs f)) (K h f)) (K h f)
    by h f true true e = ap (λ g. standing (has_function exports g) x.1) (sym (name_is f x.0 e))
    by h f true false e = refl
    by h f false true e = refl
    by h f false false e = refl

-- the one at a position, in front of those behind it
pub next_entered : (home : Atom) (exports : List FunName) (xs : List (FunName × Summary)) (k : ℕ) → k < length xs → (K L N : Callees) → L ≡ with_listed home exports (drop (suc k) xs) K
    → ((x : FunName × Summary) → slice_get xs k ≡ Some x → N ≡ with_callee L home x.0 (standing (has_function exports x.0) x.1)) → N ≡ with_listed home exports (drop k xs) K
next_entered home exports [] k low K L N before now = absurd (omega (arith, low))
next_entered home exports (x ∷ xs) zero low K L N before now = one_listed home exports x xs K L N before (now x refl)
next_entered home exports (x ∷ xs) (suc k) low K L N before now = next_entered home exports xs k (omega (arith, low)) K L N before now

-- ---- a summary that an entry lists has as many arguments as its function

takes_so : (s : Summary) (n : ℕ) → takes s n ≡ true → Takes s n
takes_so s n h = (
  eqb-true (length s.strict.args) n (first (nat_eq (length s.strict.args) n) (nat_eq (length s.lenient.args) n) h),
  eqb-true (length s.lenient.args) n (second (nat_eq (length s.strict.args) n) (nat_eq (length s.lenient.args) n) h),
)

stands_so : (b : Bool) (s : Summary) (n : ℕ) → Takes s n → Fits (standing b s) n
stands_so true s n h = h
stands_so false s n h = h

pub fits : (xs : List (FunName × Summary)) (i : ℕ) (x : FunName × Summary) (b : Bool) → list_all is_export xs ≡ true → i < length xs → get_or xs i x ≡ x → Fits (standing b x.1) x.0.arity
fits xs i x b all low is = stands_so b x.1 x.0.arity (takes_so x.1 x.0.arity (second (nat_lt x.0.arity 256) (takes x.1 x.0.arity) (holds (is_export x) refl)))
  where
    holds : (c : Bool) → is_export x ≡ c → is_export x ≡ true
    holds true e = e
    holds false e = absurd (true≢false (sym all ∙ list_all_at is_export xs i x low (ap is_export is ∙ e)))
