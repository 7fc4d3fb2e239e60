-- One rule at most is the first that is broken, at one module.
use Rattle.std.proofs.Common.{◌≡◌, ℕ, ◌<◌, false, inl, inr, Less, Equal, Greater, is_lt, sym, ap, ◌∙◌, subst, refl, true≢false, arith}
use Rattle.std.specs.declared.cmp.Ordering.{Ordering}
use Rattle.std.specs.Ordering.{ordering_reverse}
use Rattle.std.proofs.lemmas.Bool.{cases_lt}
use Rattle.type_kinds.specs.declared.atom.Atom.{Atom}
use Rattle.type_kinds_sets.specs.Names.{name_cmp}
use Rattle.type_kinds_sets.proofs.NameLaws.{name_total, name_same}
use Rattle.table_file.specs.Order.{is_name_before}
use Rattle.table_verify_laws.specs.Rules.{TableRule, same_modules, same_source, same_functions, closed, rule_number, IsFirstBroken}
use Rattle.table_verify_laws.specs.Laws.{OneFirstLaw}

-- of two names that don't stand before one another there is one
one_name : (h k : Atom) → is_name_before h k ≡ false → is_name_before k h ≡ false → h ≡ k
one_name h k a b = by (name_cmp h k) refl
  where
    by : (o : Ordering) → name_cmp h k ≡ o → h ≡ k
    by Less e = absurd (true≢false (sym (ap is_lt e) ∙ a))
    by Equal e = name_same h k e
    by Greater e = absurd (true≢false (sym (ap is_lt (name_total.antisymm k h ∙ ap ordering_reverse e)) ∙ b))

-- rules differ in their numbers
same_rule : (r q : TableRule) → rule_number r ≡ rule_number q → r ≡ q
same_rule same_modules same_modules e = refl
same_rule same_source same_source e = refl
same_rule same_functions same_functions e = refl
same_rule closed closed e = refl
same_rule r q e = absurd (omega (arith, e))

neither_less : (n k : ℕ) → (n < k → ⊥) → (k < n → ⊥) → n ≡ k
neither_less n k a b = elim (cases_lt n k) [
  | inl less ↦ absurd (a less)
  | inr high ↦ elim (cases_lt k n) [
    | inl less ↦ absurd (b less)
    | inr low ↦ omega (arith, high, low)
  ]
]

pub one_first : OneFirstLaw
one_first T C M r q h k a b =
    let rule : r ≡ q = same_rule r q (neither_less (rule_number r) (rule_number q)
    (λ less. b.earliest r h less a.broken) (λ less. a.earliest q k less b.broken)) in
    let at_r : IsFirstBroken T C M r k = subst (λ x. IsFirstBroken T C M x k) (sym rule) b in
    (rule, one_name h k (at_r.least h a.broken) (a.least k at_r.broken))
