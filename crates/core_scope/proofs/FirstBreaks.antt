-- The first of the breaks of a module: what is found, and that there is one.
use Rattle.std.proofs.Common.{◌≡◌, ℕ, ◌⊎◌, inl, inr, if◌then◌else◌, Bool, true, false, List, [], ◌∷◌, Option, None, Some, Contains, eqb, refl, sym, ap, ◌∙◌, subst}
use Rattle.std.proofs.lemmas.Option.{same_Some}
use Rattle.type_kinds.proofs.Lists.{contains_none, contains_later, contains_cases}
use Rattle.core_ast.specs.Model as m
use Rattle.core_scope.specs.declared.fault.ScopeRule.{ScopeRule}
use Rattle.core_scope.specs.declared.fault.ScopeRule.TheVariants.{BoundVariables, DistinctVariables, DefinedFunctions, DistinctFunctions, DefinedExports, Degrees}
use Rattle.core_scope.specs.declared.fault.Break.{Break}
use Rattle.core_scope.specs.Breaks.{module_breaks}
use Rattle.core_scope.specs.Accepted.{rule_number, IsBefore, FirstBreak}
use Rattle.core_scope.specs.steps.State.{is_before, earlier, first_of}
use Rattle.core_scope.proofs.Members.{first_in}
use Rattle.core_scope.proofs.Orders.{IsStrictOrder, not_told, by_number, number_first, neither_less}

-- Breaks are ordered by byte, then by line, then by the rule's number.
pub break_order : IsStrictOrder IsBefore is_before
break_order = number_first (λ b. b.place.byte) _ _ (number_first (λ b. b.place.line) _ _ (by_number (λ b. rule_number b.rule)))

-- A break is the first of one found before and of these.
abbrev IsLeast : Option Break → List Break → Break → Type 0
IsLeast found bs b = ((found ≡ Some b) ⊎ Contains bs b) × ((a : Break) → (found ≡ Some a) ⊎ Contains bs a → IsBefore a b → ⊥)

least_of_two : (c d : Break) (bs : List Break) (b : Break) (t : Bool) → is_before c d ≡ t → IsLeast (if t then Some c else Some d) bs b → IsLeast (Some d) (c ∷ bs) b
least_of_two c d bs b true t r = (
  elim r.0 [ inl is ↦ inr (first_in c b bs (same_Some c b is)) | inr later ↦ inr (contains_later c b bs later) ],
  λ a h before. elim h [
    | inl is ↦ r.1 c (inl refl) (break_order.transitive c d b (break_order.sound c d t) (let same : a ≡ d = sym (same_Some d a is) in subst (λ z. IsBefore z b) same before))
    | inr is ↦ elim (contains_cases c a bs is) [ inl here ↦ r.1 a (inl (ap Some here)) before | inr later ↦ r.1 a (inr later) before ]
  ],
)
least_of_two c d bs b false t r = (
  elim r.0 [ inl is ↦ inl is | inr later ↦ inr (contains_later c b bs later) ],
  λ a h before. elim h [
    | inl is ↦ r.1 a (inl is) before
    | inr is ↦ elim (contains_cases c a bs is) [
      | inl here ↦ not_told IsBefore is_before break_order c d t (break_order.before_other c b d (subst (λ z. IsBefore z b) (sym here) before) (r.1 d (inl refl)))
      | inr later ↦ r.1 a (inr later) before
    ]
  ],
)

pub least : (found : Option Break) (bs : List Break) (b : Break) → first_of found bs ≡ Some b → IsLeast found bs b
least found [] b e = (inl e, λ a h before. elim h [ inl is ↦ (let same : a ≡ b = same_Some a b (sym is ∙ e) in break_order.irreflexive b (subst (λ z. IsBefore z b) same before)) | inr is ↦ contains_none a is ])
least None (c ∷ bs) b e =
    let r = least (Some c) bs b e in (
      elim r.0 [ inl is ↦ inr (first_in c b bs (same_Some c b is)) | inr later ↦ inr (contains_later c b bs later) ],
      λ a h before. elim h [ inl is ↦ absurd cc | inr is ↦ elim (contains_cases c a bs is) [ inl here ↦ r.1 a (inl (ap Some here)) before | inr later ↦ r.1 a (inr later) before ] ],
    )
least (Some d) (c ∷ bs) b e = least_of_two c d bs b (is_before c d) refl (least (earlier (Some d) c) bs b e)

-- What is answered of the whole module.
pub first_is : (x : m.Module) (b : Break) → Some b ≡ first_of None (module_breaks x) → FirstBreak x b
first_is x b e =
    let r = least None (module_breaks x) b (sym e) in
    record {
      broken = elim r.0 [ inl is ↦ absurd cc | inr is ↦ is ];
      first = λ a is. r.1 a (inr is);
    }

some_stays : (a : Break) (bs : List Break) → first_of (Some a) bs ≡ None → ⊥
some_stays a [] e = absurd cc
some_stays a (b ∷ bs) e = by (is_before b a) (λ c. some_stays c bs) e
  where
    by : (t : Bool) → ((c : Break) → first_of (Some c) bs ≡ None → ⊥) → first_of (if t then Some b else Some a) bs ≡ None → ⊥
    by true rec e = rec b e
    by false rec e = rec a e

pub none_broken : (bs : List Break) → None ≡ first_of None bs → bs ≡ []
none_broken [] e = refl
none_broken (b ∷ bs) e = absurd (some_stays b bs (sym e))

-- ---- there is one first break

abbrev rule_of : ℕ → ScopeRule
rule_of n = if eqb n 8 then BoundVariables else if eqb n 9 then DistinctVariables else if eqb n 10 then DefinedFunctions else if eqb n 11 then DistinctFunctions else if eqb n 12 then DefinedExports else Degrees

rule_of_number : (r : ScopeRule) → rule_of (rule_number r) ≡ r
rule_of_number BoundVariables = refl
rule_of_number DistinctVariables = refl
rule_of_number DefinedFunctions = refl
rule_of_number DistinctFunctions = refl
rule_of_number DefinedExports = refl
rule_of_number Degrees = refl

same_rule : (r s : ScopeRule) → rule_number r ≡ rule_number s → r ≡ s
same_rule r s same = sym (rule_of_number r) ∙ ap rule_of same ∙ rule_of_number s

-- Of two breaks the one comes before the other, or the other before it, or they are one.
neither_before : (b c : Break) → (IsBefore b c → ⊥) → (IsBefore c b → ⊥) → b ≡ c
neither_before b c low high =
    let byte : b.place.byte ≡ c.place.byte = neither_less _ _ (λ p. low (inl p)) (λ p. high (inl p)) in
    let line : b.place.line ≡ c.place.line = neither_less _ _ (λ p. low (inr (byte, inl p))) (λ p. high (inr (sym byte, inl p))) in
    let number : rule_number b.rule ≡ rule_number c.rule = neither_less _ _ (λ p. low (inr (byte, inr (line, p)))) (λ p. high (inr (sym byte, inr (sym line, p)))) in
    let rule : b.rule ≡ c.rule = same_rule b.rule c.rule number in
    λ i. record { place = record { byte = byte i; line = line i }; rule = rule i }

pub first_break_is_one : (x : m.Module) (b c : Break) → FirstBreak x b → FirstBreak x c → b ≡ c
first_break_is_one x b c one other = neither_before b c (other.first b one.broken) (one.first c other.broken)
