-- Where the innermost binding of a name stands, by the number that tells which ends of the names have it.
use Rattle.std.proofs.Common.{◌≡◌, ℕ, ◌+◌, ◌-◌, ◌<◌, ◌≤◌, List, drop, refl, sym, ◌∙◌, Bool, true, false, Option, Some, None, arith}
use Rattle.std.specs.Prelude.{IsSome, IfSome, ◌↔◌}
use Rattle.std.specs.List.{list_any}
use Rattle.std.specs.Option.{SomeIff}
use Rattle.std.proofs.lemmas.Bool.{lt-ltb, le-ltb, ltb-true}
use Rattle.core_scope.specs.steps.Trail.{Tells}

module _ {T : Type 0} (test : T → Bool) (names : List T) where
  pub place_bound : (last : ℕ) (o : Option ℕ) → Tells test names last → SomeIff o (1 ≤ last) (last - 1) → IsSome o ↔ (list_any test names ≡ true)
  place_bound last None tells none = (λ e. absurd cc, λ e. absurd (let h : 0 < last = ltb-true 0 last (tells 0 ∙ e) in none (omega arith)))
  place_bound last (Some p) tells some = (λ e. sym (tells 0) ∙ lt-ltb 0 last (let h : 1 ≤ last = some.0 in omega arith), λ e. refl)

  pub place_there : (last : ℕ) (o : Option ℕ) → Tells test names last → SomeIff o (1 ≤ last) (last - 1) → IfSome o (λ p. list_any test (drop p names) ≡ true)
  place_there last None tells none = tt
  place_there last (Some p) tells some = sym (tells p) ∙ lt-ltb p last (let h : 1 ≤ last = some.0 in let e : p ≡ last - 1 = some.1 in omega arith)

  pub place_innermost : (last : ℕ) (o : Option ℕ) → Tells test names last → SomeIff o (1 ≤ last) (last - 1) → IfSome o (λ p. list_any test (drop (p + 1) names) ≡ false)
  place_innermost last None tells none = tt
  place_innermost last (Some p) tells some = sym (tells (p + 1)) ∙ le-ltb (p + 1) last (let h : 1 ≤ last = some.0 in let e : p ≡ last - 1 = some.1 in omega arith)

  pub place_unknown : false ≡ list_any test names → (false ≡ true) ↔ (list_any test names ≡ true)
  place_unknown none = (λ e. absurd cc, λ e. none ∙ e)
