-- What is there isn't missing, and what is said of what is there holds of it.
use Rattle.std.proofs.Common.{◌≡◌, Option, Some, None, subst}
use Rattle.std.specs.Option.{IsSomeAnd}

pub not_missing : {A : Type 0} {o : Option A} (P : A → Type 0) → o ≡ None → IsSomeAnd o P → ⊥
not_missing P e h = subst (λ k. IsSomeAnd k P) e h

pub found_so : {A : Type 0} {o : Option A} (P : A → Type 0) (x : A) → o ≡ Some x → IsSomeAnd o P → P x
found_so P x e h = subst (λ k. IsSomeAnd k P) e h
