-- Signatures as values: what types make one, and how two are compared and joined.
use Rattle.std.specs.Prelude.{◌≡◌, ℕ, Bool, true, false, ◌&&◌, List, [], ◌∷◌, replicate, length, refl}
use Rattle.type_lattice.specs.Types.{Type4, none, any, join}
use Rattle.type_lattice.specs.Inclusion.{leq}
use Rattle.cons_tree.specs.Signatures.{has_none}
use Rattle.cons_tree.specs.declared.parts.Sig.{Sig}
use Rattle.comp_rounds.specs.Agreeing.{nothing_agrees, something_agrees}

-- the signature of a function of n arguments that gives no value
abbrev pub nothing : ℕ → Sig
nothing n = record { args = replicate n none; result = none; agreed = nothing_agrees n }

-- The signature of these types: the result and the arguments. Where one of them is none, all are.
abbrev pub signature_by : (r : Type4) (ts : List Type4) (b : Bool) → has_none (r ∷ ts) ≡ b → Sig
signature_by r ts true e = nothing (length ts)
signature_by r ts false e = record { args = ts; result = r; agreed = something_agrees (r ∷ ts) e }

unfoldable pub signature : Type4 → List Type4 → Sig
signature r ts = signature_by r ts (has_none (r ∷ ts)) refl

-- the signature of a function of n arguments of which nothing is known
unfoldable pub anything : ℕ → Sig
anything n = signature any (replicate n any)

-- type by type
abbrev pub joins : List Type4 → List Type4 → List Type4
joins [] us = []
joins (t ∷ ts) [] = []
joins (t ∷ ts) (u ∷ us) = join t u ∷ joins ts us

abbrev pub are_below : List Type4 → List Type4 → Bool
are_below [] [] = true
are_below [] (u ∷ us) = false
are_below (t ∷ ts) [] = false
are_below (t ∷ ts) (u ∷ us) = leq t u && are_below ts us

-- the join of two signatures
unfoldable pub join_of : Sig → Sig → Sig
join_of s t = signature (join s.result t.result) (joins s.args t.args)

-- whether one signature is below another, and whether those of one list are below those of another, one by one
unfoldable pub is_below : Sig → Sig → Bool
is_below s t = are_below (s.result ∷ s.args) (t.result ∷ t.args)

abbrev pub all_below : List Sig → List Sig → Bool
all_below [] [] = true
all_below [] (t ∷ ts) = false
all_below (s ∷ ss) [] = false
all_below (s ∷ ss) (t ∷ ts) = is_below s t && all_below ss ts
