-- Sorts are equal if their numbers are, and which sort fits where which is expected.
use Rattle.std.proofs.Common.{◌≡◌, List, [], ◌∷◌, ◌⊎◌, inl, inr, true, false, ◌==◌, refl, sym, ap, ◌∙◌, get_or}
use Rattle.std.proofs.lemmas.Bool.{ne_eqb}
use Rattle.std.proofs.lemmas.Bool.Decides.{Decides-eqb}
use Rattle.core_scan.specs.declared.sort.Sort.{Sort}
use Rattle.core_scan.specs.declared.sort.Sort.TheVariants as s
use Rattle.core_scan.specs.Sorts.{code, fits}

-- every sort, at its number
sorts : List Sort
sorts = s.After ∷ s.Apply ∷ s.Attributes ∷ s.Call ∷ s.Case ∷ s.Catch ∷ s.Do ∷ s.End ∷ s.Fun ∷ s.In ∷ s.Let ∷ s.Letrec ∷ s.Module ∷ s.Of ∷ s.Primop ∷ s.Receive ∷ s.Try ∷ s.When ∷ s.OpenRound
    ∷ s.CloseRound ∷ s.OpenCurly ∷ s.CloseCurly ∷ s.OpenSquare ∷ s.CloseSquare ∷ s.Less ∷ s.Greater ∷ s.Bar ∷ s.Comma ∷ s.Colon ∷ s.Slash ∷ s.Equals ∷ s.Arrow ∷ s.Noted ∷ s.OpenBinary ∷ s.CloseBinary
    ∷ s.OpenSegment ∷ s.OpenMap ∷ s.CloseMap ∷ s.Assoc ∷ s.Exact ∷ s.Variable ∷ s.Small ∷ s.Integer ∷ s.Float ∷ s.Char ∷ s.Atom ∷ s.EmptyText ∷ s.Text ∷ s.Other ∷ []

at_code : (p : Sort) → get_or sorts (code p) s.Other ≡ p
unfolding sorts
at_code s.After = refl
at_code _ = refl

pub one_code : (p q : Sort) → code p ≡ code q → p ≡ q
one_code p q e = sym (at_code p) ∙ ap (λ n. get_or sorts n s.Other) e ∙ at_code q

pub code_test : (p q : Sort) → (code p == code q) ≡ true → p ≡ q
code_test p q e = one_code p q ((Decides-eqb (code p) (code q)).0 e)

pub codes_differ : (p q : Sort) → (q ≡ p → ⊥) → (code p == code q) ≡ false
codes_differ p q h = ne_eqb (code p) (code q) (λ e. h (sym (one_code p q e)))

-- each sort fits itself
pub fits_itself : (p : Sort) → fits p p ≡ true
fits_itself s.After = refl
fits_itself _ = refl

-- no other sort fits it, except that a small integer fits an integer
pub fits_no_other : (p q : Sort) → (p ≡ s.Integer → ⊥) → (q ≡ p → ⊥) → fits p q ≡ false
fits_no_other s.Integer q e h = absurd (e refl)
fits_no_other s.After q e h = codes_differ s.After q h
fits_no_other p q e h = codes_differ p q h

pub fitting : (p q : Sort) → fits p q ≡ true → (q ≡ p) ⊎ ((p ≡ s.Integer) × (q ≡ s.Small))
fitting s.Integer s.Small h = inr (refl, refl)
fitting s.Integer q h = inl (sym (code_test s.Integer q h))
fitting p q h = inl (sym (code_test p q h))
