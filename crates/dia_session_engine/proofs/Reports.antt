-- What is kept of the reports on files, after each edit.
use Rattle.std.proofs.Common.{◌≡◌, ℕ, zero, suc, ◌+◌, ◌<◌, ◌≤◌, List, [], ◌∷◌, ◌++◌, map, length, slice_get, slice_set, Option, Some, None, refl, sym, ap, ◌∙◌, arith}
use Rattle.std.specs.List.{remove}
use Rattle.std.proofs.lemmas.List.{length-map, length-set}
use Rattle.std.proofs.lemmas.Option.{slice_get_within}
use Rattle.table_keep.specs.declared.source.Source.{Source as HandedIn}
use Rattle.table_keep.specs.Model.{source_so, sources_so}
use Rattle.analysis.specs.declared.kept.KeptReport.{KeptReport}
use Rattle.sound_laws_kept.proofs.Names.{none_some}
use Rattle.dia_session_engine.specs.steps.Holding.{HasReports}
use Rattle.dia_session_engine.proofs.Exits.{map_removed}

-- ---- lists

inner : {X : Type 0} → Option (Option X) → Option X
inner None = None
inner (Some o) = o

-- an item that was set to nothing isn't there, and others are as before
set_none : {X : Type 0} (xs : List (Option X)) (i j : ℕ) (y : X) → slice_get (slice_set xs i None) j ≡ Some (Some y) → (i ≡ j → ⊥) × (slice_get xs j ≡ Some (Some y))
unfolding inner
set_none [] i j y e = none_some e
set_none (x ∷ xs) zero zero y e = none_some {x = y} (ap inner e)
set_none (x ∷ xs) zero (suc j) y e = (λ q. omega (arith, q), e)
set_none (x ∷ xs) (suc i) zero y e = (λ q. omega (arith, q), e)
set_none (x ∷ xs) (suc i) (suc j) y e = let r = set_none xs i j y e in (λ q. r.0 (omega (arith, q)), r.1)

set_other : {X : Type 0} (xs : List X) (i j : ℕ) (x : X) → (i ≡ j → ⊥) → slice_get (slice_set xs i x) j ≡ slice_get xs j
set_other [] i j x apart = refl
set_other (y ∷ xs) zero zero x apart = absurd (apart refl)
set_other (y ∷ xs) zero (suc j) x apart = refl
set_other (y ∷ xs) (suc i) zero x apart = refl
set_other (y ∷ xs) (suc i) (suc j) x apart = set_other xs i j x (λ e. apart (ap suc e))

map_set : {X Y : Type 0} (f : X → Y) (xs : List X) (i : ℕ) (x : X) → map f (slice_set xs i x) ≡ slice_set (map f xs) i (f x)
map_set f [] i x = refl
map_set f (y ∷ xs) zero x = refl
map_set f (y ∷ xs) (suc i) x = ap (λ ys. f y ∷ ys) (map_set f xs i x)

-- where an item stood before one was taken out
before : (i j : ℕ) → ℕ
before zero j = suc j
before (suc i) zero = zero
before (suc i) (suc j) = suc (before i j)

removed : {X : Type 0} (xs : List X) (i j : ℕ) → slice_get (remove xs i) j ≡ slice_get xs (before i j)
unfolding before
removed [] zero j = refl
removed [] (suc i) j = refl
removed (x ∷ xs) zero j = refl
removed (x ∷ xs) (suc i) zero = refl
removed (x ∷ xs) (suc i) (suc j) = removed xs i j

few_removed : {X Y : Type 0} (xs : List X) (ys : List Y) (i : ℕ) → length xs ≤ length ys → i < length ys → length (remove xs i) ≤ length (remove ys i)
few_removed [] ys zero few low = omega arith
few_removed [] ys (suc i) few low = omega arith
few_removed (x ∷ xs) [] i few low = absurd (omega (arith, low))
few_removed (x ∷ xs) (y ∷ ys) zero few low = omega (arith, few)
few_removed (x ∷ xs) (y ∷ ys) (suc i) few low = let r = few_removed xs ys i (omega (arith, few)) (omega (arith, low)) in omega (arith, r)

more_get : {X : Type 0} (xs ys : List X) (j : ℕ) → j < length xs → slice_get (xs ++ ys) j ≡ slice_get xs j
more_get [] ys j low = absurd (omega (arith, low))
more_get (x ∷ xs) ys zero low = refl
more_get (x ∷ xs) ys (suc j) low = more_get xs ys j (omega (arith, low))

map_more : {X Y : Type 0} (f : X → Y) (xs : List X) (x : X) → map f (xs ++ x ∷ []) ≡ map f xs ++ f x ∷ []
map_more f [] x = refl
map_more f (y ∷ xs) x = ap (λ ys. f y ∷ ys) (map_more f xs x)

-- ---- edits

pub no_reports : HasReports [] []
no_reports = record { few = omega arith; each = λ i s at k e. none_some e }

module _ (ss : List HandedIn) (kept : List (Option KeptReport)) (has : HasReports ss kept) where
  pub reports_replaced : (i : ℕ) (s : HandedIn) → HasReports (slice_set ss i s) (slice_set kept i None)
  reports_replaced i s = record {
    few = (let a = length-set ss i s in let b = length-set kept i None in let f = has.few in omega (arith, a, b, f));
    each = λ j t at k e.
        let r = set_none kept i j k e in
        has.each j t (sym (set_other (sources_so ss) i j (source_so s) r.0) ∙ ap (λ M. slice_get M j) (sym (map_set source_so ss i s)) ∙ at) k r.1;
  }

  pub reports_added : (s : HandedIn) → HasReports (ss ++ s ∷ []) kept
  reports_added s = record {
    few = (let a = long ss in let f = has.few in omega (arith, a, f));
    each = λ j t at k e.
        let low = slice_get_within kept j (Some k) e in
        let f = has.few in
        let l = length-map ss source_so in
        has.each j t (sym (more_get (sources_so ss) (source_so s ∷ []) j (omega (arith, low, f, l))) ∙ ap (λ M. slice_get M j) (sym (map_more source_so ss s)) ∙ at) k e;
  }
    where
      long : (xs : List HandedIn) → length (xs ++ s ∷ []) ≡ suc (length xs)
      long [] = refl
      long (x ∷ xs) = ap suc (long xs)

  pub reports_dropped : (i : ℕ) → i < length ss → HasReports (remove ss i) (remove kept i)
  reports_dropped i low = record {
    few = few_removed kept ss i has.few low;
    each = λ j t at k e.
        has.each (before i j) t (sym (removed (sources_so ss) i j) ∙ ap (λ M. slice_get M j) (sym (map_removed source_so ss i)) ∙ at) k (sym (removed kept i j) ∙ e);
  }
