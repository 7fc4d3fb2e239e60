-- Reads that come one after another, and what they tell together.
use Rattle.std.proofs.Common.{◌≡◌, ℕ, List, [], ◌∷◌, ◌++◌, refl, sym, ap, ◌∙◌, subst, Option, None}
use Rattle.std.proofs.lemmas.List.{map-append}
use Rattle.da_shelf.specs.declared.shelf.ShelfFault.TheVariants as s
use Rattle.da_shelf.specs.Told.{Files}
use Rattle.da_shelf.specs.Reads.{ToldRead, gave, gave_none, name_read, names_read, Fits, AllFit, AreReads, IsTold, IsToldFirst}

-- what is held is as the first told, and the others
both_fit : (held : Option Files) (xs ys : List ToldRead) → AllFit held (xs ++ ys) → AllFit held xs × AllFit held ys
both_fit held [] ys fit = (tt, fit)
both_fit held (x ∷ xs) ys fit = let rest = both_fit held xs ys fit.1 in ((fit.0, rest.0), rest.1)

-- where nothing is known of what is held, it fits
pub nothing_fits : (reads : List ToldRead) → AllFit None reads
nothing_fits [] = tt
nothing_fits (gave name bytes ∷ reads) = (tt, nothing_fits reads)
nothing_fits (gave_none name s.Missing ∷ reads) = (tt, nothing_fits reads)
nothing_fits (gave_none name s.Failed ∷ reads) = (tt, nothing_fits reads)
nothing_fits (gave_none name s.Memory ∷ reads) = (tt, nothing_fits reads)

module _ {S : Type 0} (told : S → S → ToldRead → Type 0) where
  reads_on : (a b c : S) (xs ys : List ToldRead) → AreReads told a xs b → AreReads told b ys c → AreReads told a (xs ++ ys) c
  reads_on a b c [] ys same more = subst (λ s. AreReads told s ys c) same more
  reads_on a b c (x ∷ xs) ys first more = (first.0, first.1, reads_on first.0 b c xs ys first.2 more)

  -- nothing is read
  pub nothing_told : (a : S) (Is : Option Files → Type 0) → ((held : Option Files) → Is held) → IsTold told a a [] Is
  nothing_told a Is is = record { reads = []; took = refl; in_order = refl; so = λ held fit. is held }

  -- one read
  pub one_told : (a b : S) (read : ToldRead) (Is : Option Files → Type 0) → told a b read → ((held : Option Files) → Fits held read → Is held) → IsTold told a b (name_read read ∷ []) Is
  one_told a b read Is step is = record { reads = read ∷ []; took = (b, step, refl); in_order = refl; so = λ held fit. is held fit.0 }

  -- what is told says more
  pub told_so : (a b : S) (names : List (List ℕ)) (P Q : Option Files → Type 0) → IsTold told a b names P → ((held : Option Files) → P held → Q held) → IsTold told a b names Q
  told_so a b names P Q t is = record { reads = t.reads; took = t.took; in_order = t.in_order; so = λ held fit. is held (t.so held fit) }

  -- reads, and more behind them
  pub told_then : (a b c : S) (names more : List (List ℕ)) (P Q R : Option Files → Type 0) → IsTold told a b names P → IsTold told b c more Q
      → ((held : Option Files) → P held → Q held → R held) → IsTold told a c (names ++ more) R
  told_then a b c names more P Q R s t is =
      record {
        reads = s.reads ++ t.reads;
        took = reads_on a b c s.reads t.reads s.took t.took;
        in_order = map-append name_read s.reads t.reads ∙ ap (λ ns. ns ++ names_read t.reads) s.in_order ∙ ap (λ ns. names ++ ns) t.in_order;
        so = λ held fit. let fits = both_fit held s.reads t.reads fit in is held (s.so held fits.0) (t.so held fits.1);
      }

  -- reads behind which nothing is read
  pub told_first : (count : S → ℕ) (a b c : S) (names : List (List ℕ)) (P Q : Option Files → Type 0) → IsTold told a b names P → count c ≡ count b
      → ((held : Option Files) → P held → Q held) → IsToldFirst told count a c names Q
  told_first count a b c names P Q t same is = record { behind = b; first = told_so a b names P Q t is; no_more = same }
