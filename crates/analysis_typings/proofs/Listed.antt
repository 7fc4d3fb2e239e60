-- The definitions of modules, one after another.
use Rattle.std.proofs.Common.{◌≡◌, ℕ, zero, suc, ◌+◌, ◌<◌, List, [], ◌∷◌, ◌++◌, length, map, get_or, Some, Contains, refl, ap, subst, arith}
use Rattle.type_kinds.proofs.Lists.{contains_first, contains_later}
use Rattle.core_ast.specs.Tree.{all_defs}
use Rattle.core_ast.specs.declared.syntax.Expr.{Expr}
use Rattle.core_ast.specs.declared.syntax.FunName.{FunName}
use Rattle.core_ast.specs.declared.syntax.FunDefOf.{FunDefOf}
use Rattle.type_kinds.specs.declared.atom.Atom.{Atom}
use Rattle.core_ast.specs.Model as m
use Rattle.core_scope.specs.Names.{defined_names}
use Rattle.cons_tree.specs.Callees.{Fits, Takes}
use Rattle.cons_tree.specs.declared.parts.Callee.{Callee}
use Rattle.cons_tree.specs.declared.parts.Callee.TheVariants.{Known, Local, Undefined, Unknown}
use Rattle.cons_tree.specs.declared.parts.Summary.{Summary}
use Rattle.comp_rounds.specs.Rounds.{Callees}
use Rattle.sound_laws.specs.Knowledge.{summary_of}
use Rattle.analysis_typings.specs.Typings.{AreKnownIn, AreKnownOf}

pub names_in : (ds : List (FunDefOf Expr)) → defined_names (all_defs ds) ≡ map (λ d. d.name) ds
names_in [] = refl
names_in (d ∷ ds) = ap (λ fs. d.name ∷ fs) (names_in ds)

-- what holds of each name holds of each definition's
pub by_names : (P : FunName → Type 0) (ds : List (FunDefOf Expr)) → ((f : FunName) → Contains (defined_names (all_defs ds)) f → P f) → (i : ℕ) (d : FunDefOf Expr) → i < length ds → P (get_or ds i d).name
by_names P [] h i d low = absurd (omega arith)
by_names P (e ∷ ds) h zero d low = h e.name (contains_first e.name (defined_names (all_defs ds)))
by_names P (e ∷ ds) h (suc i) d low = by_names P ds (λ f has. h f (contains_later e.name f (defined_names (all_defs ds)) has)) i d (omega arith)

-- an item of a list is among its images
pub image_among : {A B : Type 0} (f : A → B) (xs : List A) (i : ℕ) (d : A) → i < length xs → Contains (map f xs) (f (get_or xs i d))
image_among f [] i d low = absurd (omega arith)
image_among f (x ∷ xs) zero d low = contains_first (f x) (map f xs)
image_among f (x ∷ xs) (suc i) d low = contains_later (f x) (f (get_or xs i d)) (map f xs) (image_among f xs i d (omega arith))

-- ---- what was listed so far

pub one_more : (known : Callees) (home : Atom) (fs : List FunName) (ss : List Summary) (f : FunName) (s : Summary) → AreKnownIn known home fs ss → summary_of (known home f) ≡ Some s → Takes s f.arity
    → AreKnownIn known home (fs ++ f ∷ []) (ss ++ s ∷ [])
one_more known home [] [] f s are is takes = (is, takes, tt)
one_more known home [] (t ∷ ss) f s are is takes = absurd are
one_more known home (g ∷ fs) [] f s are is takes = absurd are
one_more known home (g ∷ fs) (t ∷ ss) f s are is takes = (are.0, are.1, one_more known home fs ss f s are.2 is takes)

pub module_more : (known : Callees) (xs : List m.Module) (found : List (List Summary)) (x : m.Module) (ss : List Summary) → AreKnownOf known xs found → AreKnownIn known x.name (defined_names x.defs) ss
    → AreKnownOf known (xs ++ x ∷ []) (found ++ ss ∷ [])
module_more known [] [] x ss are is = (is, tt)
module_more known [] (ts ∷ found) x ss are is = absurd are
module_more known (y ∷ xs) [] x ss are is = absurd are
module_more known (y ∷ xs) (ts ∷ found) x ss are is = (are.0, module_more known xs found x ss are.1 is)

-- a known function's summary has as many arguments as its name says
pub takes_known : (c : Callee) (s : Summary) (n : ℕ) → Fits c n → summary_of c ≡ Some s → Takes s n
takes_known (Known t) s n fits e = subst (λ u. Takes u n) (some_is t s e) fits
  where
    some_is : (t s : Summary) → Some t ≡ Some s → t ≡ s
    some_is t s e = cc
takes_known (Local t) s n fits e = subst (λ u. Takes u n) (some_is t s e) fits
  where
    some_is : (t s : Summary) → Some t ≡ Some s → t ≡ s
    some_is t s e = cc
takes_known Undefined s n fits e = absurd cc
takes_known Unknown s n fits e = absurd cc
