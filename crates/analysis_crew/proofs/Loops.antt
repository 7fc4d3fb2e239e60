-- One item more of the lists that loops make, and of what they fix.
use Rattle.std.proofs.Common.{◌≡◌, ℕ, zero, suc, ◌+◌, ◌<◌, List, [], ◌∷◌, ◌++◌, length, drop, map, get_or, Some, None, append_assoc, append-nil, sym, ap, ◌∙◌, subst}
use Rattle.std.specs.Prelude.{slice_get, slice_index, slice_index_or, option_map}
use Rattle.std.proofs.lemmas.List.{map-append, drop_more}
use Rattle.std.proofs.lemmas.Option.{slice_get-map, get_or_from_slice_get}
use Rattle.type_kinds.proofs.Lists.{drop_next}
use Rattle.comp_rounds.specs.declared.members.Member.{Member}
use Rattle.comp_rounds.specs.Members.{function_of}
use Rattle.comp_rounds.specs.Parts.{Listed}
use Rattle.comp_rounds.specs.Rounds.{Callees, Function}
use Rattle.analysis_summaries.specs.Functions.{perhaps, picked}
use Rattle.analysis_crew.specs.Parts.{listed}
use Rattle.analysis_crew.specs.steps.Fixing.{Call, fixing, fixing_all, with_own, with_called, fixed_by}

-- ---- lists of functions

pub listed_there : (ms : List Member) (n : ℕ) (x : Member) (it : Listed) (out : List Listed) → slice_get ms n ≡ Some x → it ≡ listed (function_of x)
    → out ++ it ∷ [] ≡ out ++ map listed (perhaps (slice_get (map function_of ms) n))
listed_there ms n x it out there is =
    ap (λ y. out ++ y ∷ []) is
    ∙ ap (λ o. out ++ map listed (perhaps o)) (sym (slice_get-map function_of ms n ∙ ap (option_map function_of) there))

pub listed_none : (ms : List Member) (n : ℕ) (out : List Listed) → slice_get ms n ≡ None → out ≡ out ++ map listed (perhaps (slice_get (map function_of ms) n))
listed_none ms n out none =
    sym (append-nil out)
    ∙ ap (λ o. out ++ map listed (perhaps o)) (sym (slice_get-map function_of ms n ∙ ap (option_map function_of) none))

pub listed_next : (fs : List Function) (is : List ℕ) (i : ℕ) → i < length is
    → map listed (picked fs (drop i is)) ≡ map listed (perhaps (slice_get fs (slice_index is i))) ++ map listed (picked fs (drop (i + 1) is))
listed_next fs is i within =
    ap (λ js. map listed (picked fs js)) (drop_more is i 0 within)
    ∙ map-append listed (perhaps (slice_get fs (slice_index is i))) (picked fs (drop (i + 1) is))

-- ---- what is fixed

pub call_done : (first old new all : Callees) (calls : List Call) (i : ℕ) (x : Call) → i < length calls → x ≡ get_or calls i x → new ≡ fixing first old x
    → fixing_all first old (drop i calls) ≡ all → fixing_all first new (drop (i + 1) calls) ≡ all
call_done first old new all calls i x within is done so =
    ap (λ k. fixing_all first k (drop (i + 1) calls)) done ∙ ap (fixing_all first old) (sym (drop_next calls i x within is)) ∙ so

pub number_done : (first : Callees) (fs : List Function) (outside : List (List Call)) (old own new all : Callees) (is : List ℕ) (i : ℕ) → i < length is
    → own ≡ with_own old (slice_get fs (slice_index is i)) → new ≡ with_called first own (slice_get outside (slice_index is i))
    → fixed_by first fs outside old (drop i is) ≡ all → fixed_by first fs outside new (drop (i + 1) is) ≡ all
number_done first fs outside old own new all is i within owned called so =
    ap (λ k. fixed_by first fs outside k (drop (i + 1) is)) (called ∙ ap (λ k. with_called first k (slice_get outside (slice_index is i))) owned)
    ∙ ap (fixed_by first fs outside old) (sym (drop_more is i 0 within))
    ∙ so

-- ---- lists that are made

pub numbers_more : {A : Type 0} (f : ℕ → A) (is : List ℕ) (i : ℕ) (old new : List A) (x : A) → i < length is → x ≡ f (slice_index is i) → new ≡ old ++ x ∷ []
    → (all : List A) → old ++ map f (drop i is) ≡ all → new ++ map f (drop (i + 1) is) ≡ all
numbers_more f is i old new x within same added all so =
    ap (λ ys. ys ++ map f (drop (i + 1) is)) (added ∙ ap (λ y. old ++ y ∷ []) same)
    ∙ append_assoc old (f (slice_index is i) ∷ []) (map f (drop (i + 1) is))
    ∙ ap (λ zs. old ++ map f zs) (sym (drop_more is i 0 within))
    ∙ so

pub item_there : {X : Type 0} (xs : List X) (d x y : X) (k : ℕ) → slice_get xs k ≡ Some x → y ≡ x → y ≡ slice_index_or xs k d
item_there xs d x y k there same = same ∙ sym (get_or_from_slice_get xs k x d there)

-- one more of a list of which each holds something by its position
pub each_there : {X : Type 0} (P : ℕ → X → Type 0) (xs : List X) (y : X) → ((k : ℕ) (x : X) → slice_get xs k ≡ Some x → P k x) → P (length xs) y
    → (k : ℕ) (x : X) → slice_get (xs ++ y ∷ []) k ≡ Some x → P k x
each_there P [] y h here zero x e = let same : y ≡ x = cc in subst (P zero) same here
each_there P [] y h here (suc k) x e = absurd cc
each_there P (z ∷ xs) y h here zero x e = h zero x e
each_there P (z ∷ xs) y h here (suc k) x e = each_there (λ n. P (suc n)) xs y (λ n w there. h (suc n) w there) here k x e
