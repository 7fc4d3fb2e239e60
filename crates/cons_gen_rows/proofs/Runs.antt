-- Runs of slots, slots that are equal one by one, and the cells of lists: what each round of a loop keeps.
use Rattle.std.proofs.Common.{◌≡◌, ℕ, zero, suc, ◌+◌, ◌-◌, ◌<◌, ◌≤◌, min, List, [], ◌∷◌, ◌++◌, map, length, take, drop, get_or}
use Rattle.std.proofs.Common.{refl, sym, ap, ◌∙◌, arith, append_assoc, length-append, length-drop, length-take-le, drop-cons}
use Rattle.cons_tree.specs.declared.parts.Part.TheVariants as part
use Rattle.core_ast.specs.declared.syntax.VarName.{VarName}
use Rattle.cons_gen_rows.specs.Scopes.{binding, bindings}
use Rattle.cons_gen_rows.specs.Slots.{slots_from}
use Rattle.cons_gen_rows.specs.Walking.{bindings_at}
use Rattle.cons_gen_rows.specs.Words.{equal, equals}
use Rattle.cons_gen_rows.proofs.Adding.{take_map, drop_map}
use Rattle.std.proofs.lemmas.List.{map-append, take_all, drop_all, append-nil}
use Rattle.std.proofs.Math.Seq.{drop-nil}

pub run_next : (first count i : ℕ) → i < count → slots_from (first + i) (count - i) ≡ (first + i) ∷ slots_from (first + (i + 1)) (count - (i + 1))
run_next first count i within =
    ap (slots_from (first + i)) (let e : count - i ≡ suc (count - (i + 1)) = omega arith in e) ∙ ap (λ n. (first + i) ∷ slots_from n (count - (i + 1))) (let e : first + i + 1 ≡ first + (i + 1) = omega arith in e)

pub run_round : (first count i s : ℕ) (ss more : List ℕ) → i < count → s ≡ first + i → more ≡ ss ++ s ∷ [] → ss ++ slots_from (first + i) (count - i) ≡ slots_from first count
    → more ++ slots_from (first + (i + 1)) (count - (i + 1)) ≡ slots_from first count
run_round first count i s ss more within is added before =
    let rest : List ℕ = slots_from (first + (i + 1)) (count - (i + 1)) in
    ap (λ l. l ++ rest) (added ∙ ap (λ n. ss ++ n ∷ []) is) ∙ append_assoc ss ((first + i) ∷ []) rest ∙ ap (λ l. ss ++ l) (sym (run_next first count i within)) ∙ before

pub run_ends : (first count i : ℕ) (ss : List ℕ) → count ≤ i → ss ++ slots_from (first + i) (count - i) ≡ slots_from first count → ss ≡ slots_from first count
run_ends first count i ss past before = sym (append-nil ss) ∙ ap (λ n. ss ++ slots_from (first + i) n) (let e : 0 ≡ count - i = omega arith in e) ∙ before

-- ---- slots that are equal one by one

drop_next : (xs : List ℕ) (i d : ℕ) → i < length xs → drop i xs ≡ get_or xs i d ∷ drop (i + 1) xs
drop_next xs i d within = drop-cons xs i d within ∙ ap (λ n. get_or xs i d ∷ drop n xs) (let e : suc i ≡ i + 1 = omega arith in e)

pub equals_next : (ls rs : List ℕ) (i : ℕ) → i < length ls → i < length rs → equals (drop i ls) (drop i rs) ≡ equal (get_or ls i 0) (get_or rs i 0) ++ equals (drop (i + 1) ls) (drop (i + 1) rs)
equals_next ls rs i left right = ap (λ l. equals l (drop i rs)) (drop_next ls i 0 left) ∙ ap (equals (get_or ls i 0 ∷ drop (i + 1) ls)) (drop_next rs i 0 right)

none_right : (ls : List ℕ) → equals ls [] ≡ []
none_right [] = refl
none_right (l ∷ ls) = refl

pub equals_end : (ls rs : List ℕ) (i : ℕ) → min (length ls) (length rs) ≤ i → equals (drop i ls) (drop i rs) ≡ []
equals_end [] rs i h = ap (λ l. equals l (drop i rs)) (drop_all i [] (omega arith))
equals_end (l ∷ ls) [] i h = ap (equals (drop i (l ∷ ls))) (drop_all i [] (omega arith)) ∙ none_right (drop i (l ∷ ls))
equals_end (l ∷ ls) (r ∷ rs) zero h = absurd (omega arith)
equals_end (l ∷ ls) (r ∷ rs) (suc i) h = equals_end ls rs i (omega arith)

-- ---- rows that change positions

none_taken : {X : Type 0} (n : ℕ) → take {A = X} n [] ≡ []
none_taken zero = refl
none_taken (suc n) = refl

dropped_twice : {X : Type 0} (a b c : ℕ) (xs : List X) → b + a ≡ c → drop a (drop b xs) ≡ drop c xs
dropped_twice a zero c xs is = ap (λ n. drop n xs) (let e : a ≡ c = omega arith in e)
dropped_twice a (suc b) c [] is = drop-nil a ∙ sym (drop-nil c)
dropped_twice a (suc b) zero (x ∷ xs) is = absurd (omega arith)
dropped_twice a (suc b) (suc c) (x ∷ xs) is = dropped_twice a b c xs (omega arith)

taken_behind : {X : Type 0} (k s m : ℕ) (xs : List X) → s + k ≡ m → take k (drop s xs) ≡ drop s (take m xs)
taken_behind k zero m xs is = ap (λ n. take n xs) (let e : k ≡ m = omega arith in e)
taken_behind k (suc s) m [] is = none_taken k ∙ sym (ap (drop (suc s)) (none_taken m))
taken_behind k (suc s) zero (x ∷ xs) is = absurd (omega arith)
taken_behind k (suc s) (suc m) (x ∷ xs) is = taken_behind k s m xs (omega arith)

pub rotated : {X : Type 0} (xs part new post : List X) (s m : ℕ) → s ≤ m → m ≤ length xs → part ≡ take (length xs - s) (drop s xs) → new ≡ drop (m - s) part ++ take (m - s) part → post ≡ []
    → take s xs ++ (new ++ post) ≡ (take s xs ++ drop m xs) ++ drop s (take m xs)
rotated xs part new post s m first second part_is new_is post_is =
    let len : length (drop s xs) ≡ length xs - s = length-drop s xs in
    let all : part ≡ drop s xs = part_is ∙ take_all (length xs - s) (drop s xs) (omega arith) in
    let there : new ≡ drop m xs ++ drop s (take m xs) = new_is ∙ ap (λ l. drop (m - s) l ++ take (m - s) l) all
    ∙ ap (λ l. l ++ take (m - s) (drop s xs)) (dropped_twice (m - s) s m xs (omega arith)) ∙ ap (λ l. drop m xs ++ l) (taken_behind (m - s) s m xs (omega arith)) in
    ap (λ l. take s xs ++ (new ++ l)) post_is ∙ ap (λ l. take s xs ++ l) (append-nil new ∙ there) ∙ sym (append_assoc (take s xs) (drop m xs) (drop s (take m xs)))

-- the same of what the rows stand for
pub rotated_rows : {X Y : Type 0} (f : X → Y) (items xs new : List X) (s m : ℕ) → s ≤ m → m ≤ length items → xs ≡ items
    → new ≡ drop (m - s) (take (length xs - s) (drop s xs)) ++ take (m - s) (take (length xs - s) (drop s xs))
    → map f (take s xs ++ (new ++ drop (length xs - s) (drop s xs))) ≡ (take s (map f items) ++ drop m (map f items)) ++ drop s (take m (map f items))
rotated_rows f items xs new s m first second is new_is =
    let within : m ≤ length xs = omega (arith, ap length is) in
    let len : length (drop s xs) ≡ length xs - s = length-drop s xs in
    ap (map f) (rotated xs _ new (drop (length xs - s) (drop s xs)) s m first within refl new_is (drop_all (length xs - s) (drop s xs) (omega arith)))
    ∙ ap (λ l. map f ((take s l ++ drop m l) ++ drop s (take m l))) is
    ∙ map-append f (take s items ++ drop m items) (drop s (take m items))
    ∙ ap (λ l. l ++ map f (drop s (take m items))) (map-append f (take s items) (drop m items) ∙ ap (λ l. l ++ map f (drop m items)) (take_map f s items) ∙ ap (λ l. take s (map f items) ++ l) (drop_map f m items))
    ∙ ap (λ l. (take s (map f items) ++ drop m (map f items)) ++ l) (drop_map f s (take m items) ∙ ap (drop s) (take_map f m items))

pub whole_length : {X : Type 0} (xs new : List X) (s n : ℕ) → s ≤ length xs → length xs ≡ n → length new ≡ length (take (length xs - s) (drop s xs)) → length (take s xs ++ (new ++ drop (length xs - s) (drop s xs))) ≡ n
whole_length xs new s n first is long =
    let a : length (drop s xs) ≡ length xs - s = length-drop s xs in
    let b : length (take (length xs - s) (drop s xs)) ≡ length xs - s = length-take-le (length xs - s) (drop s xs) (omega arith) in
    let d : length (take s xs) ≡ s = length-take-le s xs first in
    let e : length (drop (length xs - s) (drop s xs)) ≡ length (drop s xs) - (length xs - s) = length-drop (length xs - s) (drop s xs) in
    let f = length-append (take s xs) (new ++ drop (length xs - s) (drop s xs)) in
    let g = length-append new (drop (length xs - s) (drop s xs)) in
    omega arith

-- variables at slots
pub bindings_end : (xs : List VarName) (ss : List ℕ) (i : ℕ) → min (length xs) (length ss) ≤ i → bindings_at (drop i xs) (drop i ss) ≡ []
bindings_end [] ss i h = ap (λ l. bindings_at l (drop i ss)) (drop_all i [] (omega arith))
bindings_end (x ∷ xs) [] i h = ap (bindings_at (drop i (x ∷ xs))) (drop_all i [] (omega arith)) ∙ by (drop i (x ∷ xs))
  where
    by : (ys : List VarName) → bindings_at ys [] ≡ []
    by [] = refl
    by (y ∷ ys) = refl
bindings_end (x ∷ xs) (s ∷ ss) zero h = absurd (omega arith)
bindings_end (x ∷ xs) (s ∷ ss) (suc i) h = bindings_end xs ss i (omega arith)

-- variables at slots one after another
pub bindings_run : (xs : List VarName) (s : ℕ) → bindings_at xs (slots_from s (length xs)) ≡ bindings xs s
bindings_run [] s = refl
bindings_run (x ∷ xs) s = ap (λ l. binding x.name s ++ l) (bindings_run xs (s + 1))
