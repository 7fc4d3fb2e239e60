-- One item more: picked, and solved.
use Rattle.std.proofs.Common.{◌≡◌, ℕ, ◌+◌, ◌<◌, ◌≤◌, append-nil, List, [], ◌∷◌, ◌++◌, length, drop, slice_index, slice_get, refl, drop-cons, add-one}
use Rattle.std.specs.Option.{option_to_list}
use Rattle.std.proofs.lemmas.Option.{slice_get_past}
use Rattle.summary_board.specs.Solved.{picked, solved}

pub picked_next : {X : Type 0} (xs : List X) (cs : List ℕ) (i : ℕ) → i < length cs
    → picked xs (drop i cs) ≡ option_to_list (slice_get xs (slice_index cs i)) ++ picked xs (drop (i + 1) cs)
picked_next xs cs i within = rw (drop-cons cs i 0 within, add-one i) refl

pub solved_more : {P O : Type 0} (written : P → List O → O) (part : ℕ → P) (callees : ℕ → List ℕ) (c : ℕ)
    → solved written part callees (c + 1) ≡ solved written part callees c ++ written (part c) (picked (solved written part callees c) (callees c)) ∷ []
solved_more written part callees c = rw (add-one c) refl

pub nothing_there : {X : Type 0} (xs ys : List X) (c : ℕ) → length xs ≤ c → ys ++ option_to_list (slice_get xs c) ≡ ys
nothing_there xs ys c past = rw (slice_get_past xs c past) (append-nil ys)
