-- How many callees aren't done.
use Rattle.std.proofs.Common.{◌≡◌, ◌≢◌, inl, inr, ℕ, ◌+◌, ◌<◌, ◌≤◌, zero, suc, true, false, cond, List, [], ◌∷◌, ◌++◌, length, slice_get, slice_set, replicate, refl, ap, arith, nat_eq, drop}
use Rattle.std.proofs.lemmas.Bool.Decides.{nat_tests}
use Rattle.std.proofs.lemmas.Option.{slice_get_within, none-some}
use Rattle.std.proofs.lemmas.List.Elements.{All-head, All-tail, All-cons, All-nil}
use Rattle.std.specs.declared.option.Option.{Option}
use Rattle.std.specs.declared.option.Option.TheVariants.{Some, None}
use Rattle.summary_board.specs.Machine.{Standing, waiting, out, done, AreDone}
use Rattle.summary_board.specs.steps.Agenda.{open_one, open_in, unfinished_in, times}
use Rattle.summary_board.proofs.Sets.{get_set_same, get_set_other, same_or_not}

pub other_test : (c d : ℕ) → d ≢ c → nat_eq c d ≡ false
other_test c d other = grind (arith, nat_tests)

pub same_test : (c d : ℕ) → d ≡ c → nat_eq c d ≡ true
same_test c d same = grind (arith, nat_tests)

-- ---- a component is done
one_lower : (standings : List Standing) (c d : ℕ) (seat : ℕ) → slice_get standings c ≡ Some (out seat)
    → open_one (slice_get (slice_set standings c done) d) + cond (nat_eq c d) 1 0 ≡ open_one (slice_get standings d)
one_lower standings c d seat is =
    elim (same_or_not d c) [
      | inl same ↦
          let test : nat_eq c d ≡ true = same_test c d same in
          rw (test, same, get_set_same standings c done (slice_get_within standings c (out seat) is), is) refl
      | inr other ↦
          let test : nat_eq c d ≡ false = other_test c d other in
          rw (test, get_set_other standings c d done other) (omega arith)
    ]

-- a count falls by how often the component is called
pub lowers : (standings : List Standing) (c seat : ℕ) → slice_get standings c ≡ Some (out seat) → (cs : List ℕ) → open_in (slice_set standings c done) cs + times c cs ≡ open_in standings cs
lowers standings c seat is [] = refl
lowers standings c seat is (d ∷ cs) = omega (arith, one_lower standings c d seat is, lowers standings c seat is cs)

-- so the component is called no more often than that
pub times_open : (standings : List Standing) (c seat : ℕ) → slice_get standings c ≡ Some (out seat) → (cs : List ℕ) → times c cs ≤ open_in standings cs
times_open standings c seat is cs = omega (arith, lowers standings c seat is cs)

-- ---- a component is taken
one_stays : (standings : List Standing) (c d seat : ℕ) → slice_get standings c ≡ Some waiting → open_one (slice_get (slice_set standings c (out seat)) d) ≡ open_one (slice_get standings d)
one_stays standings c d seat is =
    elim (same_or_not d c) [
      | inl same ↦ rw (same, get_set_same standings c (out seat) (slice_get_within standings c waiting is), is) refl
      | inr other ↦ rw (get_set_other standings c d (out seat) other) refl
    ]

pub open_stays : (standings : List Standing) (c seat : ℕ) → slice_get standings c ≡ Some waiting → (cs : List ℕ) → open_in (slice_set standings c (out seat)) cs ≡ open_in standings cs
open_stays standings c seat is [] = refl
open_stays standings c seat is (d ∷ cs) = omega (arith, one_stays standings c d seat is, open_stays standings c seat is cs)

-- ---- a count of 0 says that all are done
pub none_open : (m : Option Standing) → open_one m ≡ 0 → m ≡ Some done
none_open None is = absurd (omega (arith, is))
none_open (Some waiting) is = absurd (omega (arith, is))
none_open (Some (out seat)) is = absurd (omega (arith, is))
none_open (Some done) is = refl

pub none_open_done : (standings : List Standing) (cs : List ℕ) → open_in standings cs ≡ 0 → AreDone standings cs
none_open_done standings [] is = All-nil (λ k. slice_get standings k ≡ Some done)
none_open_done standings (c ∷ cs) is =
    All-cons (λ k. slice_get standings k ≡ Some done) c cs (none_open (slice_get standings c) (omega (arith, is))) (none_open_done standings cs (omega (arith, is)))

pub done_none_open : (standings : List Standing) (cs : List ℕ) → AreDone standings cs → open_in standings cs ≡ 0
done_none_open standings [] all = refl
done_none_open standings (c ∷ cs) all =
    let D : ℕ → Type 0 = λ k. slice_get standings k ≡ Some done in
    let here : open_one (slice_get standings c) ≡ 0 = ap open_one (All-head D c cs all) in
    omega (arith, here, done_none_open standings cs (All-tail D c cs all))

-- ---- how many of all components aren't done
pub unfinished_set : (standings : List Standing) (c : ℕ) (old new : Standing) → slice_get standings c ≡ Some old
    → unfinished_in (slice_set standings c new) + open_one (Some old) ≡ unfinished_in standings + open_one (Some new)
unfinished_set [] c old new is = absurd (none-some old is)
unfinished_set (m ∷ ms) zero old new is = let same : open_one (Some m) ≡ open_one (Some old) = ap open_one is in omega (arith, same)
unfinished_set (m ∷ ms) (suc c) old new is = omega (arith, unfinished_set ms c old new is)

pub all_waiting_open : (n : ℕ) → unfinished_in (replicate n waiting) ≡ n
all_waiting_open zero = refl
all_waiting_open (suc n) = omega (arith, all_waiting_open n)

-- ---- at first each component waits
one_waiting : (n d : ℕ) → open_one (slice_get (replicate n waiting) d) ≡ 1
one_waiting zero d = refl
one_waiting (suc n) zero = refl
one_waiting (suc n) (suc d) = one_waiting n d

pub open_at_first : (n : ℕ) (cs : List ℕ) → open_in (replicate n waiting) cs ≡ length cs
open_at_first n [] = refl
open_at_first n (c ∷ cs) = omega (arith, one_waiting n c, open_at_first n cs)

pub waiting_below : (n c : ℕ) → c < n → slice_get (replicate n waiting) c ≡ Some waiting
waiting_below zero c less = absurd (omega (arith, less))
waiting_below (suc n) zero less = refl
waiting_below (suc n) (suc c) less = waiting_below n c (omega (arith, less))

-- ---- how often

pub times_drop : (c i : ℕ) (cs : List ℕ) → times c (drop i cs) ≤ times c cs
times_drop c zero cs = omega arith
times_drop c (suc i) [] = omega arith
times_drop c (suc i) (d ∷ cs) = omega (arith, times_drop c i cs)

pub times_append : (c : ℕ) (cs : List ℕ) (d : ℕ) → times c (cs ++ d ∷ []) ≡ times c cs + cond (nat_eq c d) 1 0
times_append c [] d = omega arith
times_append c (e ∷ cs) d = omega (arith, times_append c cs d)
