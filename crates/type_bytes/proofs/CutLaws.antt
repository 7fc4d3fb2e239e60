-- What it says of a shape that bytes are cut behind it: the function finds each shape, and nothing else.
use Rattle.std.proofs.Common.{◌≡◌, inl, inr, ℕ, zero, suc, ◌-◌, ◌<◌, Bool, true, false, cond, ◌&&◌, List, [], ◌∷◌, ◌++◌, length, take, drop, refl, sym, ap, ◌∙◌, arith, append_assoc, true≢false}
use Rattle.std.specs.Prelude.{nat_lt, nat_le, Ok, Err, replicate}
use Rattle.std.proofs.lemmas.List.{take-append-drop, length-append, length-drop, length-replicate}
use Rattle.std.proofs.Math.Seq.{drop-append_seam}
use Rattle.std.proofs.lemmas.Bool.{cases_Bool, and_from}
use Rattle.type_kinds.proofs.Truths.{first as first_true, second as second_true}
use borrow.Author.Tests.{ltb-true, ltb-false, le-ltb, leb-true, le-leb}
use Rattle.type_bytes.specs.declared.faults.ShapeFault.{ShapeFault}
use Rattle.type_bytes.specs.declared.faults.ShapeFault.TheVariants.{Short, Broken}
use Rattle.type_bytes.specs.Shapes.{Nothing, Bytes, Both, Many, Begins, Counted, Where}
use Rattle.type_bytes.specs.steps.Cuts.{Cut, ◌>>=◌, skip, many, first, counted, where_set}

pub record Tells (P : List ℕ → Type 0) (f : List ℕ → Cut) : Type 0 where
  -- a shape is found, whatever follows
  pub reads : (x rest : List ℕ) → P x → f (x ++ rest) ≡ Ok rest
  -- what is found is a shape
  pub ends : (bytes rest : List ℕ) → f bytes ≡ Ok rest → (x : List ℕ) × ((bytes ≡ x ++ rest) × P x)
  -- what is short goes on to a shape
  pub short : (bytes : List ℕ) → f bytes ≡ Err Short → (more : List ℕ) × ((more ≡ [] → ⊥) × P (bytes ++ more))
  -- what is broken stays so
  pub broken : (bytes more : List ℕ) → f bytes ≡ Err Broken → f (bytes ++ more) ≡ Err Broken

-- where a shape is found, more bytes change nothing
pub further : {P : List ℕ → Type 0} {f : List ℕ → Cut} → Tells P f → (bytes rest more : List ℕ) → f bytes ≡ Ok rest → f (bytes ++ more) ≡ Ok (rest ++ more)
further {f = f} t bytes rest more e =
    let x = t.ends bytes rest e in
    ap f (ap (λ b. b ++ more) x.1.0 ∙ append_assoc x.0 rest more) ∙ t.reads x.0 (rest ++ more) x.1.1

pub ok_not_err : (rest : List ℕ) (e : ShapeFault) → ◌≡◌ {A = Cut} (Ok rest) (Err e) → ⊥
ok_not_err rest e p = cc

pub same_left : (rest left : List ℕ) → ◌≡◌ {A = Cut} (Ok rest) (Ok left) → rest ≡ left
same_left rest left p = cc

pub broken_not_short : ◌≡◌ {A = Cut} (Err Broken) (Err Short) → ⊥
broken_not_short p = cc

-- ---- shapes in general

pub nothing_tells : Tells Nothing (λ bytes. Ok bytes)
nothing_tells = record {
  reads = λ x rest e. ap (λ y. Ok (y ++ rest)) e;
  ends = λ bytes rest e. ([], (same_left bytes rest e, refl));
  short = λ bytes e. absurd (ok_not_err bytes Short e);
  broken = λ bytes more e. absurd (ok_not_err bytes Broken e);
}

-- no byte begins it
pub never_tells : {P : List ℕ → Type 0} → ((x : List ℕ) → P x → ⊥) → Tells P (λ bytes. Err Broken)
never_tells none = record {
  reads = λ x rest k. absurd (none x k);
  ends = λ bytes rest e. absurd (ok_not_err rest Broken (sym e));
  short = λ bytes e. absurd (broken_not_short e);
  broken = λ bytes more e. refl;
}

-- the same shapes, said in another way
pub same_tells : {P Q : List ℕ → Type 0} {f : List ℕ → Cut} → ((x : List ℕ) → P x → Q x) → ((x : List ℕ) → Q x → P x) → Tells P f → Tells Q f
same_tells to from t = record {
  reads = λ x rest k. t.reads x rest (from x k);
  ends = λ bytes rest e. let x = t.ends bytes rest e in (x.0, (x.1.0, to x.0 x.1.1));
  short = λ bytes e. let m = t.short bytes e in (m.0, (m.1.0, to (bytes ++ m.0) m.1.1));
  broken = t.broken;
}

unfoldable pub zeros : ℕ → List ℕ
zeros n = replicate n 0

pub length-zeros : (n : ℕ) → length (zeros n) ≡ n
unfolding zeros
length-zeros n = length-replicate n 0

pub zeros_some : (n : ℕ) → 0 < n → zeros n ≡ [] → ⊥
zeros_some n h e = let l : length (zeros n) ≡ 0 = ap length e in let k = length-zeros n in absurd (omega arith)

pub skip_tells : (n : ℕ) → Tells (Bytes n) (skip n)
unfolding skip
skip_tells n = record {
  reads = λ x rest e.
      let long : nat_lt (length (x ++ rest)) n ≡ false = le-ltb (length (x ++ rest)) n (omega (arith, length-append x rest)) in
      ap (λ b. cond b (Err Short) (Ok (drop n (x ++ rest)))) long ∙ ap Ok (ap (λ k. drop k (x ++ rest)) (sym e) ∙ drop-append_seam x rest);
  ends = λ bytes rest e. elim (cases_Bool (nat_lt (length bytes) n)) [
    | inl h ↦ absurd (ok_not_err rest Short (sym e ∙ ap (λ b. cond b (Err Short) (Ok (drop n bytes))) h))
    | inr h ↦
        let left = same_left (drop n bytes) rest (sym (ap (λ b. cond b (Err Short) (Ok (drop n bytes))) h) ∙ e) in
        let long = ltb-false (length bytes) n h in
        (take n bytes, (sym (take-append-drop n bytes) ∙ ap (λ r. take n bytes ++ r) left, omega (arith, ap length (take-append-drop n bytes), length-append (take n bytes) (drop n bytes), length-drop n bytes)))
  ];
  short = λ bytes e. elim (cases_Bool (nat_lt (length bytes) n)) [
    | inl h ↦
        let few = ltb-true (length bytes) n h in
        let k = length-zeros (n - length bytes) in
        (zeros (n - length bytes), (zeros_some (n - length bytes) (omega arith), omega (arith, length-append bytes (zeros (n - length bytes)))))
    | inr h ↦ absurd (ok_not_err (drop n bytes) Short (sym (ap (λ b. cond b (Err Short) (Ok (drop n bytes))) h) ∙ e))
  ];
  broken = λ bytes more e. elim (cases_Bool (nat_lt (length bytes) n)) [
    | inl h ↦ absurd (broken_not_short (sym (sym (ap (λ b. cond b (Err Short) (Ok (drop n bytes))) h) ∙ e)))
    | inr h ↦ absurd (ok_not_err (drop n bytes) Broken (sym (ap (λ b. cond b (Err Short) (Ok (drop n bytes))) h) ∙ e))
  ];
}

-- ---- one behind the other

module _ {P Q : List ℕ → Type 0} {f g : List ℕ → Cut} (t : Tells P f) (u : Tells Q g) (some : List ℕ) (is_some : Q some) where
  both_ends : (bytes rest : List ℕ) (c : Cut) → f bytes ≡ c → (c >>= g) ≡ Ok rest → (x : List ℕ) × ((bytes ≡ x ++ rest) × Both P Q x)
  both_ends bytes rest (Ok r) e h =
      let x = t.ends bytes r e in
      let y = u.ends r rest h in
      (x.0 ++ y.0, (x.1.0 ∙ ap (λ b. x.0 ++ b) y.1.0 ∙ sym (append_assoc x.0 y.0 rest), (x.0, (y.0, (refl, (x.1.1, y.1.1))))))
  both_ends bytes rest (Err k) e h = absurd (ok_not_err rest k (sym h))

  both_short : (bytes : List ℕ) (c : Cut) → f bytes ≡ c → (c >>= g) ≡ Err Short → (more : List ℕ) × ((more ≡ [] → ⊥) × Both P Q (bytes ++ more))
  both_short bytes (Ok r) e h =
      let x = t.ends bytes r e in
      let m = u.short r h in
      (m.0, (m.1.0, (x.0, (r ++ m.0, (ap (λ b. b ++ m.0) x.1.0 ∙ append_assoc x.0 r m.0, (x.1.1, m.1.1))))))
  both_short bytes (Err k) e h =
      let m = t.short bytes (e ∙ h) in
      (m.0 ++ some, ((λ none. m.1.0 (front_none m.0 some none)), (bytes ++ m.0, (some, (sym (append_assoc bytes m.0 some), (m.1.1, is_some))))))
    where
      front_none : (a b : List ℕ) → a ++ b ≡ [] → a ≡ []
      front_none [] b e = refl
      front_none (x ∷ a) b e = cc

  both_broken : (bytes more : List ℕ) (c : Cut) → f bytes ≡ c → (c >>= g) ≡ Err Broken → (f (bytes ++ more) >>= g) ≡ Err Broken
  both_broken bytes more (Ok r) e h = ap (λ c. c >>= g) (further t bytes r more e) ∙ u.broken r more h
  both_broken bytes more (Err k) e h = ap (λ c. c >>= g) (t.broken bytes more (e ∙ h))

  pub both_tells : Tells (Both P Q) (λ bytes. f bytes >>= g)
  both_tells = record {
    reads = λ x rest k. ap (λ b. f b >>= g) (ap (λ b. b ++ rest) k.1.1.0 ∙ append_assoc k.0 k.1.0 rest) ∙ ap (λ c. c >>= g) (t.reads k.0 (k.1.0 ++ rest) k.1.1.1.0) ∙ u.reads k.1.0 rest k.1.1.1.1;
    ends = λ bytes rest e. both_ends bytes rest (f bytes) refl e;
    short = λ bytes e. both_short bytes (f bytes) refl e;
    broken = λ bytes more e. both_broken bytes more (f bytes) refl e;
  }

-- n items, of a kind of which there are some
pub many_some : (P : List ℕ → Type 0) (some : List ℕ) → P some → (n : ℕ) → (x : List ℕ) × Many n P x
many_some P some k zero = ([], refl)
many_some P some k (suc n) = let later = many_some P some k n in (some ++ later.0, (some, (later.0, (refl, (k, later.1)))))

pub many_tells : {P : List ℕ → Type 0} {f : List ℕ → Cut} → Tells P f → (some : List ℕ) → P some → (n : ℕ) → Tells (Many n P) (many n f)
many_tells t some k zero = nothing_tells
many_tells {P = P} t some k (suc n) = let m = many_some P some k n in both_tells t (many_tells t some k n) m.0 m.1

pub where_tells : {P : List ℕ → Type 0} {f : List ℕ → Cut} → Tells P f → (b : Bool) → Tells (Where b P) (where_set b f)
where_tells t true = t
where_tells t false = nothing_tells

pub where_some : (P : List ℕ → Type 0) (some : List ℕ) → P some → (b : Bool) → (x : List ℕ) × Where b P x
where_some P some k true = (some, k)
where_some P some k false = ([], refl)

-- ---- one byte first

module _ {Q : ℕ → List ℕ → Type 0} {g : ℕ → List ℕ → Cut} (t : (b : ℕ) → Tells (Q b) (g b)) (byte : ℕ) (some : List ℕ) (is_some : Q byte some) where
  first_reads : (x rest : List ℕ) → Begins Q x → first g (x ++ rest) ≡ Ok rest
  first_reads [] rest k = absurd k
  first_reads (b ∷ x) rest k = (t b).reads x rest k

  first_ends : (bytes rest : List ℕ) → first g bytes ≡ Ok rest → (x : List ℕ) × ((bytes ≡ x ++ rest) × Begins Q x)
  first_ends [] rest e = absurd (ok_not_err rest Short (sym e))
  first_ends (b ∷ bytes) rest e = let x = (t b).ends bytes rest e in (b ∷ x.0, (ap (λ y. b ∷ y) x.1.0, x.1.1))

  first_short : (bytes : List ℕ) → first g bytes ≡ Err Short → (more : List ℕ) × ((more ≡ [] → ⊥) × Begins Q (bytes ++ more))
  first_short [] e = (byte ∷ some, ((λ none. cc), is_some))
  first_short (b ∷ bytes) e = (t b).short bytes e

  first_broken : (bytes more : List ℕ) → first g bytes ≡ Err Broken → first g (bytes ++ more) ≡ Err Broken
  first_broken [] more e = absurd (broken_not_short (sym e))
  first_broken (b ∷ bytes) more e = (t b).broken bytes more e

  pub first_tells : Tells (Begins Q) (first g)
  first_tells = record { reads = first_reads; ends = first_ends; short = first_short; broken = first_broken }

-- ---- one of two, by a test

pub test_tells : {P : List ℕ → Type 0} {f g : List ℕ → Cut} (b : Bool) → (b ≡ true → Tells P f) → (b ≡ false → Tells P g) → Tells P (λ rest. cond b (f rest) (g rest))
test_tells true t u = t refl
test_tells false t u = u refl

pub counted_tells : {P : List ℕ → Type 0} {f : List ℕ → Cut} → Tells P f → (some : List ℕ) → P some → (most b : ℕ) → Tells (Counted most P b) (counted most f b)
counted_tells {P = P} t some k most b = test_tells (nat_le 1 b && nat_le b most)
    (λ h.
    let least = leb-true 1 b (first_true (nat_le 1 b) (nat_le b most) h) in
    let few = leb-true b most (second_true (nat_le 1 b) (nat_le b most) h) in
    same_tells (λ x m. (least, (few, m))) (λ x m. m.1.1) (many_tells t some k b))
    (λ h. never_tells (λ x m. true≢false (sym (and_from (nat_le 1 b) (nat_le b most) (le-leb 1 b m.0) (le-leb b most m.1.0)) ∙ h)))
