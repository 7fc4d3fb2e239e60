-- Files are read to one list of sources, or one of them is refused, by one fault, and never both.
use Rattle.std.proofs.Common.{◌≡◌, ◌⊎◌, inl, inr, ℕ, zero, suc, ◌+◌, ◌<◌, List, [], ◌∷◌, length, take, refl, sym, ap, ◌∙◌, subst, Some, None, arith}
use Rattle.std.specs.Prelude.{slice_get, Option}
use Rattle.std.specs.FinMap.{get}
use Rattle.std.proofs.lemmas.Option.{slice_get_within}
use Rattle.core_ast.specs.Model as m
use Rattle.table_keep.specs.Model.{Source}
use Rattle.da_shelf.specs.Told.{Files, Holds}
use Rattle.analysis_sources.specs.declared.refusals.SourceFault.{SourceFault}
use Rattle.analysis_sources.specs.Reading.{AreRead, IsReached, RefusedAt, not_held, at_fault}
use Rattle.analysis_sources.specs.Sources.{room, IsSource, IsTextOf, IsAtFault}

-- two answers of a map
held_so : (held : Files) (f bytes more : List ℕ) → get held f ≡ Some bytes → get held f ≡ Some more → bytes ≡ more
held_so held f bytes more e g = let k = sym e ∙ g in cc

held_not : (held : Files) (f bytes : List ℕ) → get held f ≡ Some bytes → get held f ≡ None → ⊥
held_not held f bytes e g = let k = sym e ∙ g in absurd cc

-- where all are read, each is reached, held, and the text of a source
pub record ReadThere (told : Option Files) (start : ℕ) (fs : List (List ℕ)) (at : ℕ) : Type 0 where
  pub file : List ℕ
  pub there : slice_get fs at ≡ Some file
  pub fronts : List Source
  pub before : ℕ
  pub front : AreRead told start (take at fs) fronts before
  pub bytes : List ℕ
  pub held_so : Holds told file bytes
  pub found : Source
  pub text : IsTextOf (room before) bytes found

pub read_there : (told : Option Files) (start : ℕ) (fs : List (List ℕ)) (xs : List Source) (after at : ℕ) → AreRead told start fs xs after
    → at < length fs → ReadThere told start fs at
read_there told start [] xs after at e h = absurd (omega arith)
read_there told start (f ∷ fs) [] after at e h = absurd e
read_there told start (f ∷ fs) (x ∷ xs) after zero e h =
    record { file = f; there = refl; fronts = []; before = start; front = refl; bytes = e.0; held_so = e.1; found = x; text = e.2 }
read_there told start (f ∷ fs) (x ∷ xs) after (suc at) e h =
    let r = read_there told (start + length e.0) fs xs after at e.3 (omega arith) in
    record {
      file = r.file;
      there = r.there;
      fronts = x ∷ r.fronts;
      before = r.before;
      front = (e.0, e.1, e.2, r.front);
      bytes = r.bytes;
      held_so = r.held_so;
      found = r.found;
      text = r.text;
    }

module _ (one_module : (most : ℕ) (bytes : List ℕ) (x y : m.Module) → IsSource most bytes x → IsSource most bytes y → x ≡ y)
    (one_fault : (most : ℕ) (bytes : List ℕ) (f g : SourceFault) → IsAtFault most bytes f → IsAtFault most bytes g → f ≡ g)
    (never_both : (most : ℕ) (bytes : List ℕ) (x : m.Module) (fault : SourceFault) → IsSource most bytes x → IsAtFault most bytes fault → ⊥)
    (held : Files) where
  one_source : (most : ℕ) (bytes : List ℕ) (s t : Source) → IsTextOf most bytes s → IsTextOf most bytes t → s ≡ t
  one_source most bytes s t h k =
      let tree = one_module most bytes s.tree t.tree h.source k.source in
      let digest = h.digest ∙ sym k.digest in
      λ i. record { tree = tree i; digest = digest i }

  pub one_list : (start : ℕ) (fs : List (List ℕ)) (xs ys : List Source) (a b : ℕ) → AreRead (Some held) start fs xs a
      → AreRead (Some held) start fs ys b → (xs ≡ ys) × (a ≡ b)
  one_list start [] [] [] a b e f = (refl, e ∙ sym f)
  one_list start [] [] (y ∷ ys) a b e f = absurd f
  one_list start [] (x ∷ xs) ys a b e f = absurd e
  one_list start (f ∷ fs) [] ys a b p q = absurd p
  one_list start (f ∷ fs) (x ∷ xs) [] a b p q = absurd q
  one_list start (f ∷ fs) (x ∷ xs) (y ∷ ys) a b p q =
      let same : q.0 ≡ p.0 = held_so held f q.0 p.0 q.1 p.1 in
      let text : IsTextOf (room start) p.0 y = subst (λ z. IsTextOf (room start) z y) same q.2 in
      let rest : AreRead (Some held) (start + length p.0) fs ys b = subst (λ z. AreRead (Some held) (start + length z) fs ys b) same q.3 in
      let r = one_list (start + length p.0) fs xs ys a b p.3 rest in
      (ap (λ z. z ∷ xs) (one_source (room start) p.0 x y p.2 text) ∙ ap (λ zs. y ∷ zs) r.0, r.1)

  same_file : (o : Option (List ℕ)) (f g : List ℕ) → o ≡ Some f → o ≡ Some g → f ≡ g
  same_file o f g e h = let k = sym e ∙ h in cc

  -- a file that is read isn't refused
  pub read_or_refused : (fs : List (List ℕ)) (at : ℕ) (fault : SourceFault) → ReadThere (Some held) 0 fs at → RefusedAt (Some held) fs at fault → ⊥
  read_or_refused fs at fault r (not_held e h) =
      let f = same_file _ _ _ h.reached.there r.there in
      held_not held r.file r.bytes r.held_so (subst (λ z. get held z ≡ None) f h.absent)
  read_or_refused fs at fault r (at_fault h) =
      let f = same_file _ _ _ h.reached.there r.there in
      let bytes : h.bytes ≡ r.bytes = held_so held r.file h.bytes r.bytes (subst (λ z. get held z ≡ Some h.bytes) f h.held_so) r.held_so in
      let before = (one_list 0 (take at fs) h.reached.sources r.fronts h.before r.before h.reached.read r.front).1 in
      never_both (room r.before) r.bytes r.found.tree fault r.text.source (subst (λ z. IsAtFault (room z) r.bytes fault) before (subst (λ z. IsAtFault (room h.before) z fault) bytes h.is))

  -- one file has one fault
  pub one_refusal_at : (fs : List (List ℕ)) (at : ℕ) (f g : SourceFault) → RefusedAt (Some held) fs at f → RefusedAt (Some held) fs at g → f ≡ g
  one_refusal_at fs at f g (not_held e h) (not_held i k) = e ∙ sym i
  one_refusal_at fs at f g (not_held e h) (at_fault k) =
      absurd (held_not held k.file k.bytes k.held_so (subst (λ z. get held z ≡ None) (same_file _ _ _ h.reached.there k.reached.there) h.absent))
  one_refusal_at fs at f g (at_fault h) (not_held i k) =
      absurd (held_not held h.file h.bytes h.held_so (subst (λ z. get held z ≡ None) (same_file _ _ _ k.reached.there h.reached.there) k.absent))
  one_refusal_at fs at f g (at_fault h) (at_fault k) =
      let file = same_file _ _ _ h.reached.there k.reached.there in
      let bytes : h.bytes ≡ k.bytes = held_so held k.file h.bytes k.bytes (subst (λ z. get held z ≡ Some h.bytes) file h.held_so) k.held_so in
      let before = (one_list 0 (take at fs) h.reached.sources k.reached.sources h.before k.before h.reached.read k.reached.read).1 in
      one_fault (room k.before) k.bytes f g (subst (λ z. IsAtFault (room z) k.bytes f) before (subst (λ z. IsAtFault (room h.before) z f) bytes h.is)) k.is

  -- ---- the first of two positions

  take_take : {A : Type 0} (xs : List A) (i j : ℕ) → i < j → take i (take j xs) ≡ take i xs
  take_take xs i zero h = absurd (omega arith)
  take_take xs zero (suc j) h = refl
  take_take [] (suc i) (suc j) h = refl
  take_take (x ∷ xs) (suc i) (suc j) h = ap (λ ys. x ∷ ys) (take_take xs i j (omega arith))

  take_get : {A : Type 0} (xs : List A) (i j : ℕ) → i < j → slice_get (take j xs) i ≡ slice_get xs i
  take_get xs i zero h = absurd (omega arith)
  take_get [] i (suc j) h = refl
  take_get (x ∷ xs) zero (suc j) h = refl
  take_get (x ∷ xs) (suc i) (suc j) h = take_get xs i j (omega arith)

  -- a file before one that is reached is read
  read_before : (fs : List (List ℕ)) (i j : ℕ) (file : List ℕ) (before : ℕ) → i < j → j < length fs → IsReached (Some held) fs j file before → ReadThere (Some held) 0 fs i
  read_before fs i j file before h k r =
      let t = read_there (Some held) 0 (take j fs) r.sources before i r.read (short fs i j h k) in
      record {
        file = t.file;
        there = sym (take_get fs i j h) ∙ t.there;
        fronts = t.fronts;
        before = t.before;
        front = subst (λ gs. AreRead (Some held) 0 gs t.fronts t.before) (take_take fs i j h) t.front;
        bytes = t.bytes;
        held_so = t.held_so;
        found = t.found;
        text = t.text;
      }
    where
      short : (fs : List (List ℕ)) (i j : ℕ) → i < j → j < length fs → i < length (take j fs)
      short fs i zero h k = absurd (omega arith)
      short [] i (suc j) h k = absurd (omega arith)
      short (f ∷ fs) zero (suc j) h k = omega arith
      short (f ∷ fs) (suc i) (suc j) h k = let r = short fs i j (omega arith) (omega arith) in omega (arith, r)

  reached_of : {fs : List (List ℕ)} {at : ℕ} {fault : SourceFault} → RefusedAt (Some held) fs at fault → (file : List ℕ) × (before : ℕ) × IsReached (Some held) fs at file before
  reached_of (not_held e h) = (h.file, h.before, h.reached)
  reached_of (at_fault h) = (h.file, h.before, h.reached)

  -- no file before one that is reached is refused
  pub none_refused_before : (fs : List (List ℕ)) (i j : ℕ) (f : SourceFault) (file : List ℕ) (before : ℕ) → i < j → RefusedAt (Some held) fs i f
      → IsReached (Some held) fs j file before → ⊥
  none_refused_before fs i j f file before h refused r =
      read_or_refused fs i f (read_before fs i j file before h (slice_get_within fs j file r.there) r) refused

  -- no file is refused where all are read
  pub none_refused : (fs : List (List ℕ)) (xs : List Source) (after i : ℕ) (f : SourceFault) → AreRead (Some held) 0 fs xs after → RefusedAt (Some held) fs i f → ⊥
  none_refused fs xs after i f read refused =
      let r = reached_of refused in
      read_or_refused fs i f (read_there (Some held) 0 fs xs after i read (slice_get_within fs i r.0 r.2.there)) refused

  order : (i j : ℕ) → (i < j) ⊎ ((j < i) ⊎ (i ≡ j))
  order zero zero = inr (inr refl)
  order zero (suc j) = inl (omega arith)
  order (suc i) zero = inr (inl (omega arith))
  order (suc i) (suc j) = by (order i j)
    where
      by : (i < j) ⊎ ((j < i) ⊎ (i ≡ j)) → (suc i < suc j) ⊎ ((suc j < suc i) ⊎ (suc i ≡ suc j))
      by (inl a) = inl (omega arith)
      by (inr (inl a)) = inr (inl (omega arith))
      by (inr (inr a)) = inr (inr (ap suc a))

  -- one file is refused, by one fault
  pub one_refusal : (fs : List (List ℕ)) (i j : ℕ) (f g : SourceFault) → RefusedAt (Some held) fs i f → RefusedAt (Some held) fs j g → (i ≡ j) × (f ≡ g)
  one_refusal fs i j f g h k = by (order i j)
    where
      by : (i < j) ⊎ ((j < i) ⊎ (i ≡ j)) → (i ≡ j) × (f ≡ g)
      by (inl a) = let r = reached_of k in absurd (none_refused_before fs i j f r.0 r.1 a h r.2)
      by (inr (inl a)) = let r = reached_of h in absurd (none_refused_before fs j i g r.0 r.1 a k r.2)
      by (inr (inr a)) = (a, one_refusal_at fs j f g (subst (λ n. RefusedAt (Some held) fs n f) a h) k)
