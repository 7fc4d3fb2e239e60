-- What parts of the printer add, put together.
use Rattle.std.proofs.Common.{◌≡◌, ℕ, ◌+◌, ◌<◌, ◌≤◌, List, [], ◌∷◌, ◌++◌, Bool, false, length, drop, get_or, refl, sym, ap, ◌∙◌, append_assoc}
use Rattle.std.proofs.lemmas.List.{drop_all}
use Rattle.type_kinds.proofs.Lists.{drop_next}
use Rattle.core_print.specs.Words.{Word, spelled, spaced}
use Rattle.core_print.specs.Canonical.{Words, comma}
use Rattle.core_print.specs.steps.Writes.{Writes}

-- nothing, and one part behind another
pub nothing : (a : List ℕ) → Writes (λ rest. rest) a a
nothing a = record { text = λ rest. refl }

pub both : {f g : Words} {a b c : List ℕ} → Writes f a b → Writes g b c → Writes (λ rest. f (g rest)) a c
both {f} {g} first second = record { text = λ rest. second.text rest ∙ first.text (g rest) }

-- bytes that spell words
pub fixed : (f : Words) (a b bytes : List ℕ) → b ≡ a ++ bytes → ((rest : List Word) → bytes ++ spaced rest ≡ spaced (f rest)) → Writes f a b
fixed f a b bytes e spells = record { text = λ rest. ap (λ z. z ++ spaced rest) e ∙ append_assoc a bytes (spaced rest) ∙ ap (λ z. a ++ z) (spells rest) }

-- a space, and what a word is spelled by
pub one_word : (w : Word) (a b c : List ℕ) → b ≡ a ++ 32 ∷ [] → c ≡ b ++ spelled w → Writes (λ rest. w ∷ rest) a c
one_word w a b c e g = record {
  text = λ rest.
      ap (λ z. z ++ spaced rest) (g ∙ ap (λ z. z ++ spelled w) e ∙ append_assoc a (32 ∷ []) (spelled w)) ∙ append_assoc a (32 ∷ spelled w) (spaced rest);
}

-- the same words, written otherwise
pub written : (f g : Words) (a b : List ℕ) → ((rest : List Word) → f rest ≡ g rest) → Writes f a b → Writes g a b
written f g a b same w = record { text = λ rest. w.text rest ∙ ap (λ z. a ++ spaced z) (same rest) }

-- ---- loops

-- What is left, behind what was written, is the whole behind what was there.
pub record Still (left all : Words) (old new : List ℕ) : Type 0 where
  pub text : (rest : List Word) → new ++ spaced (left rest) ≡ old ++ spaced (all rest)

pub begins : (f : Words) (a : List ℕ) → Still f f a a
begins f a = record { text = λ rest. refl }

pub goes_on : (left then all f : Words) (a b c : List ℕ) → ((rest : List Word) → left rest ≡ f (then rest)) → Still left all a b → Writes f b c → Still then all a c
goes_on left then all f a b c opens so w = record { text = λ rest. w.text (then rest) ∙ ap (λ z. b ++ spaced z) (sym (opens rest)) ∙ so.text rest }

pub done : (left all : Words) (a b : List ℕ) → ((rest : List Word) → left rest ≡ rest) → Still left all a b → Writes all a b
done left all a b over so = record { text = λ rest. ap (λ z. b ++ spaced z) (sym (over rest)) ∙ so.text rest }

-- one more item of a list with commas
pub next_item :
    {X : Type 0} (L : Bool → List X → Words) (item : X → Words) (all : Words) (xs : List X) (i : ℕ) (x : X) (first : Bool) (a b c d : List ℕ)
    → ((first : Bool) (x : X) (xs : List X) (rest : List Word) → L first (x ∷ xs) rest ≡ comma first (item x (L false xs rest)))
    → i < length xs → x ≡ get_or xs i x → Still (L first (drop i xs)) all a b → Writes (comma first) b c → Writes (item x) c d → Still (L false (drop (i + 1) xs)) all a d
next_item L item all xs i x first a b c d opens within is so w v =
    goes_on (L first (drop i xs)) (L false (drop (i + 1) xs)) all (λ rest. comma first (item x rest)) a b d
    (λ rest. ap (λ ys. L first ys rest) (drop_next xs i x within is) ∙ opens first x (drop (i + 1) xs) rest)
    so (both w v)

pub all_items :
    {X : Type 0} (L : Bool → List X → Words) (all : Words) (xs : List X) (i : ℕ) (first : Bool) (a b : List ℕ)
    → ((first : Bool) (rest : List Word) → L first [] rest ≡ rest) → length xs ≤ i → Still (L first (drop i xs)) all a b → Writes all a b
all_items L all xs i first a b over past so = done (L first (drop i xs)) all a b (λ rest. ap (λ ys. L first ys rest) (drop_all i xs past) ∙ over first rest) so

-- one more item of a list without commas
pub next_row :
    {X : Type 0} (L : List X → Words) (item : X → Words) (all : Words) (xs : List X) (i : ℕ) (x : X) (a b c : List ℕ)
    → ((x : X) (xs : List X) (rest : List Word) → L (x ∷ xs) rest ≡ item x (L xs rest))
    → i < length xs → x ≡ get_or xs i x → Still (L (drop i xs)) all a b → Writes (item x) b c → Still (L (drop (i + 1) xs)) all a c
next_row L item all xs i x a b c opens within is so w =
    goes_on (L (drop i xs)) (L (drop (i + 1) xs)) all (item x) a b c
    (λ rest. ap (λ ys. L ys rest) (drop_next xs i x within is) ∙ opens x (drop (i + 1) xs) rest)
    so w

pub all_rows :
    {X : Type 0} (L : List X → Words) (all : Words) (xs : List X) (i : ℕ) (a b : List ℕ)
    → ((rest : List Word) → L [] rest ≡ rest) → length xs ≤ i → Still (L (drop i xs)) all a b → Writes all a b
all_rows L all xs i a b over past so = done (L (drop i xs)) all a b (λ rest. ap (λ ys. L ys rest) (drop_all i xs past) ∙ over rest) so
