-- What the reader of types rests on: how the text of a type begins, by which `any()`, `none()` and words are told apart, how a
-- text that is read goes on, and the trees that are made.
use Rattle.std.proofs.Common.{◌≡◌, inl, inr, ℕ, zero, suc, Bool, true, false, List, [], ◌∷◌, ◌++◌, map, drop, Option, None}
use Rattle.std.proofs.Common.{MatchOption, IfSome, is_some, Bor, refl, sym, ap, ◌∙◌, subst, arith, append_assoc, true≢false}
use Rattle.std.specs.Prelude.{codes}
use Rattle.std.specs.Option.{IsSomeAnd}
use Rattle.std.proofs.lemmas.List.{map-append}
use Rattle.std.proofs.lemmas.Bool.{cases_Bool}
use Rattle.type_lattice_model.specs.Shapes.{TypeAt}
use Rattle.type_kinds.specs.Quoted.{quoted}
use Rattle.type_kinds_sets.specs.Names as names
use Rattle.type_lattice_model.specs.Operations.{ops, of_atoms}
use Rattle.type_lattice_model.specs.Normal.{IsElement, AreElements, NormalAt}
use Rattle.type_lattice_trees.specs.declared.node.Node.{Node}
use Rattle.type_lattice_trees.specs.declared.node.Node.TheVariants as v
use Rattle.type_lattice_trees.specs.View.{view, row_view, Fits}
use Rattle.type_lattice_trees.proofs.Views.{fits_normal, view_any, each_more}
use Rattle.type_text.specs.Texts.{after, separated, text_at}
use Rattle.type_text.specs.Words.{WordStop, TypeStop}
use Rattle.type_text.specs.Starts.{begins_number, Lacks, NoTypeName}
use Rattle.type_text.specs.WordTypes.{IsWord, AreWords, spelled, joined_with, WordsOf}
use Rattle.type_text.proofs.WordStarts.{Unlike, unlike_word, number-start, some_start}
use Rattle.type_text.proofs.WordLaws.{words_of}
use Rattle.type_lattice_model.proofs.LevelLaws.{level_laws}
use Rattle.type_lattice_model.specs.Full.{is_any}
use Rattle.type_lattice_model.proofs.FullLaws.{any_is_all}

-- ---- how the text of a type begins

-- the first word, the later ones, and what stands behind them
pub words-text : (d : ℕ) (t : TypeAt (suc d)) (s : WordsOf d t) (rest : List ℕ) → text_at (suc d) t ++ rest ≡ s.word ++ (after (codes " | ") (spelled s.later) ++ rest)
words-text d t s rest = ap (λ x. x ++ rest) s.written ∙ append_assoc s.word (after (codes " | ") (spelled s.later)) rest

-- the three ways to write a type, which may be any or none
pub data Way {T : Type 0} (any none t : T) (text : List ℕ) (is_any is_none : Bool) : Type 0 where
  as_any : t ≡ any → text ≡ codes "any()" → Way any none t text is_any is_none
  as_none : t ≡ none → text ≡ codes "none()" → Way any none t text is_any is_none
  as_words : is_any ≡ false → is_none ≡ false → Unlike text → Way any none t text is_any is_none

pub way : (d : ℕ) (t : TypeAt d) → NormalAt d t → Way (ops d).any (ops d).none t (text_at d t) (is_any d t) ((ops d).is_none t)
unfolding ops
way zero true k = as_any refl refl
way zero false k = as_none refl refl
way (suc d) t k = elim (cases_Bool (is_any (suc d) t)) [
  | inl a ↦ as_any (any_is_all (suc d) t a) (grind arith)
  | inr a ↦ elim (cases_Bool ((ops (suc d)).is_none t)) [
    | inl n ↦ as_none ((level_laws (suc d)).none-is_none t n) (grind arith)
    | inr n ↦ let s = words_of d t k a n in as_words a n (subst Unlike (sym s.written) (unlike_word s.word s.first s.is_word (after (codes " | ") (spelled s.later))))
  ]
]

module _ {T : Type 0} {any none t : T} {x : List ℕ} {a n : Bool} (w : Way any none t x a n) where
  pub at_any : (rest more : List ℕ) → x ++ rest ≡ codes "any()" ++ more → (t ≡ any) × (more ≡ rest)
  at_any rest more e = grind arith

  pub at_none : (rest more : List ℕ) → x ++ rest ≡ codes "none()" ++ more → (t ≡ none) × (more ≡ rest)
  at_none rest more e = grind arith

  -- no type begins with what ends a tuple
  pub not_at_end : (now rest : List ℕ) → now ≡ x ++ rest → Lacks now (codes "}")
  not_at_end now rest is more e = grind arith

  pub way_once : {s : T} {y : List ℕ} {b m : Bool} → Way any none s y b m → (r q : List ℕ) → (a ≡ false → n ≡ false → b ≡ false → m ≡ false → (t ≡ s) × (r ≡ q)) → x ++ r ≡ y ++ q → (t ≡ s) × (r ≡ q)
  way_once v r q both e = grind arith

-- ---- what is found

-- a tree for a type, and what stands behind its text
abbrev pub Found : (d : ℕ) → Option (Node × Bor (List ℕ)) → TypeAt d → List ℕ → Type 0
Found d o t rest = MatchOption o ⊥ (λ p. (view d p.0 ≡ t) × (p.1.now ≡ rest))

-- ---- words in a row

module _ (d : ℕ) where
  -- words, each after a separator, and what stands behind them
  abbrev pub words_text : List (List ℕ × TypeAt (suc d)) → List ℕ → List ℕ
  words_text ps r = after (codes " | ") (spelled ps) ++ r

  pub words_stop : (ps : List (List ℕ × TypeAt (suc d))) (r : List ℕ) → TypeStop r → WordStop (words_text ps r)
  words_stop [] r k = grind arith
  words_stop (p ∷ ps) r k = refl

  -- each way to read a text as such words has Q
  abbrev pub EachWords : List ℕ → (List (List ℕ × TypeAt (suc d)) → List ℕ → Type 0) → Type 0
  EachWords now Q = (ps : List (List ℕ × TypeAt (suc d))) (r : List ℕ) → AreWords d ps → TypeStop r → now ≡ words_text ps r → Q ps r

  -- behind a separator there is one word more
  pub next_word : (now next : List ℕ) → now ≡ codes " | " ++ next → (Q : List (List ℕ × TypeAt (suc d)) → List ℕ → Type 0)
      → ((w : List ℕ) (u : TypeAt (suc d)) (ps : List (List ℕ × TypeAt (suc d))) (r : List ℕ) → IsWord d w u → AreWords d ps → TypeStop r → next ≡ w ++ words_text ps r → Q ((w, u) ∷ ps) r) → EachWords now Q
  next_word now next is Q f [] r k stop text = absurd (true≢false (sym (subst TypeStop (sym text ∙ is) stop)))
  next_word now next is Q f (p ∷ ps) r k stop text = f p.0 p.1 ps r k.0 k.1 stop (ap (drop 3) (sym is ∙ text) ∙ append_assoc p.0 (after (codes " | ") (spelled ps)) r)

  pub no_word : (now : List ℕ) → Lacks now (codes " | ") → (Q : List (List ℕ × TypeAt (suc d)) → List ℕ → Type 0) → ((r : List ℕ) → TypeStop r → now ≡ r → Q [] r) → EachWords now Q
  no_word now lacks Q f [] r k stop text = f r stop text
  no_word now lacks Q f (p ∷ ps) r k stop text = absurd (lacks _ text)

  -- what a reader owes that joins a type with those of the words to come
  abbrev pub MoreRead : Node → List ℕ → Option (Node × Bor (List ℕ)) → Type 0
  MoreRead t now o = EachWords now (λ ps r. Found (suc d) o (joined_with (ops (suc d)).join (view (suc d) t) ps) r)

  -- it owes so much where it has read one word
  pub word_further : (t j : Node) (now next left : List ℕ) (o : Option (Node × Bor (List ℕ))) → now ≡ codes " | " ++ next
      → ((w r : List ℕ) (u : TypeAt (suc d)) → IsWord d w u → WordStop r → next ≡ w ++ r → ((ops (suc d)).join (view (suc d) t) u ≡ view (suc d) j) × (left ≡ r)) → MoreRead j left o → MoreRead t now o
  word_further t j now next left o is word f = next_word now next is _ (λ w u ps r k ks stop text.
      let read = word w (words_text ps r) u k (words_stop ps r stop) text in
      subst (λ s. Found (suc d) o (joined_with (ops (suc d)).join s ps) r) (sym read.0) (f ps r ks stop read.1))

-- ---- element types in a row

module _ (d : ℕ) where
  -- element types, each after a comma, up to the closing bracket, and what stands behind it
  abbrev pub row_text : List (TypeAt d) → List ℕ → List ℕ
  row_text es r = after (codes ",") (map (text_at d) es) ++ (codes "}" ++ r)

  pub row_stop : (es : List (TypeAt d)) (r : List ℕ) → TypeStop (row_text es r)
  row_stop [] r = refl
  row_stop (e ∷ es) r = refl

  abbrev pub EachRow : List ℕ → (List (TypeAt d) → List ℕ → Type 0) → Type 0
  EachRow now Q = (es : List (TypeAt d)) (r : List ℕ) → AreElements (NormalAt d) (ops d) es → now ≡ row_text es r → Q es r

  pub next_element : (now next : List ℕ) → now ≡ codes "," ++ next → (Q : List (TypeAt d) → List ℕ → Type 0)
      → ((e : TypeAt d) (es : List (TypeAt d)) (r : List ℕ) → IsElement (NormalAt d) (ops d) e → AreElements (NormalAt d) (ops d) es → next ≡ text_at d e ++ row_text es r → Q (e ∷ es) r) → EachRow now Q
  next_element now next is Q f [] r k text = grind arith
  next_element now next is Q f (e ∷ es) r k text = f e es r k.0 k.1 (ap (drop 1) (sym is ∙ text) ∙ append_assoc (text_at d e) (after (codes ",") (map (text_at d) es)) (codes "}" ++ r))

  pub no_element : (now : List ℕ) → Lacks now (codes ",") → (Q : List (TypeAt d) → List ℕ → Type 0) → ((r : List ℕ) → now ≡ codes "}" ++ r → Q [] r) → EachRow now Q
  no_element now lacks Q f [] r k text = f r text
  no_element now lacks Q f (e ∷ es) r k text = absurd (lacks _ text)

  -- before the first there is no comma
  pub whole_row : (now : List ℕ) → Lacks now (codes "}") → (Q : List (TypeAt d) → List ℕ → Type 0) → EachRow (codes "," ++ now) Q → (es : List (TypeAt d)) (r : List ℕ) → AreElements (NormalAt d) (ops d) es
      → now ≡ separated (codes ",") (map (text_at d) es) ++ (codes "}" ++ r) → Q es r
  whole_row now lacks Q f [] r k text = absurd (lacks r text)
  whole_row now lacks Q f (e ∷ es) r k text = f (e ∷ es) r k (ap (λ t. 44 ∷ t) text)

  pub no_row : (now : List ℕ) (es : List (TypeAt d)) (r more : List ℕ) → AreElements (NormalAt d) (ops d) es → now ≡ separated (codes ",") (map (text_at d) es) ++ (codes "}" ++ r) → now ≡ codes "}" ++ more
      → ([] ≡ es) × (more ≡ r)
  no_row now [] r more k text is = (refl, ap (drop 1) (sym is ∙ text))
  no_row now (e ∷ es) r more k text is = absurd (not_at_end (way d e k.0.0) now (row_text es r) (text ∙ append_assoc (text_at d e) (after (codes ",") (map (text_at d) es)) (codes "}" ++ r)) more is)

  -- what a reader owes that adds the element types to come to others
  abbrev pub RowRead : List Node → List ℕ → Option (List Node × Bor (List ℕ)) → Type 0
  RowRead row now o = EachRow now (λ es r. MatchOption o ⊥ (λ p. (row_view d p.0 ≡ row_view d row ++ es) × (p.1.now ≡ r)))

  pub element_further : (row new : List Node) (n : Node) (now next left : List ℕ) (o : Option (List Node × Bor (List ℕ))) → now ≡ codes "," ++ next → new ≡ row ++ n ∷ []
      → ((e : TypeAt d) (r : List ℕ) → IsElement (NormalAt d) (ops d) e → TypeStop r → next ≡ text_at d e ++ r → (view d n ≡ e) × (left ≡ r)) → RowRead new left o → RowRead row now o
  element_further row new n now next left o is longer element f = next_element now next is _ (λ e es r k ks text.
      let read = element e (row_text es r) k (row_stop es r) text in
      subst (λ xs. MatchOption o ⊥ (λ p. (row_view d p.0 ≡ xs) × (p.1.now ≡ r))) (grind (arith, longer, read.0, map-append, append_assoc)) (f es r ks read.1))

pub elements_more : (d : ℕ) (row new : List Node) (n : Node) → new ≡ row ++ n ∷ [] → AreElements (NormalAt d) (ops d) (row_view d row) → Fits d n → (ops d).is_none (view d n) ≡ false
    → AreElements (NormalAt d) (ops d) (row_view d new)
elements_more d row new n e k h some =
    each_more (IsElement (NormalAt d) (ops d)) (row_view d new) (row_view d row) (view d n) (ap (row_view d) e ∙ map-append (view d) row (n ∷ [])) k (fits_normal d n h, some)

-- ---- a whole type

-- what a reader of types owes: it gives the type that the text begins with, and what stands behind
abbrev pub TypeRead : (d : ℕ) → List ℕ → Option (Node × Bor (List ℕ)) → Type 0
TypeRead d now o = (t : TypeAt d) (rest : List ℕ) → NormalAt d t → (ops d).is_none t ≡ false → TypeStop rest → now ≡ text_at d t ++ rest → Found d o t rest

pub any_read : (d : ℕ) (now more : List ℕ) → now ≡ codes "any()" ++ more → (t : TypeAt d) (rest : List ℕ) → NormalAt d t → now ≡ text_at d t ++ rest → (view d v.Any ≡ t) × (more ≡ rest)
any_read d now more is t rest k text = let s = at_any (way d t k) rest more (sym text ∙ is) in (view_any v.Any refl d ∙ sym s.0, s.1)

pub zero_read : (d : ℕ) → d ≡ 0 → (now : List ℕ) → Lacks now (codes "any()") → (t : TypeAt d) (rest : List ℕ) → NormalAt d t → (ops d).is_none t ≡ false → now ≡ text_at d t ++ rest → ⊥
unfolding ops
zero_read zero e now any t rest k some text = grind arith
zero_read (suc d) e now any t rest k some text = omega (arith, e)

-- the first word of a type, and the others
type_words : (e : ℕ) (now : List ℕ) → Lacks now (codes "any()") → (t : TypeAt (suc e)) (rest : List ℕ) → NormalAt (suc e) t → (ops (suc e)).is_none t ≡ false → now ≡ text_at (suc e) t ++ rest
    → (s : WordsOf e t) × (now ≡ s.word ++ words_text e s.later rest)
type_words e now any t rest k some text = elim (way (suc e) t k) [
  | as_any a is ↦ absurd (any rest (text ∙ ap (λ x. x ++ rest) is))
  | as_none n is ↦ absurd (true≢false (sym ((level_laws (suc e)).is_none-none) ∙ ap (ops (suc e)).is_none (sym n) ∙ some))
  | as_words a n u ↦ let s = words_of e t k a n in (s, text ∙ words-text e t s rest)
]

pub no_word_read : (e : ℕ) (now : List ℕ) → Lacks now (codes "any()") → ((w rest : List ℕ) (u : TypeAt (suc e)) → IsWord e w u → WordStop rest → now ≡ w ++ rest → ⊥) → TypeRead (suc e) now None
no_word_read e now any word t rest k some stop text =
    let s = type_words e now any t rest k some text in
    word s.0.word _ s.0.first s.0.is_word (words_stop e s.0.later rest stop) s.1

pub words_read : (e : ℕ) (now : List ℕ) (first : Node) (left : List ℕ) (o : Option (Node × Bor (List ℕ))) → Lacks now (codes "any()")
    → ((w rest : List ℕ) (u : TypeAt (suc e)) → IsWord e w u → WordStop rest → now ≡ w ++ rest → (view (suc e) first ≡ u) × (left ≡ rest)) → MoreRead e first left o → TypeRead (suc e) now o
words_read e now first left o any word more t rest k some stop text =
    let s = type_words e now any t rest k some text in
    let read = word s.0.word _ s.0.first s.0.is_word (words_stop e s.0.later rest stop) s.1 in
    subst (λ x. Found (suc e) o x rest) (ap (λ u. joined_with (ops (suc e)).join u s.0.later) read.0 ∙ s.0.together) (more s.0.later rest s.0.are_words stop read.1)

-- ---- one word, by its start

module _ (d : ℕ) (w : List ℕ) (u : TypeAt (suc d)) (i : IsWord d w u) (now rest : List ℕ) (is : now ≡ w ++ rest) (r : Option (Node × Bor (List ℕ))) where
  pub atom_found : (o : Option (Bor (List ℕ))) → is_some o ≡ true → IfSome o (λ left. now ≡ codes "'" ++ left.now)
      → ((a q : List ℕ) → now ≡ quoted a ++ q → MatchOption r ⊥ (λ p. ((e : ℕ) → view (suc e) p.0 ≡ of_atoms (ops e) (names.listed (a ∷ []))) × (p.1.now ≡ q))) → Found (suc d) r u rest
  atom_found o some begins read = grind (arith, number-start)

  pub name_found : (o : Option (Bor (List ℕ))) → is_some o ≡ false → ((q : List ℕ) → now ≡ codes "'" ++ q → IsSomeAnd o (λ left. left.now ≡ q)) → begins_number now ≡ false → Lacks now (codes "{")
      → Lacks now (codes "cons(") → Lacks now (codes "cons_any(")
      → MatchOption r (NoTypeName now) (λ p. (view (suc d) p.0 ≡ u) × (p.1.now ≡ rest)) → Found (suc d) r u rest
  name_found o none quote number brace proper any read = grind (arith, some_start w u i now rest is number (λ q e. grind (arith, quote q e)) brace proper any)
