-- How a script is read, line by line.
use Rattle.std.proofs.Common.{◌≡◌, ◌≢◌, ℕ, suc, ◌+◌, ◌<◌, inl, inr, ◌||◌, Bool, true, false, List, [], ◌∷◌, ◌++◌, length, get_or}
use Rattle.std.proofs.Common.{take, drop, nat_eq, refl, sym, ap, ◌∙◌, subst, arith, append_assoc, append-nil, true≢false}
use Rattle.std.specs.Prelude.{All, Contains, IsUtf8, codes, Option, Some, None, MatchOption}
use Rattle.std.specs.Borrow.{Bor}
use Rattle.std.specs.List.{list_any}
use Rattle.std.specs.Cmp.Lexicographic.{pointwise, bytes_decides}
use Rattle.std.proofs.Math.Seq.{take-append_seam}
use Rattle.std.proofs.lemmas.List.{take-append-drop}
use Rattle.std.proofs.lemmas.List.Elements.{All-nil, All-cons, All-head, All-tail, All-append, Contains-append_right, Contains-append_cases}
use Rattle.std.proofs.lemmas.Grind.{flat_map-append}
use Rattle.type_kinds.proofs.Lists.{contains_none, contains_first, contains_later, contains_cases}
use Rattle.analysis_answers.specs.Words.{IsFile}
use Rattle.dia_session_command.specs.Script.{Request, request_line, request_text, CanBeNamed, IsGood, IsScript, IsBadLine, lines_of}
use Rattle.dia_session_command.specs.Script.Request.{to_replace, to_drop, to_ask}
use Rattle.dia_session_command.specs.steps.Lines.{BeginsWith, IsEnd}

-- ---- a text that begins with a word

word_behind : (text word : List ℕ) → pointwise nat_eq (take (length word) text) word ≡ true → text ≡ word ++ drop (length word) text
word_behind text word e = sym (take-append-drop (length word) text) ∙ ap (λ front. front ++ drop (length word) text) ((bytes_decides (take (length word) text) word).0 e)

no_word : (text word : List ℕ) → pointwise nat_eq (take (length word) text) word ≡ false → (rest : List ℕ) → text ≡ word ++ rest → ⊥
no_word text word e rest is =
    true≢false (sym ((bytes_decides (take (length word) text) word).1 (ap (take (length word)) is ∙ take-append_seam word rest)) ∙ e)

abbrev IsPrefix : (text word : List ℕ) (b : Bool) → Type 0
IsPrefix text word b = pointwise nat_eq (take (length word) text) word ≡ b

pub behind_so : (text word : List ℕ) (r : Option (Bor (List ℕ))) →
    MatchOption r (IsPrefix text word false) (λ x. IsPrefix text word true × (x.now ≡ drop (length word) text) × (length x.now + length word ≡ length text))
    → MatchOption r ((rest : List ℕ) → text ≡ word ++ rest → ⊥) (λ x. text ≡ word ++ x.now)
behind_so text word None h = no_word text word h
behind_so text word (Some x) h = word_behind text word h.0 ∙ ap (λ t. word ++ t) (sym h.1)

-- ---- the text of a line

-- what has none of these bytes
without_end : (xs : List ℕ) → list_any (nat_eq 10) xs ≡ false → Contains xs 10 → ⊥
without_end [] e h = contains_none 10 h
without_end (x ∷ xs) e h = elim (contains_cases x 10 xs h) [
  | inl same ↦ true≢false (sym (ap (λ b. list_any (nat_eq 10) (b ∷ xs)) same) ∙ e)
  | inr more ↦ without_end xs (by (nat_eq 10 x) (list_any (nat_eq 10) xs) e) more
]
  where
    by : (a b : Bool) → (a || b) ≡ false → b ≡ false
    by true b e = absurd (true≢false e)
    by false b e = e

behind_word : (word file : List ℕ) → list_any (nat_eq 10) word ≡ false → (Contains file 10 → ⊥) → Contains (word ++ file) 10 → ⊥
behind_word word file e none h = elim (Contains-append_cases word file 10 h) [ inl a ↦ without_end word e a | inr b ↦ none b ]

-- it has no end of a line
pub one_line : (r : Request) → IsGood r → Contains (request_text r) 10 → ⊥
one_line (to_replace file) good h = behind_word (codes "replace ") file refl good.one_line h
one_line (to_drop file) good h = behind_word (codes "drop ") file refl good.one_line h
one_line to_ask good h = without_end (codes "ask") refl h

named_so : (word name text : List ℕ) → text ≡ word ++ name → (Contains text 10 → ⊥) → IsFile name → IsUtf8 name → CanBeNamed name
named_so word name text e none named utf8 =
    record { named = named; text = utf8; one_line = λ h. none (subst (λ t. Contains t 10) (sym e) (Contains-append_right word name 10 h)) }

-- a word, and a file that can be named behind it
pub file_behind : (word name file text : List ℕ) → text ≡ word ++ name → (Contains text 10 → ⊥) → (file ≡ name) × IsFile name × IsUtf8 name
    → CanBeNamed file × (text ≡ word ++ file)
file_behind word name file text e none is =
    (subst CanBeNamed (sym is.0) (named_so word name text e none is.1 is.2), e ∙ ap (λ f. word ++ f) (sym is.0))

first_byte : {xs ys : List ℕ} → xs ≡ ys → get_or xs 0 0 ≡ get_or ys 0 0
first_byte e = ap (λ t. get_or t 0 0) e

pub replace_none : (text name : List ℕ) → text ≡ codes "replace " ++ name → (IsFile name → IsUtf8 name → ⊥) → (r : Request) → IsGood r → text ≡ request_text r → ⊥
replace_none text name e bad (to_replace file) good h =
    let same : name ≡ file = ap (drop 8) (sym e ∙ h) in bad (subst IsFile (sym same) good.named) (subst IsUtf8 (sym same) good.text)
replace_none text name e bad (to_drop file) good h = let k : 114 ≡ 100 = first_byte (sym e ∙ h) in absurd (omega (arith, k))
replace_none text name e bad to_ask good h = let k : 114 ≡ 97 = first_byte (sym e ∙ h) in absurd (omega (arith, k))

pub drop_none : (text name : List ℕ) → text ≡ codes "drop " ++ name → (IsFile name → IsUtf8 name → ⊥) → (r : Request) → IsGood r → text ≡ request_text r → ⊥
drop_none text name e bad (to_replace file) good h = let k : 100 ≡ 114 = first_byte (sym e ∙ h) in absurd (omega (arith, k))
drop_none text name e bad (to_drop file) good h =
    let same : name ≡ file = ap (drop 5) (sym e ∙ h) in bad (subst IsFile (sym same) good.named) (subst IsUtf8 (sym same) good.text)
drop_none text name e bad to_ask good h = let k : 100 ≡ 97 = first_byte (sym e ∙ h) in absurd (omega (arith, k))

pub nothing_asked : (text : List ℕ) → (text ≡ codes "ask" → ⊥) → ((rest : List ℕ) → text ≡ codes "replace " ++ rest → ⊥) → ((rest : List ℕ) → text ≡ codes "drop " ++ rest → ⊥)
    → (r : Request) → IsGood r → text ≡ request_text r → ⊥
nothing_asked text ask replace dropping (to_replace file) good h = replace file h
nothing_asked text ask replace dropping (to_drop file) good h = dropping file h
nothing_asked text ask replace dropping to_ask good h = ask h

-- ---- the first line

cons_both : {x y : ℕ} {xs ys : List ℕ} → x ∷ xs ≡ y ∷ ys → (x ≡ y) × (xs ≡ ys)
cons_both e = (first_byte e, ap (drop 1) e)

-- what stands before the first end of a line is one text
one_split : (xs ys ts bs : List ℕ) → (Contains xs 10 → ⊥) → (Contains ys 10 → ⊥) → xs ++ 10 ∷ ts ≡ ys ++ 10 ∷ bs → xs ≡ ys
one_split [] [] ts bs a b e = refl
one_split [] (y ∷ ys) ts bs a b e = absurd (b (subst (λ x. Contains (x ∷ ys) 10) (cons_both e).0 (contains_first 10 ys)))
one_split (x ∷ xs) [] ts bs a b e = absurd (a (subst (λ y. Contains (y ∷ xs) 10) (sym (cons_both e).0) (contains_first 10 xs)))
one_split (x ∷ xs) (y ∷ ys) ts bs a b e =
    let both = cons_both e in
    ap (λ z. z ∷ xs) both.0 ∙ ap (λ zs. y ∷ zs) (one_split xs ys ts bs (λ h. a (contains_later x 10 xs h)) (λ h. b (contains_later y 10 ys h)) both.1)

pub line_none : (bytes : List ℕ) (end : ℕ) → IsEnd bytes end → ((r : Request) → IsGood r → take end bytes ≡ request_text r → ⊥)
    → (r : Request) (more : List ℕ) → IsGood r → bytes ≡ request_line r ++ more → ⊥
line_none bytes end is none r more good e =
    none r good (one_split (take end bytes) (request_text r) (drop (end + 1) bytes) more is.first (one_line r good) (sym is.split ∙ e ∙ append_assoc (request_text r) (10 ∷ []) more))

pub no_end : (bytes : List ℕ) → (Contains bytes 10 → ⊥) → (r : Request) (more : List ℕ) → IsGood r → bytes ≡ request_line r ++ more → ⊥
no_end bytes none r more good e =
    none (subst (λ t. Contains t 10) (sym (e ∙ append_assoc (request_text r) (10 ∷ []) more)) (Contains-append_right (request_text r) (10 ∷ more) 10 (contains_first 10 more)))

pub line_some : (bytes : List ℕ) (end : ℕ) (r : Request) → IsEnd bytes end → take end bytes ≡ request_text r → bytes ≡ request_line r ++ drop (end + 1) bytes
line_some bytes end r is e =
    is.split ∙ ap (λ t. t ++ 10 ∷ drop (end + 1) bytes) e ∙ sym (append_assoc (request_text r) (10 ∷ []) (drop (end + 1) bytes))

-- ---- all lines

pub begins_more : (bytes : List ℕ) (rs : List Request) (rest : List ℕ) (r : Request) (more : List ℕ) → BeginsWith bytes rs rest → IsGood r → rest ≡ request_line r ++ more → BeginsWith bytes (rs ++ r ∷ []) more
begins_more bytes rs rest r more h good e = record {
  good = All-append IsGood rs (r ∷ []) h.good (All-cons IsGood r [] good (All-nil IsGood));
  spelled =
      h.spelled ∙ ap (λ t. lines_of rs ++ t) e ∙ sym (append_assoc (lines_of rs) (request_line r) more)
      ∙ ap (λ t. t ++ more) (ap (λ t. lines_of rs ++ t) (sym (append-nil (request_line r))) ∙ sym (flat_map-append request_line rs (r ∷ [])));
}

pub begins_shorter : (r : Request) (rest more : List ℕ) → rest ≡ request_line r ++ more → length more < length rest
begins_shorter r rest more e =
    let l : length rest ≡ length ((request_text r ++ 10 ∷ []) ++ more) = ap (λ t. length t) e in
    omega (arith, l, length_of (request_text r) more)
  where
    length_of : (xs ys : List ℕ) → length ((xs ++ 10 ∷ []) ++ ys) ≡ suc (length xs + length ys)
    length_of [] ys = omega arith
    length_of (x ∷ xs) ys = omega (arith, length_of xs ys)

pub whole_script : (bytes : List ℕ) (rs : List Request) (rest : List ℕ) → BeginsWith bytes rs rest → rest ≡ [] → IsScript bytes rs
whole_script bytes rs rest h e = record { good = h.good; spelled = h.spelled ∙ ap (λ t. lines_of rs ++ t) e ∙ append-nil (lines_of rs) }

pub bad_line_so : (bytes : List ℕ) (rs : List Request) (rest : List ℕ) (number : ℕ) → BeginsWith bytes rs rest → rest ≢ []
    → ((r : Request) (more : List ℕ) → IsGood r → rest ≡ request_line r ++ more → ⊥) → number ≡ suc (length rs) → IsBadLine bytes number
bad_line_so bytes rs rest number h some bad n = record { before = rs; good = h.good; rest = rest; spelled = h.spelled; some = some; bad = bad; counted = n }

-- ---- bytes are one script, or have one first bad line

rest_of : (us vs ts bs : List ℕ) → us ≡ vs → us ++ 10 ∷ ts ≡ vs ++ 10 ∷ bs → ts ≡ bs
rest_of [] [] ts bs same e = ap (drop 1) e
rest_of [] (v ∷ vs) ts bs same e = let k : 0 ≡ suc (length vs) = ap (λ t. length t) same in absurd (omega (arith, k))
rest_of (u ∷ us) [] ts bs same e = let k : suc (length us) ≡ 0 = ap (λ t. length t) same in absurd (omega (arith, k))
rest_of (u ∷ us) (v ∷ vs) ts bs same e = rest_of us vs ts bs (ap (drop 1) same) (ap (drop 1) e)

-- two lines that begin the same bytes leave the same rest
rests : (p o : Request) (ts bs : List ℕ) → IsGood p → IsGood o → request_line p ++ ts ≡ request_line o ++ bs → ts ≡ bs
rests p o ts bs c d e =
    let so : request_text p ++ 10 ∷ ts ≡ request_text o ++ 10 ∷ bs = sym (append_assoc (request_text p) (10 ∷ []) ts) ∙ e ∙ append_assoc (request_text o) (10 ∷ []) bs in
    rest_of (request_text p) (request_text o) ts bs (one_split (request_text p) (request_text o) ts bs (one_line p c) (one_line o d) so) so

-- of two scripts' beginnings one goes on where the other ends
goes_on : (rs qs : List Request) (xs ys : List ℕ) → All IsGood rs → All IsGood qs → lines_of rs ++ xs ≡ lines_of qs ++ ys
    → ((r : Request) (more : List ℕ) → IsGood r → xs ≡ request_line r ++ more → ⊥) → ((r : Request) (more : List ℕ) → IsGood r → ys ≡ request_line r ++ more → ⊥)
    → length rs ≡ length qs
goes_on [] [] xs ys a b e f g = refl
goes_on [] (q ∷ qs) xs ys a b e f g = absurd (f q (lines_of qs ++ ys) (All-head IsGood q qs b) (e ∙ append_assoc (request_line q) (lines_of qs) ys))
goes_on (r ∷ rs) [] xs ys a b e f g = absurd (g r (lines_of rs ++ xs) (All-head IsGood r rs a) (sym e ∙ append_assoc (request_line r) (lines_of rs) xs))
goes_on (r ∷ rs) (q ∷ qs) xs ys a b e f g = ap suc (goes_on rs qs xs ys (All-tail IsGood r rs a) (All-tail IsGood q qs b) behind f g)
  where
    behind : lines_of rs ++ xs ≡ lines_of qs ++ ys
    behind = rests r q (lines_of rs ++ xs) (lines_of qs ++ ys) (All-head IsGood r rs a) (All-head IsGood q qs b)
        (sym (append_assoc (request_line r) (lines_of rs) xs) ∙ e ∙ append_assoc (request_line q) (lines_of qs) ys)

nothing_begins : (r : Request) (more : List ℕ) → IsGood r → [] ≡ request_line r ++ more → ⊥
nothing_begins r more good e = let l = begins_shorter r [] more e in absurd (omega (arith, l))

pub one_bad_line : (bytes : List ℕ) (number other : ℕ) → IsBadLine bytes number → IsBadLine bytes other → number ≡ other
one_bad_line bytes number other h k =
    let same = goes_on h.before k.before h.rest k.rest h.good k.good (sym h.spelled ∙ k.spelled) h.bad k.bad in
    h.counted ∙ ap suc same ∙ sym k.counted

ends_there : (rs qs : List Request) (rest : List ℕ) → All IsGood rs → All IsGood qs → lines_of rs ++ [] ≡ lines_of qs ++ rest
    → ((r : Request) (more : List ℕ) → IsGood r → rest ≡ request_line r ++ more → ⊥) → rest ≡ []
ends_there [] [] rest a b e bad = sym e
ends_there [] (q ∷ qs) rest a b e bad = absurd (nothing_begins q (lines_of qs ++ rest) (All-head IsGood q qs b) (e ∙ append_assoc (request_line q) (lines_of qs) rest))
ends_there (r ∷ rs) [] rest a b e bad = absurd (bad r (lines_of rs ++ []) (All-head IsGood r rs a) (sym e ∙ append_assoc (request_line r) (lines_of rs) []))
ends_there (r ∷ rs) (q ∷ qs) rest a b e bad =
    ends_there rs qs rest (All-tail IsGood r rs a) (All-tail IsGood q qs b)
    (rests r q (lines_of rs ++ []) (lines_of qs ++ rest) (All-head IsGood r rs a) (All-head IsGood q qs b) (sym (append_assoc (request_line r) (lines_of rs) []) ∙ e ∙ append_assoc (request_line q) (lines_of qs) rest)) bad

pub script_or_bad : (bytes : List ℕ) (requests : List Request) (number : ℕ) → IsScript bytes requests → IsBadLine bytes number → ⊥
script_or_bad bytes requests number h k = k.some (ends_there requests k.before k.rest h.good k.good (append-nil (lines_of requests) ∙ sym h.spelled ∙ k.spelled) k.bad)
