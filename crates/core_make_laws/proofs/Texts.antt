-- Each generated text as pieces.
use Rattle.std.proofs.Common.{◌≡◌, ℕ, ◌+◌, ◌*◌, ◌<◌, ◌≤◌, List, [], ◌∷◌, ◌++◌, refl, sym, ap, ◌∙◌, Bool, true, false, append_assoc, length, length-append, arith}
use Rattle.std.specs.Prelude.{codes, ◌%◌, ◌==◌}
use Rattle.std.specs.Fmt.{decimal}
use Rattle.std.proofs.Math.Nat.{mod-lt}
use Rattle.std.proofs.lemmas.Fmt.{length-decimal-le}
use Rattle.core_scan.specs.Pieces.{Piece, blank, word, variable, symbol, integer, atom, piece_text, pieces_text}
use Rattle.core_make.specs.Modules.{header, zero_clause, pair_clause, f_text, h_text, w_text, b_text, where_three_divides, module_text}

-- ---- pieces

abbrev space : Piece
space = blank 32

abbrev line : Piece
line = blank 10

abbrev comma : Piece
comma = symbol (codes ",")

abbrev opening : Piece
opening = symbol (codes "(")

abbrev closing : Piece
closing = symbol (codes ")")

abbrev named : List ℕ → ℕ → Piece
named x n = atom (x ++ decimal n)

-- a name with an arity
abbrev name : List ℕ → List ℕ → List Piece
name x n = atom x ∷ symbol (codes "/") ∷ integer n ∷ []

abbrev arrow : List Piece
arrow = space ∷ symbol (codes "->") ∷ space ∷ []

-- the head of a function, up to its variables
abbrev defines : List ℕ → List ℕ → List Piece
defines x n = name x n ++ space ∷ symbol (codes "=") ∷ space ∷ word (codes "fun") ∷ space ∷ opening ∷ []

-- the guard of a clause
abbrev always : List Piece
always = space ∷ word (codes "when") ∷ space ∷ atom (codes "true") ∷ arrow

abbrev applies_h : Piece → List Piece
applies_h argument = word (codes "apply") ∷ space ∷ name (codes "h") (codes "1") ++ opening ∷ argument ∷ closing ∷ line ∷ []

-- ---- the module

abbrev where_it : Bool → List Piece → List Piece
where_it true ps = ps
where_it false ps = []

abbrev header_pieces : ℕ → Bool → List Piece
header_pieces i b =
    word (codes "module") ∷ space ∷ named (codes "g") i ∷ space ∷ symbol (codes "[") ∷ name (codes "f") (codes "1") ++ comma ∷ name (codes "w") (codes "1")
    ++ where_it b (comma ∷ name (codes "b") (codes "0")) ++ symbol (codes "]") ∷ space ∷ word (codes "attributes") ∷ space ∷ symbol (codes "[") ∷ symbol (codes "]") ∷ line ∷ []

abbrev zero_pieces : ℕ → List Piece
zero_pieces i = symbol (codes "<") ∷ integer (codes "0") ∷ symbol (codes ">") ∷ always ++ named (codes "z") i ∷ line ∷ []

abbrev pair_pieces : ℕ → List Piece
pair_pieces next =
    symbol (codes "<") ∷ symbol (codes "{") ∷ atom (codes "ok") ∷ comma ∷ variable (codes "Y") ∷ symbol (codes "}") ∷ symbol (codes ">") ∷ always
    ++ word (codes "call") ∷ space ∷ named (codes "g") next ∷ symbol (codes ":") ∷ atom (codes "f") ∷ opening ∷ variable (codes "Y") ∷ closing ∷ space ∷ word (codes "end") ∷ line ∷ []

abbrev f_head : List Piece
f_head = defines (codes "f") (codes "1") ++ variable (codes "X") ∷ closing ∷ arrow ++ word (codes "case") ∷ space ∷ variable (codes "X") ∷ space ∷ word (codes "of") ∷ line ∷ []

abbrev f_pieces : (i next : ℕ) → List Piece
f_pieces i next = f_head ++ zero_pieces i ++ pair_pieces next

abbrev h_pieces : List Piece
h_pieces =
    defines (codes "h") (codes "1") ++ variable (codes "X") ∷ closing ∷ arrow ++ word (codes "call") ∷ space ∷ atom (codes "erlang") ∷ symbol (codes ":") ∷ atom (codes "+")
    ∷ opening ∷ variable (codes "X") ∷ comma ∷ integer (codes "1") ∷ closing ∷ line ∷ []

abbrev w_pieces : List Piece
w_pieces = defines (codes "w") (codes "1") ++ variable (codes "X") ∷ closing ∷ arrow ++ applies_h (variable (codes "X"))

abbrev b_pieces : List Piece
b_pieces = defines (codes "b") (codes "0") ++ closing ∷ arrow ++ applies_h (atom (codes "no"))

abbrev pub module_pieces : (i next : ℕ) → Bool → List Piece
module_pieces i next b = header_pieces i b ++ f_pieces i next ++ h_pieces ++ w_pieces ++ where_it b b_pieces ++ word (codes "end") ∷ line ∷ []

-- ---- the text is theirs

text_append : (ps qs : List Piece) → pieces_text (ps ++ qs) ≡ pieces_text ps ++ pieces_text qs
text_append [] qs = refl
text_append (p ∷ ps) qs = ap (λ xs. piece_text p ++ xs) (text_append ps qs) ∙ sym (append_assoc (piece_text p) (pieces_text ps) (pieces_text qs))

joined : (ps qs : List Piece) (xs ys : List ℕ) → xs ≡ pieces_text ps → ys ≡ pieces_text qs → xs ++ ys ≡ pieces_text (ps ++ qs)
joined ps qs xs ys e f = ap (λ zs. zs ++ ys) e ∙ ap (λ zs. pieces_text ps ++ zs) f ∙ sym (text_append ps qs)

regrouped : (d a b c e : List ℕ) → d ++ a ++ b ++ c ++ e ≡ (d ++ a) ++ (b ++ (c ++ e))
regrouped d a b c e = append_assoc (d ++ a ++ b) c e ∙ append_assoc (d ++ a) b (c ++ e)

header_is : (i : ℕ) (b : Bool) → (i % 3 == 0) ≡ b → header i ≡ pieces_text (header_pieces i b)
header_is i true e = rw e (ap (λ xs. codes "module 'g" ++ xs) (regrouped (decimal i) (codes "'") (codes " ['f'/1,'w'/1") (codes ",'b'/0") (codes "] attributes []\n")))
header_is i false e = rw e (ap (λ xs. codes "module 'g" ++ xs) (regrouped (decimal i) (codes "'") (codes " ['f'/1,'w'/1") [] (codes "] attributes []\n")))

zero_is : (i : ℕ) → zero_clause i ≡ pieces_text (zero_pieces i)
zero_is i = ap (λ xs. codes "<0> when 'true' -> 'z" ++ xs) (sym (append_assoc (decimal i) (39 ∷ []) (10 ∷ [])))

pair_is : (next : ℕ) → pair_clause next ≡ pieces_text (pair_pieces next)
pair_is next = refl

f_is : (n i : ℕ) → f_text n i ≡ pieces_text (f_pieces i ((i + 1) % n))
f_is n i = joined (f_head ++ zero_pieces i) (pair_pieces ((i + 1) % n)) _ _ (joined f_head (zero_pieces i) _ _ refl (zero_is i)) (pair_is ((i + 1) % n))

b_is : (i : ℕ) (b : Bool) → (i % 3 == 0) ≡ b → where_three_divides i b_text ≡ pieces_text (where_it b b_pieces)
b_is i true e = rw e refl
b_is i false e = rw e refl

pub is_text : (n i : ℕ) (b : Bool) → (i % 3 == 0) ≡ b → module_text n i ≡ pieces_text (module_pieces i ((i + 1) % n) b)
is_text n i b e =
    let next = (i + 1) % n in
    let front = joined (header_pieces i b) (f_pieces i next) _ _ (header_is i b e) (f_is n i) in
    let with_h = joined (header_pieces i b ++ f_pieces i next) h_pieces _ h_text front refl in
    let with_w = joined (header_pieces i b ++ f_pieces i next ++ h_pieces) w_pieces _ w_text with_h refl in
    let with_b = joined (header_pieces i b ++ f_pieces i next ++ h_pieces ++ w_pieces) (where_it b b_pieces) _ _ with_w (b_is i b e) in
    joined (header_pieces i b ++ f_pieces i next ++ h_pieces ++ w_pieces ++ where_it b b_pieces) (word (codes "end") ∷ line ∷ []) _ (codes "end\n") with_b refl

-- ---- how long it is

header_length : (i : ℕ) → length (header i) ≤ 60 + length (decimal i)
header_length i = of (i % 3 == 0) refl
  where
    by : (b : Bool) (more : List ℕ) → (i % 3 == 0) ≡ b → header i ≡ codes "module 'g" ++ ((decimal i ++ codes "'") ++ more) → length more ≤ 40 → length (header i) ≤ 60 + length (decimal i)
    by b more e is few =
        let size = ap length is in
        let whole = length-append (decimal i ++ codes "'") more in
        let name = length-append (decimal i) (codes "'") in
        omega arith

    of : (b : Bool) → (i % 3 == 0) ≡ b → length (header i) ≤ 60 + length (decimal i)
    of true e = by true (codes " ['f'/1,'w'/1,'b'/0] attributes []\n") e (header_is i true e) (omega arith)
    of false e = by false (codes " ['f'/1,'w'/1] attributes []\n") e (header_is i false e) (omega arith)

f_length : (n i : ℕ) → length (f_text n i) ≤ 120 + (length (decimal i) + length (decimal ((i + 1) % n)))
f_length n i = simp length-append (omega arith)

b_length : (i : ℕ) → length (where_three_divides i b_text) ≤ 60
b_length i = of (i % 3 == 0) refl
  where
    of : (b : Bool) → (i % 3 == 0) ≡ b → length (where_three_divides i b_text) ≤ 60
    of true e = rw e (omega arith)
    of false e = rw e (omega arith)

text_length : (n i : ℕ) → length (module_text n i) ≤ 400 + 2 * length (decimal i) + length (decimal ((i + 1) % n))
text_length n i =
    let front = length-append (header i) (f_text n i) in
    let with_h = length-append (header i ++ f_text n i) h_text in
    let with_w = length-append (header i ++ f_text n i ++ h_text) w_text in
    let with_b = length-append (header i ++ f_text n i ++ h_text ++ w_text) (where_three_divides i b_text) in
    let whole = length-append (header i ++ f_text n i ++ h_text ++ w_text ++ where_three_divides i b_text) (codes "end\n") in
    let a = header_length i in
    let b = f_length n i in
    let c = b_length i in
    omega arith

pub is_short : (n i : ℕ) → n ≤ 1000 → i < n → length (module_text n i) ≤ 512
is_short n i few within =
    let next : (i + 1) % n < n = mod-lt (i + 1) (omega arith) in
    let digits : length (decimal i) ≤ 3 = length-decimal-le 3 i (omega arith) (omega arith) (omega arith) in
    let next_digits : length (decimal ((i + 1) % n)) ≤ 3 = length-decimal-le 3 ((i + 1) % n) (omega arith) (omega arith) (omega arith) in
    let size = text_length n i in
    omega arith
