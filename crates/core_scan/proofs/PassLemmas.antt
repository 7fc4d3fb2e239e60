-- From a place on, by blanks, comments and tokens.
use Rattle.std.proofs.Common.{zero, ◌≡◌, ◌≢◌, ℕ, suc, ◌+◌, ◌-◌, ◌<◌, ◌≤◌, List, [], ◌∷◌, ◌++◌, length, take, drop, get_or, refl, sym, ap}
use Rattle.std.proofs.Common.{◌∙◌, subst, ◌⊎◌, inl, inr, Bool, true, false, arith, ◌==◌, ℤ, append_assoc, length-append, length-drop}
use Rattle.std.specs.List.{count_by}
use Rattle.std.specs.List.{prefix_len}
use Rattle.std.proofs.lemmas.List.{take-append-drop, append_cancel_left, append-nil, length-take-le}
use Rattle.std.proofs.lemmas.List.Sums.{count_by-le-length}
use Rattle.std.proofs.lemmas.Bool.{false≢true}
use Rattle.type_kinds.specs.declared.place.Place.{Place}
use Rattle.core_scan.specs.declared.token.Token.{Token}
use Rattle.core_scan.specs.declared.token.TokenKind.{TokenKind}
use Rattle.core_scan.specs.declared.token.TokenKind.TheVariants.{Word, Variable, Integer, Float, Char, Atom, Text, Symbol}
use Rattle.core_scan.specs.declared.token.ScanFault.{ScanFault}
use Rattle.core_scan.specs.declared.token.ScanFault.TheVariants.{BadEscape}
use Rattle.core_scan.specs.Bytes.{is_blank, is_no_line_feed, is_line_feed, start, past}
use Rattle.core_scan.specs.Escapes.{AllOf, NoneAhead, NoEscape, Inside, Quoted}
use Rattle.core_scan.specs.Spells.{Spells, Longest, IsToken}
use Rattle.core_scan.specs.Lexed.{Passes, here, blank, comment, token, Lexed, IsQuote, IsCutOff, FaultAt, unknown_word, wide, open_quote, bad_escape, no_token, FirstFault}
use Rattle.core_scan.specs.steps.Fronts.{IsStuck}
use Rattle.core_scan.specs.steps.Found.{Begins, GoesOn}
use Rattle.core_scan.proofs.RunLemmas.{prefix_len-run, same_front, take-run, run_ends, eq_from_test}
use Rattle.core_scan.proofs.EscapeLemmas.{no_escape}
use Rattle.core_scan.proofs.InsideLemmas.{inside_once}
use Rattle.core_scan.proofs.Reach.{Class, at_lower, at_digit, at_sign, at_quote, at_double, at_blank, at_percent, class, class_blank, class_percent, class_quote, class_double, Starts, first_class, bounded}
use Rattle.core_scan.proofs.OnceLemmas.{longest_once}
use Rattle.core_scan.proofs.ShapeLemmas.{quoted_only, quote_apart}

-- ---- going on

pub passes_append : {mid end : Place} {rest left : List ℕ} {place : Place} {bytes : List ℕ} {ts us : List Token} → Passes mid rest place bytes ts → Passes end left mid rest us → Passes end left place bytes (ts ++ us)
passes_append {mid} {end} {rest} {left} {place} {bytes} {ts} {us} (here is js none) more = rw (is, js, none) more
passes_append (blank b behind whole is before) more = blank b behind whole is (passes_append before more)
passes_append (comment line behind whole is ends before) more = comment line behind whole is ends (passes_append before more)
passes_append {mid} {end} {rest} {left} {place} {bytes} {ts} {us} (token kind piece behind others longest is adds before) more =
    token kind piece behind (others ++ us) longest is (ap (λ (l : List Token). l ++ us) adds) (passes_append before more)

-- the steps of the scanner
pub blank_step : (place : Place) (bytes : List ℕ) (tokens : List Token) → 0 < length bytes → is_blank (get_or bytes 0 0) ≡ true → GoesOn place bytes tokens tokens 1
blank_step place [] tokens some is = absurd (omega arith)
blank_step place (b ∷ bs) tokens some is = record { some = omega arith; within = omega arith; more = []; adds = sym (append-nil tokens); few = omega arith; passes = blank b bs refl is (here refl refl refl) }

pub comment_step : (place : Place) (bytes : List ℕ) (tokens : List Token) (len : ℕ) → 0 < length bytes → get_or bytes 0 0 ≡ 37 → len ≡ prefix_len is_no_line_feed (drop 1 bytes) → len ≤ length (drop 1 bytes)
    → GoesOn place bytes tokens tokens (1 + len)
comment_step place [] tokens len some is run within = absurd (omega arith)
comment_step place (b ∷ bs) tokens len some is run within =
    let next : 1 + len ≡ suc len = omega arith in
    let line : AllOf is_no_line_feed (take len bs) = take-run is_no_line_feed len bs (omega arith) in
    let ends : NoneAhead is_no_line_feed (drop len bs) = rw run (run_ends is_no_line_feed bs) in
    let passes : Passes (past place (37 ∷ take len bs)) (drop len bs) place (37 ∷ bs) [] = comment (take len bs) (drop len bs) (ap (λ (l : List ℕ). 37 ∷ l) (sym (take-append-drop len bs))) line ends (here refl refl refl) in
    rw next (record { some = omega arith; within = omega arith; more = []; adds = sym (append-nil tokens); few = omega arith; passes = rw is passes })

pub token_step : (place : Place) (bytes : List ℕ) (old new : List Token) (kind : TokenKind) (len : ℕ) → Begins bytes kind len → new ≡ old ++ record { kind = kind; place = place } ∷ [] → GoesOn place bytes old new len
token_step place bytes old new kind len begins adds = record {
  some = begins.some;
  within = begins.within;
  more = record { kind = kind; place = place } ∷ [];
  adds = adds;
  few = omega arith;
  passes = token kind (take len bytes) (drop len bytes) [] begins.longest begins.token refl (here refl refl refl);
}

-- the loop of the scanner: so far these tokens lead from the start to a place and the rest there
pub record OnTheWay (text : List ℕ) (place : Place) (rest : List ℕ) (tokens : List Token) : Type 0 where
  pub passes : Passes place rest start text tokens
  pub bytes : place.byte + length rest ≡ length text
  pub lines : place.line + length rest ≤ 1 + length text
  pub few : length tokens + length rest ≤ length text

pub setting_out : (text : List ℕ) (tokens : List Token) → tokens ≡ [] → OnTheWay text start text tokens
setting_out text tokens none = record { passes = here refl refl none; bytes = omega arith; lines = omega arith; few = rw none (omega arith) }

pub further : (text : List ℕ) (place next : Place) (rest after : List ℕ) (old new : List Token) (len : ℕ) → OnTheWay text place rest old → GoesOn place rest old new len → next ≡ past place (take len rest)
    → after ≡ drop len rest → OnTheWay text next after new
further text place next rest after old new len so_far step at behind =
    let adds : new ≡ old ++ step.more = step.adds in
    let size : length (take len rest) ≡ len = length-take-le len rest step.within in
    let less : length (drop len rest) ≡ length rest - len = length-drop len rest in
    let feeds : count_by is_line_feed (take len rest) ≤ length (take len rest) = count_by-le-length is_line_feed (take len rest) in
    let more : length (old ++ step.more) ≡ length old + length step.more = length-append old step.more in
    let whole : OnTheWay text (past place (take len rest)) (drop len rest) (old ++ step.more) = record {
      passes = passes_append so_far.passes step.passes;
      bytes = omega (arith, so_far.bytes, step.within);
      lines = omega (arith, so_far.lines, step.within);
      few = omega (arith, so_far.few, step.few, step.some, step.within);
    } in
    rw (at, behind, adds) whole

-- ---- where it ends

-- the end, or a fault
abbrev Stops : Place → List ℕ → Type 0
Stops place bytes = (bytes ≡ []) ⊎ ((fault : ScanFault) × FaultAt place bytes fault)

longest_class : (bytes : List ℕ) (kind : TokenKind) (piece rest : List ℕ) → Longest bytes kind piece rest → Starts kind (first_class bytes)
longest_class bytes kind piece rest longest = let e : first_class (piece ++ rest) ≡ first_class bytes = ap first_class (sym longest.splits) in rw e at (bounded kind piece rest longest.spells).0

quote_class : (q : ℕ) (bytes cs : List ℕ) → IsQuote q → bytes ≡ q ∷ cs → (first_class bytes ≡ at_quote) ⊎ (first_class bytes ≡ at_double)
quote_class q bytes cs (inl is) whole = inl (ap first_class whole ∙ ap class is ∙ class_quote)
quote_class q bytes cs (inr is) whole = inr (ap first_class whole ∙ ap class is ∙ class_double)

-- no word and no number begins with a quote
word_no_quote : {A : Type 0} (q : ℕ) (w bytes piece rest cs : List ℕ) → IsQuote q → bytes ≡ q ∷ cs → Longest bytes (Word w) piece rest → A
word_no_quote q w bytes piece rest cs quote whole longest = go (longest_class bytes (Word w) piece rest longest) (quote_class q bytes cs quote whole)
  where
    go : {A : Type 0} → first_class bytes ≡ at_lower → (first_class bytes ≡ at_quote) ⊎ (first_class bytes ≡ at_double) → A
    go e (inl f) = cc
    go e (inr f) = cc

integer_no_quote : {A : Type 0} (q : ℕ) (n : ℤ) (bare : Bool) (bytes piece rest cs : List ℕ) → IsQuote q → bytes ≡ q ∷ cs → Longest bytes (Integer n bare) piece rest → A
integer_no_quote q n bare bytes piece rest cs quote whole longest = go (longest_class bytes (Integer n bare) piece rest longest) (quote_class q bytes cs quote whole)
  where
    go : {A : Type 0} → (first_class bytes ≡ at_digit) ⊎ (first_class bytes ≡ at_sign) → (first_class bytes ≡ at_quote) ⊎ (first_class bytes ≡ at_double) → A
    go (inl e) (inl f) = cc
    go (inl e) (inr f) = cc
    go (inr e) (inl f) = cc
    go (inr e) (inr f) = cc

-- a blank and a comment are no fault
abbrev IsPassed : Class → Type 0
IsPassed k = (k ≡ at_blank) ⊎ (k ≡ at_percent)

fault_class : (place : Place) (bytes : List ℕ) (fault : ScanFault) → IsPassed (first_class bytes) → ((b : ℕ) (rest : List ℕ) → bytes ≡ b ∷ rest → is_blank b ≡ false → b ≢ 37 → ⊥) → FaultAt place bytes fault
    → ⊥
fault_class place bytes fault passed other (unknown_word w piece rest longest _ _) = go passed (longest_class bytes (Word w) piece rest longest)
  where
    go : IsPassed (first_class bytes) → first_class bytes ≡ at_lower → ⊥
    go (inl e) f = cc
    go (inr e) f = cc
fault_class place bytes fault passed other (wide n bare piece rest longest _ _) = go passed (longest_class bytes (Integer n bare) piece rest longest)
  where
    go : IsPassed (first_class bytes) → (first_class bytes ≡ at_digit) ⊎ (first_class bytes ≡ at_sign) → ⊥
    go (inl e) (inl f) = cc
    go (inl e) (inr f) = cc
    go (inr e) (inl f) = cc
    go (inr e) (inr f) = cc
fault_class place bytes fault passed other (open_quote q inside text left quote whole _ _ _) = go passed (quote_class q bytes (inside ++ left) quote whole)
  where
    go : IsPassed (first_class bytes) → (first_class bytes ≡ at_quote) ⊎ (first_class bytes ≡ at_double) → ⊥
    go (inl e) (inl f) = cc
    go (inl e) (inr f) = cc
    go (inr e) (inl f) = cc
    go (inr e) (inr f) = cc
fault_class place bytes fault passed other (bad_escape q inside text more quote whole _ _ _ _) = go passed (quote_class q bytes (inside ++ 92 ∷ more) quote whole)
  where
    go : IsPassed (first_class bytes) → (first_class bytes ≡ at_quote) ⊎ (first_class bytes ≡ at_double) → ⊥
    go (inl e) (inl f) = cc
    go (inl e) (inr f) = cc
    go (inr e) (inl f) = cc
    go (inr e) (inr f) = cc
fault_class place bytes fault passed other (no_token b rest whole no_blank no_comment _ _ _ _) = other b rest whole no_blank no_comment

stops_blank : {A : Type 0} (place : Place) (bytes : List ℕ) (b : ℕ) (rest : List ℕ) → Stops place bytes → bytes ≡ b ∷ rest → is_blank b ≡ true → A
stops_blank place bytes b rest (inl none) whole is = cc
stops_blank place bytes b rest (inr (fault, at)) whole is = absurd (fault_class place bytes fault (inl (ap first_class whole ∙ class_blank b is))
    (λ d ds other no_blank _. let same : d ≡ b = cc in false≢true (sym no_blank ∙ ap is_blank same ∙ is)) at)

stops_comment : {A : Type 0} (place : Place) (bytes rest : List ℕ) → Stops place bytes → bytes ≡ 37 ∷ rest → A
stops_comment place bytes rest (inl none) whole = cc
stops_comment place bytes rest (inr (fault, at)) whole = absurd (fault_class place bytes fault (inr (ap first_class whole ∙ class_percent)) (λ d ds other _ no_comment. let same : d ≡ 37 = cc in no_comment same) at)

cut_off_stuck : (q : ℕ) (left : List ℕ) → IsCutOff left → IsStuck q left
cut_off_stuck q left (inl is) = rw is tt
cut_off_stuck q left (inr (inl is)) = rw is (inr (refl, no_escape [] refl))
cut_off_stuck q left (inr (inr is)) = rw is (inr (refl, no_escape (94 ∷ []) refl))

-- what has no end is no token
unclosed : (q : ℕ) (bytes inside text left : List ℕ) (kind : TokenKind) (piece rest : List ℕ) → IsQuote q → bytes ≡ q ∷ (inside ++ left) → Inside q inside text left → IsStuck q left → Longest bytes kind piece rest
    → left ≡ q ∷ rest
unclosed q bytes inside text left kind piece rest quote whole spelled stuck longest = go (quoted_only q (inside ++ left) kind piece rest quote (sym longest.splits ∙ whole) longest.spells)
  where
    go : (x : List ℕ) × Quoted q x piece rest → left ≡ q ∷ rest
    go (x, (a, is, closed)) =
        let other : piece ++ rest ≡ q ∷ (a ++ (q ∷ rest)) = ap (λ (l : List ℕ). l ++ rest) is ∙ ap (λ (l : List ℕ). q ∷ l) (append_assoc a (q ∷ []) rest) in
        let both : q ∷ (inside ++ left) ≡ q ∷ (a ++ (q ∷ rest)) = sym whole ∙ longest.splits ∙ other in
        let behind : inside ++ left ≡ a ++ (q ∷ rest) = cc in
        (inside_once (quote_apart q quote) spelled closed stuck (inl refl) behind).2

no_cut_off : (q : ℕ) (left rest : List ℕ) → q ≢ 92 → IsCutOff left → left ≡ q ∷ rest → ⊥
no_cut_off q left rest apart (inl is) e = cc
no_cut_off q left rest apart (inr (inl is)) e = let same : q ≡ 92 = cc in apart same
no_cut_off q left rest apart (inr (inr is)) e = let same : q ≡ 92 = cc in apart same

fault_token : (place : Place) (bytes : List ℕ) (fault : ScanFault) (kind : TokenKind) (piece rest : List ℕ) → FaultAt place bytes fault → Longest bytes kind piece rest → IsToken kind → ⊥
fault_token place bytes fault kind piece rest (unknown_word w p r longest unknown _) other is = unknown (subst IsToken (longest_once bytes kind (Word w) piece rest p r other longest).0 is)
fault_token place bytes fault kind piece rest (wide n bare p r longest far _) other is = let narrow : IsToken (Integer n bare) = subst IsToken (longest_once bytes kind (Integer n bare) piece rest p r other longest).0 is in omega arith
fault_token place bytes fault kind piece rest (open_quote q inside text left quote whole spelled cut _) other is =
    no_cut_off q left rest (quote_apart q quote) cut (unclosed q bytes inside text left kind piece rest quote whole spelled (cut_off_stuck q left cut) other)
fault_token place bytes fault kind piece rest (bad_escape q inside text more quote whole spelled none _ _) other is = let e : 92 ∷ more ≡ q ∷ rest =
    unclosed q bytes inside text (92 ∷ more) kind piece rest quote whole spelled (inr (refl, none)) other in let same : q ≡ 92 = cc in quote_apart q quote same
fault_token place bytes fault kind piece rest (no_token b r whole _ _ _ _ none _) other is = none kind piece rest other.splits other.spells

token_some : (bytes : List ℕ) (kind : TokenKind) (piece rest : List ℕ) → Longest bytes kind piece rest → bytes ≢ []
token_some bytes kind piece rest longest none =
    let some : 0 < length piece = (bounded kind piece rest longest.spells).1 in
    let size : length bytes ≡ length piece + length rest = ap length longest.splits ∙ length-append piece rest in
    let zero_size : length bytes ≡ 0 = ap length none in omega arith

stops_token : {A : Type 0} (place : Place) (bytes : List ℕ) (kind : TokenKind) (piece rest : List ℕ) → Stops place bytes → Longest bytes kind piece rest → IsToken kind → A
stops_token place bytes kind piece rest (inl none) longest is = absurd (token_some bytes kind piece rest longest none)
stops_token place bytes kind piece rest (inr (fault, at)) longest is = absurd (fault_token place bytes fault kind piece rest at longest is)

-- ---- one way

same_line : (a b x y : List ℕ) → AllOf is_no_line_feed a → AllOf is_no_line_feed b → NoneAhead is_no_line_feed x → NoneAhead is_no_line_feed y → a ++ x ≡ b ++ y → (a ≡ b) × (x ≡ y)
same_line a b x y all both ends stops same =
    let left : prefix_len is_no_line_feed (a ++ x) ≡ length a = prefix_len-run is_no_line_feed a x all ends in
    let right : prefix_len is_no_line_feed (b ++ y) ≡ length b = prefix_len-run is_no_line_feed b y both stops in
    let size : length a ≡ length b = sym left ∙ ap (prefix_len is_no_line_feed) same ∙ right in
    let fronts : a ≡ b = same_front a b x y same size in
    (fronts, append_cancel_left b x y (ap (λ (l : List ℕ). l ++ x) (sym fronts) ∙ same))

-- a blank, a comment and a token are apart
comment_no_blank : {A : Type 0} (b : ℕ) → is_blank b ≡ true → b ≡ 37 → A
comment_no_blank b is e = absurd (false≢true (sym (ap is_blank e) ∙ is))

abbrev Once : List Token → List Token → Place → Place → List ℕ → List ℕ → Type 0
Once ts us end other left rest = (ts ≡ us) × (end ≡ other) × (left ≡ rest)

passed_class : {A : Type 0} (kind : TokenKind) (k : Class) → IsPassed k → Starts kind k → A
passed_class (Word w) k (inl e) f = cc
passed_class (Word w) k (inr e) f = cc
passed_class (Variable w) k (inl e) f = cc
passed_class (Variable w) k (inr e) f = cc
passed_class (Integer n b) k (inl e) (inl f) = cc
passed_class (Integer n b) k (inl e) (inr f) = cc
passed_class (Integer n b) k (inr e) (inl f) = cc
passed_class (Integer n b) k (inr e) (inr f) = cc
passed_class (Float w) k (inl e) (inl f) = cc
passed_class (Float w) k (inl e) (inr f) = cc
passed_class (Float w) k (inr e) (inl f) = cc
passed_class (Float w) k (inr e) (inr f) = cc
passed_class (Char c) k (inl e) f = cc
passed_class (Char c) k (inr e) f = cc
passed_class (Atom x) k (inl e) f = cc
passed_class (Atom x) k (inr e) f = cc
passed_class (Text x) k (inl e) f = cc
passed_class (Text x) k (inr e) f = cc
passed_class (Symbol s) k (inl e) (inl f) = cc
passed_class (Symbol s) k (inl e) (inr f) = cc
passed_class (Symbol s) k (inr e) (inl f) = cc
passed_class (Symbol s) k (inr e) (inr f) = cc

token_no_blank : {A : Type 0} (bytes : List ℕ) (b : ℕ) (behind : List ℕ) (kind : TokenKind) (piece rest : List ℕ) → bytes ≡ b ∷ behind → is_blank b ≡ true → Longest bytes kind piece rest → A
token_no_blank bytes b behind kind piece rest whole is longest = passed_class kind (first_class bytes) (inl (ap first_class whole ∙ class_blank b is)) (longest_class bytes kind piece rest longest)

token_no_comment : {A : Type 0} (bytes behind : List ℕ) (kind : TokenKind) (piece rest : List ℕ) → bytes ≡ 37 ∷ behind → Longest bytes kind piece rest → A
token_no_comment bytes behind kind piece rest whole longest = passed_class kind (first_class bytes) (inr (ap first_class whole ∙ class_percent)) (longest_class bytes kind piece rest longest)

-- two ways over the same bytes that stop are the same way
pub passes_once : {end other : Place} {left rest : List ℕ} {place : Place} {bytes : List ℕ} {ts us : List Token} → Passes end left place bytes ts → Passes other rest place bytes us → Stops end left → Stops other rest
    → Once ts us end other left rest
passes_once (here is js none) (here ks ls nothing) stop halt = (none ∙ sym nothing, sym is ∙ ks, sym js ∙ ls)
passes_once {end} {other} {left} {rest} {place} {bytes} (here is js none) (blank b behind whole blank_is more) stop halt = stops_blank end left b behind stop (sym js ∙ whole) blank_is
passes_once {end} {other} {left} {rest} {place} {bytes} (here is js none) (comment line behind whole all ends more) stop halt = stops_comment end left (line ++ behind) stop (sym js ∙ whole)
passes_once {end} {other} {left} {rest} {place} {bytes} (here is js none) (token kind piece behind others longest is_token adds more) stop halt =
    stops_token end left kind piece behind stop (subst (λ (l : List ℕ). Longest l kind piece behind) js longest) is_token
passes_once {end} {other} {left} {rest} {place} {bytes} (blank b behind whole blank_is more) (here is js none) stop halt = stops_blank other rest b behind halt (sym js ∙ whole) blank_is
passes_once {end} {other} {left} {rest} {place} {bytes} (comment line behind whole all ends more) (here is js none) stop halt = stops_comment other rest (line ++ behind) halt (sym js ∙ whole)
passes_once {end} {other} {left} {rest} {place} {bytes} (token kind piece behind others longest is_token adds more) (here is js none) stop halt =
    stops_token other rest kind piece behind halt (subst (λ (l : List ℕ). Longest l kind piece behind) js longest) is_token
passes_once {end} {other} {left} {rest} {place} {bytes} {ts} {us} (blank b behind whole is more) (blank d further same js less) stop halt =
    let both : b ∷ behind ≡ d ∷ further = sym whole ∙ same in
    let first : d ≡ b = cc in let tail : further ≡ behind = cc in
    passes_once more (subst (λ (x : ℕ). Passes other rest (past place (x ∷ [])) behind us) first (subst (λ (l : List ℕ). Passes other rest (past place (d ∷ [])) l us) tail less)) stop halt
passes_once {end} {other} {left} {rest} {place} {bytes} {ts} {us} (blank b behind whole is more) (comment line further same all ends less) stop halt =
    let both : b ∷ behind ≡ 37 ∷ (line ++ further) = sym whole ∙ same in let first : b ≡ 37 = cc in comment_no_blank b is first
passes_once {end} {other} {left} {rest} {place} {bytes} {ts} {us} (blank b behind whole is more) (token kind piece further others longest token_is adds less) stop halt = token_no_blank bytes b behind kind piece further whole is longest
passes_once {end} {other} {left} {rest} {place} {bytes} {ts} {us} (comment line behind whole all ends more) (blank b further same is less) stop halt =
    let both : 37 ∷ (line ++ behind) ≡ b ∷ further = sym whole ∙ same in let first : b ≡ 37 = cc in comment_no_blank b is first
passes_once {end} {other} {left} {rest} {place} {bytes} {ts} {us} (comment line behind whole all ends more) (comment row further same every stops less) stop halt =
    let both : 37 ∷ (line ++ behind) ≡ 37 ∷ (row ++ further) = sym whole ∙ same in
    let tails : line ++ behind ≡ row ++ further = cc in
    let parts : (line ≡ row) × (behind ≡ further) = same_line line row behind further all every ends stops tails in
    passes_once more (subst (λ (l : List ℕ). Passes other rest (past place (37 ∷ l)) behind us) (sym parts.0) (subst (λ (l : List ℕ). Passes other rest (past place (37 ∷ row)) l us) (sym parts.1) less)) stop halt
passes_once {end} {other} {left} {rest} {place} {bytes} {ts} {us} (comment line behind whole all ends more) (token kind piece further others longest token_is adds less) stop halt =
    token_no_comment bytes (line ++ behind) kind piece further whole longest
passes_once {end} {other} {left} {rest} {place} {bytes} {ts} {us} (token kind piece further others longest token_is adds more) (blank b behind whole is less) stop halt = token_no_blank bytes b behind kind piece further whole is longest
passes_once {end} {other} {left} {rest} {place} {bytes} {ts} {us} (token kind piece further others longest token_is adds more) (comment line behind whole all ends less) stop halt =
    token_no_comment bytes (line ++ behind) kind piece further whole longest
passes_once {end} {other} {left} {rest} {place} {bytes} {ts} {us} (token kind piece behind others longest is adds more) (token sort part further rests far js gives less) stop halt =
    let parts : (kind ≡ sort) × (piece ≡ part) × (behind ≡ further) = longest_once bytes kind sort piece behind part further longest far in
    let once : Once others rests end other left rest = passes_once more (subst (λ (l : List ℕ). Passes other rest (past place l) behind rests) (sym parts.1)
    (subst (λ (l : List ℕ). Passes other rest (past place part) l rests) (sym parts.2) less)) stop halt in
    (adds ∙ ap (λ (k : TokenKind). record { kind = k; place = place } ∷ others) parts.0 ∙ ap (λ (l : List Token). record { kind = sort; place = place } ∷ l) once.0 ∙ sym gives, once.1, once.2)

-- ---- one fault

fault_some : {A : Type 0} (place : Place) (fault : ScanFault) → FaultAt place [] fault → A
fault_some place fault (unknown_word w piece rest longest _ _) = absurd (token_some [] (Word w) piece rest longest refl)
fault_some place fault (wide n bare piece rest longest _ _) = absurd (token_some [] (Integer n bare) piece rest longest refl)
fault_some place fault (open_quote q inside text left quote whole _ _ _) = cc
fault_some place fault (bad_escape q inside text more quote whole _ _ _ _) = cc
fault_some place fault (no_token b rest whole _ _ _ _ _ _) = cc

word_no_integer : {A : Type 0} (w bytes p r s t : List ℕ) (n : ℤ) (bare : Bool) → Longest bytes (Word w) p r → Longest bytes (Integer n bare) s t → A
word_no_integer w bytes p r s t n bare one two = let e : Word w ≡ Integer n bare = (longest_once bytes (Word w) (Integer n bare) p r s t one two).0 in cc

-- quotes that the text ends in have no bad escape
open_no_bad : (q c : ℕ) (bytes inside text left other letters more : List ℕ) → IsQuote q → bytes ≡ q ∷ inside ++ left → Inside q inside text left → IsCutOff left → bytes ≡ c ∷ other ++ 92 ∷ more
    → Inside c other letters (92 ∷ more) → NoEscape more → (IsCutOff (92 ∷ more) → ⊥) → ⊥
open_no_bad q c bytes inside text left other letters more quote whole spelled cut same spells none uncut =
    let both : q ∷ (inside ++ left) ≡ c ∷ (other ++ (92 ∷ more)) = sym whole ∙ same in
    let first : c ≡ q = cc in let behind : inside ++ left ≡ other ++ (92 ∷ more) = cc in
    let moved : Inside q other letters (92 ∷ more) = subst (λ (x : ℕ). Inside x other letters (92 ∷ more)) first spells in
    uncut (subst IsCutOff (inside_once (quote_apart q quote) spelled moved (cut_off_stuck q left cut) (inr (refl, none)) behind).2 cut)

bad_once : (place : Place) (q c : ℕ) (bytes inside text more other letters left : List ℕ) → IsQuote q → bytes ≡ q ∷ inside ++ 92 ∷ more → Inside q inside text (92 ∷ more) → NoEscape more
    → bytes ≡ c ∷ other ++ 92 ∷ left → Inside c other letters (92 ∷ left) → NoEscape left → BadEscape (past place (q ∷ inside)) ≡ BadEscape (past place (c ∷ other))
bad_once place q c bytes inside text more other letters left quote whole spelled none same spells never =
    let both : q ∷ (inside ++ (92 ∷ more)) ≡ c ∷ (other ++ (92 ∷ left)) = sym whole ∙ same in
    let first : c ≡ q = cc in let behind : inside ++ (92 ∷ more) ≡ other ++ (92 ∷ left) = cc in
    let moved : Inside q other letters (92 ∷ left) = subst (λ (x : ℕ). Inside x other letters (92 ∷ left)) first spells in
    let fronts : inside ≡ other = (inside_once (quote_apart q quote) spelled moved (inr (refl, none)) (inr (refl, never)) behind).0 in
    ap (λ (l : List ℕ). BadEscape (past place (q ∷ l))) fronts ∙ ap (λ (x : ℕ). BadEscape (past place (x ∷ other))) (sym first)

quote_no_other : {A : Type 0} (q b : ℕ) (bytes cs bs : List ℕ) → IsQuote q → bytes ≡ q ∷ cs → bytes ≡ b ∷ bs → b ≢ 39 → b ≢ 34 → A
quote_no_other q b bytes cs bs (inl is) whole same no_atom no_text = let first : b ≡ 39 = cc in absurd (no_atom first)
quote_no_other q b bytes cs bs (inr is) whole same no_atom no_text = let first : b ≡ 34 = cc in absurd (no_text first)

pub fault_once : (place : Place) (bytes : List ℕ) (f g : ScanFault) → FaultAt place bytes f → FaultAt place bytes g → f ≡ g
fault_once place bytes f g (unknown_word w p r one _ is) (unknown_word v s t two _ js) = is ∙ sym js
fault_once place bytes f g (unknown_word w p r one _ is) (wide n bare s t two _ js) = word_no_integer w bytes p r s t n bare one two
fault_once place bytes f g (unknown_word w p r one _ is) (open_quote q inside text left quote whole _ _ js) = word_no_quote q w bytes p r (inside ++ left) quote whole one
fault_once place bytes f g (unknown_word w p r one _ is) (bad_escape q inside text more quote whole _ _ _ js) = word_no_quote q w bytes p r (inside ++ 92 ∷ more) quote whole one
fault_once place bytes f g (unknown_word w p r one _ is) (no_token b rest whole _ _ _ _ none js) = is ∙ sym js
fault_once place bytes f g (wide n bare s t two _ js) (unknown_word w p r one _ is) = word_no_integer w bytes p r s t n bare one two
fault_once place bytes f g (wide n bare p r one _ is) (wide m unbare s t two _ js) = is ∙ sym js
fault_once place bytes f g (wide n bare p r one _ is) (open_quote q inside text left quote whole _ _ js) = integer_no_quote q n bare bytes p r (inside ++ left) quote whole one
fault_once place bytes f g (wide n bare p r one _ is) (bad_escape q inside text more quote whole _ _ _ js) = integer_no_quote q n bare bytes p r (inside ++ 92 ∷ more) quote whole one
fault_once place bytes f g (wide n bare p r one _ is) (no_token b rest whole _ _ _ _ none js) = absurd (none (Integer n bare) p r one.splits one.spells)
fault_once place bytes f g (open_quote q inside text left quote whole _ _ js) (unknown_word w p r one _ is) = word_no_quote q w bytes p r (inside ++ left) quote whole one
fault_once place bytes f g (open_quote q inside text left quote whole _ _ js) (wide n bare p r one _ is) = integer_no_quote q n bare bytes p r (inside ++ left) quote whole one
fault_once place bytes f g (open_quote q inside text left quote whole _ _ is) (open_quote c other letters rest mark same _ _ js) = is ∙ sym js
fault_once place bytes f g (open_quote q inside text left quote whole spelled cut is) (bad_escape c other letters more mark same spells none uncut js) =
    absurd (open_no_bad q c bytes inside text left other letters more quote whole spelled cut same spells none uncut)
fault_once place bytes f g (open_quote q inside text left quote whole _ _ is) (no_token b rest same _ _ no_atom no_text _ js) = quote_no_other q b bytes (inside ++ left) rest quote whole same no_atom no_text
fault_once place bytes f g (bad_escape q inside text more quote whole _ _ _ js) (unknown_word w p r one _ is) = word_no_quote q w bytes p r (inside ++ 92 ∷ more) quote whole one
fault_once place bytes f g (bad_escape q inside text more quote whole _ _ _ js) (wide n bare p r one _ is) = integer_no_quote q n bare bytes p r (inside ++ 92 ∷ more) quote whole one
fault_once place bytes f g (bad_escape c other letters more mark same spells none uncut js) (open_quote q inside text left quote whole spelled cut is) =
    absurd (open_no_bad q c bytes inside text left other letters more quote whole spelled cut same spells none uncut)
fault_once place bytes f g (bad_escape q inside text more quote whole spelled none uncut is) (bad_escape c other letters left mark same spells never cut js) =
    is ∙ bad_once place q c bytes inside text more other letters left quote whole spelled none same spells never ∙ sym js
fault_once place bytes f g (bad_escape q inside text more quote whole _ _ _ is) (no_token b rest same _ _ no_atom no_text _ js) = quote_no_other q b bytes (inside ++ 92 ∷ more) rest quote whole same no_atom no_text
fault_once place bytes f g (no_token b rest whole _ _ _ _ none js) (unknown_word w p r one _ is) = js ∙ sym is
fault_once place bytes f g (no_token b rest whole _ _ _ _ none js) (wide n bare p r one _ is) = absurd (none (Integer n bare) p r one.splits one.spells)
fault_once place bytes f g (no_token b rest same _ _ no_atom no_text _ js) (open_quote q inside text left quote whole _ _ is) = quote_no_other q b bytes (inside ++ left) rest quote whole same no_atom no_text
fault_once place bytes f g (no_token b rest same _ _ no_atom no_text _ js) (bad_escape q inside text more quote whole _ _ _ is) = quote_no_other q b bytes (inside ++ 92 ∷ more) rest quote whole same no_atom no_text
fault_once place bytes f g (no_token b rest whole _ _ _ _ none is) (no_token c other same _ _ _ _ never js) = is ∙ sym js

-- ---- the laws

pub lexed_once : (place : Place) (bytes : List ℕ) (ts us : List Token) → Lexed place bytes ts → Lexed place bytes us → ts ≡ us
lexed_once place bytes ts us (end, passes) (other, goes) = (passes_once passes goes (inl refl) (inl refl)).0

pub first_once : (place : Place) (bytes : List ℕ) (f g : ScanFault) → FirstFault place bytes f → FirstFault place bytes g → f ≡ g
first_once place bytes f g (ts, end, left, passes, at) (us, other, rest, goes, stands) =
    let once : Once ts us end other left rest = passes_once passes goes (inr (f, at)) (inr (g, stands)) in
    fault_once end left f g at (subst (λ (p : Place). FaultAt p left g) (sym once.1) (subst (λ (l : List ℕ). FaultAt other l g) (sym once.2) stands))

pub never_both : (place : Place) (bytes : List ℕ) (ts : List Token) (fault : ScanFault) → Lexed place bytes ts → FirstFault place bytes fault → ⊥
never_both place bytes ts fault (end, passes) (us, other, rest, goes, stands) =
    let once : Once ts us end other [] rest = passes_once passes goes (inl refl) (inr (fault, stands)) in
    fault_some other fault (subst (λ (l : List ℕ). FaultAt other l fault) (sym once.2) stands)

-- ---- where the loop ends

pub all_lexed : (text : List ℕ) (place : Place) (rest : List ℕ) (tokens : List Token) → OnTheWay text place rest tokens → (length rest == 0) ≡ true → Lexed start text tokens
all_lexed text place [] tokens so_far none = (place, so_far.passes)
all_lexed text place (b ∷ bs) tokens so_far none = absurd (let size : suc (length bs) ≡ 0 = eq_from_test (suc (length bs)) 0 none in omega arith)

pub first_fault : (text : List ℕ) (place : Place) (rest : List ℕ) (tokens : List Token) (fault : ScanFault) → OnTheWay text place rest tokens → FaultAt place rest fault → FirstFault start text fault
first_fault text place rest tokens fault so_far at = (tokens, place, rest, so_far.passes, at)

-- what holds of each kind that is spelled and a token holds of each token
module _ (P : TokenKind → Type 0) (each : (kind : TokenKind) (piece rest : List ℕ) → Spells kind piece rest → IsToken kind → P kind) where
  pub each_token : {end : Place} {left : List ℕ} {place : Place} {bytes : List ℕ} {ts : List Token} → Passes end left place bytes ts → (k : ℕ) (d : Token) → k < length ts → P (get_or ts k d).kind
  each_token {end} {left} {place} {bytes} {ts} (here is js none) k d within = absurd (let size : length ts ≡ 0 = ap length none in omega arith)
  each_token (blank b rest whole is more) k d within = each_token more k d within
  each_token (comment line rest whole all ends more) k d within = each_token more k d within
  each_token {end} {left} {place} {bytes} {ts} (token kind piece rest others longest is adds more) k d within =
      subst (λ (l : List Token). P (get_or l k d).kind) (sym adds) (at k (let size : length ts ≡ suc (length others) = ap length adds in omega arith) (λ i. each_token more i d))
    where
      at : (i : ℕ) → i < suc (length others) → ((j : ℕ) → j < length others → P (get_or others j d).kind) → P (get_or (record { kind = kind; place = place } ∷ others) i d).kind
      at zero below rest_are = each kind piece rest longest.spells is
      at (suc i) below rest_are = rest_are i (omega arith)

pub all_tokens : (text : List ℕ) (place : Place) (rest : List ℕ) (tokens : List Token) → OnTheWay text place rest tokens → (k : ℕ) (d : Token) → k < length tokens → IsToken (get_or tokens k d).kind
all_tokens text place rest tokens so_far = each_token IsToken (λ kind piece rest spells is. is) so_far.passes
