-- What is written between quotes.
use Rattle.std.proofs.Common.{◌≡◌, ◌≢◌, ℕ, suc, ◌+◌, List, [], ◌∷◌, ◌++◌, length, take, drop, refl, sym, ap, ◌∙◌, subst, inl, inr, arith, Some, None, append_assoc}
use Rattle.std.proofs.lemmas.List.{take-append-drop, append_cancel_left, drop-drop, append-nil}
use Rattle.core_scan.proofs.RunLemmas.{same_front, take-add}
use Rattle.core_scan.specs.declared.escapes.Escaped.{Escaped}
use Rattle.core_scan.specs.Escapes.{Escape, Inside, nothing, plain, escaped}
use Rattle.core_scan.specs.steps.Fronts.{IsStuck, escape_of}
use Rattle.core_scan.proofs.EscapeLemmas.{escape_found, escape_once, no_escape}

-- ---- one after another

pub Inside-append : {q : ℕ} {a t z : List ℕ} (b u r : List ℕ) → z ≡ b ++ r → Inside q a t z → Inside q b u r → Inside q (a ++ b) (t ++ u) r
Inside-append {q} {a} {t} {z} b u r joined (nothing is says) more = rw (is, says) more
Inside-append {q} {a} {t} {z} b u r joined (plain x rest letters apart no_backslash is says before) more =
    plain x (rest ++ b) (letters ++ u) apart no_backslash (ap (λ (l : List ℕ). l ++ b) is) (ap (λ (l : List ℕ). l ++ u) says) (Inside-append b u r joined before more)
Inside-append {q} {a} {t} {z} b u r joined (escaped e rest letters v escape is says before) more =
    escaped e (rest ++ b) (letters ++ u) v (subst (λ (l : List ℕ). Escape e v l) (ap (λ (l : List ℕ). rest ++ l) joined ∙ sym (append_assoc rest b r)) escape)
    (ap (λ (l : List ℕ). l ++ b) is ∙ ap (λ (l : List ℕ). 92 ∷ l) (append_assoc e rest b)) (ap (λ (l : List ℕ). l ++ u) says) (Inside-append b u r joined before more)

-- after `len` bytes `more` further ones
pub inside_further : (q : ℕ) (bytes text : List ℕ) (len more v : ℕ) → Inside q (take len bytes) text (drop len bytes) → Inside q (take more (drop len bytes)) (v ∷ []) (drop more (drop len bytes))
    → Inside q (take (len + more) bytes) (text ++ v ∷ []) (drop (len + more) bytes)
inside_further q bytes text len more v before next =
    let behind : drop more (drop len bytes) ≡ drop (len + more) bytes = drop-drop more len bytes in
    let front : take (len + more) bytes ≡ take len bytes ++ take more (drop len bytes) = take-add len more bytes in
    let whole : take more (drop len bytes) ++ drop more (drop len bytes) ≡ drop len bytes = take-append-drop more (drop len bytes) in
    rw (front, ← behind) (Inside-append (take more (drop len bytes)) (v ∷ []) (drop more (drop len bytes)) (sym whole) before next)

-- ---- one step of the scanner

pub plain_step : (q b : ℕ) (bytes rest : List ℕ) → bytes ≡ b ∷ rest → b ≢ q → b ≢ 92 → Inside q (take 1 bytes) (b ∷ []) (drop 1 bytes)
plain_step q b bytes rest whole apart no_backslash = rw whole (plain b [] [] apart no_backslash refl refl (nothing refl refl))

pub escape_step : (q b : ℕ) (bytes rest : List ℕ) (e : Escaped) → bytes ≡ b ∷ rest → b ≡ 92 → escape_of rest ≡ Some e → Inside q (take (1 + e.len) bytes) (e.value ∷ []) (drop (1 + e.len) bytes)
escape_step q b bytes rest e whole is found =
    let next : 1 + e.len ≡ suc e.len = omega arith in
    rw (next, whole, is) (escaped {piece = 92 ∷ take e.len rest} (take e.len rest) [] [] e.value (escape_found rest e found).0 (ap (λ (l : List ℕ). 92 ∷ l) (sym (append-nil (take e.len rest)))) refl (nothing refl refl))

pub stuck_backslash : (q b : ℕ) (bytes rest : List ℕ) → bytes ≡ b ∷ rest → b ≡ 92 → escape_of rest ≡ None → IsStuck q bytes
stuck_backslash q b bytes rest whole is none = rw whole (inr (is, no_escape rest none))

-- ---- at most one text is between quotes

stuck_plain : {A : Type 0} (q b : ℕ) (r rest : List ℕ) → IsStuck q r → r ≡ b ∷ rest → b ≢ q → b ≢ 92 → A
stuck_plain q b [] rest stuck is apart no_backslash = cc
stuck_plain q b (x ∷ xs) rest (inl e) is apart no_backslash = let same : b ≡ q = cc in absurd (apart same)
stuck_plain q b (x ∷ xs) rest (inr e) is apart no_backslash = let first : x ≡ 92 = e.0 in let same : b ≡ 92 = cc in absurd (no_backslash same)

stuck_escape : {A : Type 0} (q v : ℕ) (r e rest : List ℕ) → q ≢ 92 → IsStuck q r → r ≡ 92 ∷ e ++ rest → Escape e v rest → A
stuck_escape q v [] e rest quote stuck is escape = cc
stuck_escape q v (x ∷ xs) e rest quote (inl s) is escape = let same : q ≡ 92 = cc in absurd (quote same)
stuck_escape q v (x ∷ xs) e rest quote (inr s) is escape = let same : xs ≡ e ++ rest = cc in absurd (s.1 e rest v same escape)

pub inside_once : {q : ℕ} {a b t u x y : List ℕ} → q ≢ 92 → Inside q a t x → Inside q b u y → IsStuck q x → IsStuck q y → a ++ x ≡ b ++ y → (a ≡ b) × (t ≡ u) × (x ≡ y)
inside_once {q} {a} {b} {t} {u} {x} {y} quote (nothing is says) (nothing js tells) stuck halted same =
    let e : a ≡ b = cc in (e, cc, rw (is, js) at same)
inside_once {q} {a} {b} {t} {u} {x} {y} quote (nothing is says) (plain c rest letters apart no_backslash js tells more) stuck halted same =
    stuck_plain q c x (rest ++ y) stuck (rw (is, js) at same) apart no_backslash
inside_once {q} {a} {b} {t} {u} {x} {y} quote (nothing is says) (escaped e rest letters v escape js tells more) stuck halted same =
    stuck_escape q v x e (rest ++ y) quote stuck ((rw (is, js) at same) ∙ ap (λ (l : List ℕ). 92 ∷ l) (append_assoc e rest y)) escape
inside_once {q} {a} {b} {t} {u} {x} {y} quote (plain c rest letters apart no_backslash is says more) (nothing js tells) stuck halted same =
    stuck_plain q c y (rest ++ x) halted (sym (rw (is, js) at same)) apart no_backslash
inside_once {q} {a} {b} {t} {u} {x} {y} quote (escaped e rest letters v escape is says more) (nothing js tells) stuck halted same =
    stuck_escape q v y e (rest ++ x) quote halted (sym (rw (is, js) at same) ∙ ap (λ (l : List ℕ). 92 ∷ l) (append_assoc e rest x)) escape
inside_once {q} {a} {b} {t} {u} {x} {y} quote (plain c rest letters apart no_backslash is says more) (plain d others marks bpart backslash js tells further) stuck halted same =
    let whole : c ∷ (rest ++ x) ≡ d ∷ (others ++ y) = rw (is, js) at same in
    let first : c ≡ d = cc in let behind : rest ++ x ≡ others ++ y = cc in
    go first (inside_once quote more further stuck halted behind)
  where
    go : c ≡ d → (rest ≡ others) × (letters ≡ marks) × (x ≡ y) → (a ≡ b) × (t ≡ u) × (x ≡ y)
    go first (l, m, n) = (cc, cc, n)
inside_once {q} {a} {b} {t} {u} {x} {y} quote (plain c rest letters apart no_backslash is says more) (escaped e others marks v escape js tells further) stuck halted same =
    let whole : c ∷ (rest ++ x) ≡ 92 ∷ ((e ++ others) ++ y) = rw (is, js) at same in
    let first : c ≡ 92 = cc in absurd (no_backslash first)
inside_once {q} {a} {b} {t} {u} {x} {y} quote (escaped e rest letters v escape is says more) (plain d others marks bpart backslash js tells further) stuck halted same =
    let whole : 92 ∷ ((e ++ rest) ++ x) ≡ d ∷ (others ++ y) = rw (is, js) at same in
    let first : d ≡ 92 = cc in absurd (backslash first)
inside_once {q} {a} {b} {t} {u} {x} {y} quote (escaped e rest letters v escape is says more) (escaped f others marks w scape js tells further) stuck halted same =
    let whole : 92 ∷ ((e ++ rest) ++ x) ≡ 92 ∷ ((f ++ others) ++ y) = rw (is, js) at same in
    let opened : (e ++ rest) ++ x ≡ (f ++ others) ++ y = cc in
    let joined : e ++ (rest ++ x) ≡ f ++ (others ++ y) = sym (append_assoc e rest x) ∙ opened ∙ append_assoc f others y in
    let once : (v ≡ w) × (length e ≡ length f) = escape_once e f (rest ++ x) (others ++ y) v w escape scape joined in
    let front : e ≡ f = same_front e f (rest ++ x) (others ++ y) joined once.1 in
    let behind : rest ++ x ≡ others ++ y = append_cancel_left e (rest ++ x) (others ++ y) (joined ∙ ap (λ (l : List ℕ). l ++ (others ++ y)) (sym front)) in
    go once.0 front (inside_once quote more further stuck halted behind)
  where
    go : v ≡ w → e ≡ f → (rest ≡ others) × (letters ≡ marks) × (x ≡ y) → (a ≡ b) × (t ≡ u) × (x ≡ y)
    go first front (l, m, n) = (cc, cc, n)
