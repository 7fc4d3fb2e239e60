-- Callees in chains ascend.
use Rattle.std.proofs.Common.{◌≡◌, ℕ, zero, suc, ◌+◌, ◌<◌, List, [], ◌∷◌, ◌++◌, length, get_or, ap, sym, ◌∙◌, subst, length-append, arith}
use Rattle.std.proofs.lemmas.List.Elements.{All-nil, All-cons}
use Rattle.summary_board.specs.Ascending.{AscendsBelow}

pub nothing_ascends : (top : ℕ) → AscendsBelow top []
nothing_ascends top = ((λ i j d before within. absurd (omega (arith, within))), All-nil (λ x. x < top))

pub one_ascends : (top x : ℕ) → x < top → AscendsBelow top (x ∷ [])
one_ascends top x below = ((λ i j d before within. absurd (omega (arith, before, within))), All-cons (λ y. y < top) x [] below (All-nil (λ y. y < top)))

-- what holds of each list holds with one list more
pub each_more : (P : ℕ → List ℕ → Type 0) (xss : List (List ℕ)) (xs : List ℕ)
    → ((k : ℕ) → k < length xss → P k (get_or xss k [])) → P (length xss) xs
    → (k : ℕ) → k < length xss + 1 → P k (get_or (xss ++ xs ∷ []) k [])
each_more P [] xs each last zero within = last
each_more P [] xs each last (suc k) within = absurd (omega (arith, within))
each_more P (ys ∷ xss) xs each last zero within = each zero (omega arith)
each_more P (ys ∷ xss) xs each last (suc k) within = each_more (λ j. P (suc j)) xss xs (λ j less. each (suc j) (omega (arith, less))) last k (omega (arith, within))

abbrev Chained : ℕ → List (List ℕ) → Type 0
Chained n callees = (k : ℕ) → k < n → AscendsBelow k (get_or callees k [])

pub chained_more : (n : ℕ) (callees new : List (List ℕ)) (list : List ℕ) → length callees ≡ n → Chained n callees → AscendsBelow n list → new ≡ callees ++ list ∷ []
    → Chained (n + 1) new
chained_more n callees new list long each last is k less =
    let Q : List (List ℕ) → Type 0 = λ xss. AscendsBelow k (get_or xss k []) in
    let L : ℕ → Type 0 = λ m. AscendsBelow m list in
    subst Q (sym is) (each_more AscendsBelow callees list (λ j below. each j (omega (arith, long, below))) (subst L (sym long) last) k (omega (arith, long, less)))

pub one_longer : {X : Type 0} (n : ℕ) (xs new : List X) (x : X) → length xs ≡ n → new ≡ xs ++ x ∷ [] → length new ≡ n + 1
one_longer n xs new x long is = ap length is ∙ omega (arith, long, length-append xs (x ∷ []))
