-- Words are one command, and its words are not many.
use Rattle.std.proofs.Common.{◌≡◌, ℕ, ◌+◌, ◌≤◌, List, [], ◌∷◌, length, drop, get_or, Some, refl, sym, ap, ◌∙◌, arith}
use Rattle.std.specs.Prelude.{slice_get}
use Rattle.analysis_answers.specs.Words.{IsCommand as AreSomeFiles}
use Rattle.table_verify_command.specs.Words.{IsMake, IsCheck, IsCommand, to_make, to_check, IsNoCommand, NamesTooMany, Makes, Checks}

-- ---- one command

pub one_make : {words fs gs : List (List ℕ)} {c d : List ℕ} → IsMake words c fs → IsMake words d gs → (c ≡ d) × (fs ≡ gs)
one_make h k = let e = sym h.spelled ∙ k.spelled in (ap (λ ws. get_or ws 1 []) e, ap (drop 2) e)

pub one_check : {words fs gs : List (List ℕ)} {t u c d : List ℕ} → IsCheck words t c fs → IsCheck words u d gs → (t ≡ u) × (c ≡ d) × (fs ≡ gs)
one_check h k = let e = sym h.spelled ∙ k.spelled in (ap (λ ws. get_or ws 1 []) e, ap (λ ws. get_or ws 2 []) e, ap (drop 3) e)

pub not_both : {words fs gs : List (List ℕ)} {t c d : List ℕ} → IsMake words c fs → IsCheck words t d gs → ⊥
not_both h k = let e : 109 ≡ 99 = ap (λ ws. get_or (get_or ws 0 []) 0 0) (sym h.spelled ∙ k.spelled) in absurd (omega (arith, e))

pub one_command : {words fs gs : List (List ℕ)} {i j : ℕ} → IsCommand words i fs → IsCommand words j gs → (i ≡ j) × (fs ≡ gs)
one_command (to_make c a h) (to_make d b k) = (a ∙ sym b, (one_make h k).1)
one_command (to_make c a h) (to_check t d b k) = absurd (not_both h k)
one_command (to_check t c a h) (to_make d b k) = absurd (not_both k h)
one_command (to_check t c a h) (to_check u d b k) = (a ∙ sym b, (one_check h k).2)

pub many_make : {words fs : List (List ℕ)} {c : List ℕ} → NamesTooMany words → Makes words c fs → ⊥
many_make {c = c} h k =
    let same = ap length (one_command h.command (to_make c refl k.make)).1 in
    let many = h.many in
    let few = k.few in
    absurd (omega arith)

pub many_check : {words fs : List (List ℕ)} {t c : List ℕ} → NamesTooMany words → Checks words t c fs → ⊥
many_check {t = t} {c = c} h k =
    let same = ap length (one_command h.command (to_check t c refl k.check)).1 in
    let many = h.many in
    let few = k.few in
    absurd (omega arith)

pub no_make : {words fs : List (List ℕ)} {c : List ℕ} → IsNoCommand words → Makes words c fs → ⊥
no_make {fs = fs} {c = c} none h = none 2 fs (to_make c refl h.make)

pub no_check : {words fs : List (List ℕ)} {t c : List ℕ} → IsNoCommand words → Checks words t c fs → ⊥
no_check {fs = fs} {t = t} {c = c} none h = none 3 fs (to_check t c refl h.check)

-- ---- where the words are

some_files : (fs : List (List ℕ)) → AreSomeFiles fs → 1 ≤ length fs
some_files [] h = absurd (h.some refl)
some_files (f ∷ fs) h = omega arith

pub make_files : {words fs : List (List ℕ)} {c : List ℕ} → IsMake words c fs → (drop 2 words ≡ fs) × (length words ≡ 2 + length fs) × (1 ≤ length fs)
make_files {fs = fs} h = (ap (drop 2) h.spelled, (let e = ap length h.spelled in omega arith), some_files fs h.files_named)

pub check_files : {words fs : List (List ℕ)} {t c : List ℕ} → IsCheck words t c fs → (drop 3 words ≡ fs) × (length words ≡ 3 + length fs) × (1 ≤ length fs)
check_files {fs = fs} h = (ap (drop 3) h.spelled, (let e = ap length h.spelled in omega arith), some_files fs h.files_named)

pub make_name : {words fs : List (List ℕ)} {c : List ℕ} → IsMake words c fs → slice_get words 1 ≡ Some c
make_name h = ap (λ ws. slice_get ws 1) h.spelled

pub check_table : {words fs : List (List ℕ)} {t c : List ℕ} → IsCheck words t c fs → slice_get words 1 ≡ Some t
check_table h = ap (λ ws. slice_get ws 1) h.spelled

pub check_name : {words fs : List (List ℕ)} {t c : List ℕ} → IsCheck words t c fs → slice_get words 2 ≡ Some c
check_name h = ap (λ ws. slice_get ws 2) h.spelled
