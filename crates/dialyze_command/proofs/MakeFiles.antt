-- The files of generated modules: each is held under its own name.
use Rattle.std.proofs.Common.{◌≡◌, ◌⊎◌, inl, inr, ℕ, zero, suc, nat_eq, ◌+◌, ◌^◌, ◌<◌, ◌≤◌, true, false, List, []}
use Rattle.std.proofs.Common.{◌∷◌, length, map, get_or, add-one, refl, sym, ap, ◌∙◌, subst, Option, Some, None, arith}
use Rattle.std.specs.Prelude.{codes, cond, slice_get}
use Rattle.std.specs.Cmp.Lexicographic.{pointwise, slice_cmp, bytes_decides, texts_ties}
use Rattle.std.specs.FinMap.{empty, get, insert, get-insert}
use Rattle.std.specs.Fmt.{decimal}
use Rattle.std.specs.List.{range_with_len}
use Rattle.std.specs.Ordering.{eq_by_cmp, nat_cmp}
use Rattle.std.proofs.lemmas.Bool.{cases_lt, false_from_ne_true}
use Rattle.std.proofs.lemmas.Cmp.{nat_list_cmp_total}
use Rattle.std.proofs.lemmas.List.{append_cancel_right}
use Rattle.std.proofs.lemmas.List.FromFn.{length-map-range_with_len, get_or-map-range_with_len}
use Rattle.std.proofs.lemmas.Option.{slice_get_within, slice_get-get_or}
use Rattle.core_make.specs.Modules.{module_text, generated}
use Rattle.da_shelf.specs.Told.{Files, replaced}
use Rattle.table_keep.specs.Model.{Source}
use Rattle.analysis_sources.proofs.FilesRead.{read_length}
use Rattle.analysis_sources.specs.Reading.{AreHeld, IsMissingAt}
use Rattle.analysis_answers.specs.ReadFiles.{ReadsAll}
use Rattle.dialyze_command.specs.Making.{file_name, file_names, files_with, generated_files, with_first}
use Rattle.analysis_answers.proofs.PrintedNumbers.{decimal_once}

-- ---- names

abbrev behind : List ℕ → List ℕ
behind [] = []
behind (b ∷ bs) = bs

pub file_name_once : (i j : ℕ) → i < 2 ^ 64 → j < 2 ^ 64 → file_name i ≡ file_name j → i ≡ j
file_name_once i j few also e = decimal_once i j few also (append_cancel_right (decimal i) (decimal j) (codes ".core") (ap behind e))

same_name : (q : List ℕ) → eq_by_cmp (slice_cmp nat_cmp) q q ≡ true
same_name q = sym (texts_ties q q) ∙ (bytes_decides q q).1 refl

other_name : (q k : List ℕ) → (q ≡ k → ⊥) → eq_by_cmp (slice_cmp nat_cmp) q k ≡ false
other_name q k h = sym (texts_ties q k) ∙ false_from_ne_true (pointwise nat_eq q k) (λ e. h ((bytes_decides q k).0 e))

-- ---- what is held

pub held_file : (n k i : ℕ) → k < 2 ^ 64 → i < k → get (files_with n k empty) (file_name i) ≡ Some (module_text n i)
held_file n zero i few h = absurd (omega (arith, h))
held_file n (suc k) i few h = by (λ below. held_file n k i (omega (arith, few)) below) (cases_lt i k)
  where
    before : Files
    before = files_with n k empty

    step : (q : List ℕ) → get (insert before (file_name k) (module_text n k)) q ≡ cond (eq_by_cmp (slice_cmp nat_cmp) q (file_name k)) (Some (module_text n k)) (get before q)
    step q = get-insert nat_list_cmp_total before (file_name k) (module_text n k) q

    last : get (insert before (file_name k) (module_text n k)) (file_name k) ≡ Some (module_text n k)
    last = step (file_name k) ∙ ap (λ b. cond b (Some (module_text n k)) (get before (file_name k))) (same_name (file_name k))

    by : (i < k → get before (file_name i) ≡ Some (module_text n i)) → (i < k) ⊎ (k ≤ i) → get (insert before (file_name k) (module_text n k)) (file_name i) ≡ Some (module_text n i)
    by earlier (inl below) =
        step (file_name i)
        ∙ ap (λ b. cond b (Some (module_text n k)) (get before (file_name i)))
        (other_name (file_name i) (file_name k) (λ e. let same = file_name_once i k (omega (arith, few, below)) (omega (arith, few)) e in absurd (omega (arith, same, below))))
        ∙ earlier below
    by earlier (inr above) =
        let same : k ≡ i = omega (arith, above, h) in
        subst (λ j. get (insert before (file_name k) (module_text n k)) (file_name j) ≡ Some (module_text n j)) same last

all_held : (n a k : ℕ) → n < 2 ^ 64 → a + k ≤ n → AreHeld (Some (generated_files n)) (map file_name (range_with_len a k)) (map (module_text n) (range_with_len a k))
all_held n a zero few h = tt
all_held n a (suc k) few h = (held_file n n a few (omega (arith, h)), all_held n (a + 1) k few (omega (arith, h)))

pub generated_held : (n : ℕ) → n < 2 ^ 64 → AreHeld (Some (generated_files n)) (file_names n) (generated n)
generated_held n few = all_held n 0 n few (omega arith)

-- ---- numbers

pub file_at : (n at : ℕ) → at < n → slice_get (file_names n) at ≡ Some (file_name at)
file_at n at h =
    slice_get-get_or (file_names n) at [] (omega (arith, h, length-map-range_with_len file_name 0 n))
    ∙ ap Some (get_or-map-range_with_len file_name 0 n at at [] h (omega arith))

pub number_within : (n at : ℕ) (file : List ℕ) → slice_get (file_names n) at ≡ Some file → at < n
number_within n at file there = omega (arith, slice_get_within (file_names n) at file there, length-map-range_with_len file_name 0 n)

-- as many sources as files
pub made_length : (n : ℕ) (sources : List Source) → ReadsAll (Some (generated_files n)) (file_names n) sources → length sources ≡ n
made_length n sources h =
    sym (read_length (Some (generated_files n)) 0 (file_names n) sources h.after h.read) ∙ length-map-range_with_len file_name 0 n

some_not_none : (x : List ℕ) (o : Option (List ℕ)) → o ≡ Some x → o ≡ None → ⊥
some_not_none x o e f = let k = sym e ∙ f in absurd cc

pub some_same : {x y : List ℕ} → Some x ≡ Some y → x ≡ y
some_same e = cc

-- each generated file is held
pub never_missing : (n at : ℕ) → n < 2 ^ 64 → IsMissingAt (Some (generated_files n)) (file_names n) at → ⊥
never_missing n at few h =
    let within = number_within n at h.file h.reached.there in
    let called : file_name at ≡ h.file = some_same (sym (file_at n at within) ∙ h.reached.there) in
    some_not_none (module_text n at) (get (generated_files n) h.file) (ap (get (generated_files n)) (sym called) ∙ held_file n n at few within) h.absent

-- ---- files that are put one after another

one_more : (n k : ℕ) (told : Option Files) → replaced (with_first n k told) (file_name k) (module_text n k) ≡ with_first n (suc k) told
one_more n k None = refl
one_more n k (Some held) = refl

pub put_more : (n k : ℕ) (told mid after : Option Files) (text : List ℕ) → mid ≡ with_first n k told → text ≡ module_text n k → after ≡ replaced mid (file_name k) text → after ≡ with_first n (k + 1) told
put_more n k told mid after text before is h =
    subst (λ j. after ≡ with_first n j told) (sym (add-one k))
    (h ∙ ap (λ t. replaced t (file_name k) text) before ∙ ap (replaced (with_first n k told) (file_name k)) is ∙ one_more n k told)

-- as many texts as modules
pub texts_many : (n : ℕ) (texts : List (List ℕ)) → texts ≡ generated n → length texts ≡ n
texts_many n texts is = ap length is ∙ length-map-range_with_len (module_text n) 0 n

-- the text at a place
pub text_at : (n i : ℕ) (texts : List (List ℕ)) (d : List ℕ) → texts ≡ generated n → i < n → get_or texts i d ≡ module_text n i
text_at n i texts d is h = ap (λ ts. get_or ts i d) is ∙ get_or-map-range_with_len (module_text n) 0 n i i d h (omega arith)
