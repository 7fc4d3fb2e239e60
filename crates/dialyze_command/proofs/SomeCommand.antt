-- Whether words are a command is decided.
use Rattle.std.proofs.Common.{◌≡◌, ◌⊎◌, inl, inr, ℕ, suc, nat_eq, ◌<◌, ◌≤◌, Bool, true, false, List, [], ◌∷◌, length, drop, refl, sym, ap, ap₂, ◌∙◌, subst, arith, true≢false}
use Rattle.std.specs.Prelude.{codes, Option, Some, None}
use Rattle.std.specs.Fmt.{decimal}
use Rattle.std.specs.Cmp.Lexicographic.{pointwise, bytes_decides}
use Rattle.std.proofs.lemmas.Bool.{cases_eq}
use Rattle.components.proofs.Bounded.{Decided, both, is_low, least}
use Rattle.dialyze_command.specs.declared.words.Command.{Command}
use Rattle.dialyze_command.specs.declared.words.OptionName.{OptionName}
use Rattle.dialyze_command.specs.declared.words.OptionName.TheVariants.{Plt, Out, Workers}
use Rattle.dialyze_command.specs.Words.{AreFiles, Adds, IsFile, option_word, plain, IsCheck, IsMake, IsNoCheck, IsNoMake, most_modules, most_workers}
use Rattle.dialyze_command.specs.steps.Options.{HasNoOptions, EndsOptions, IsNoOption, AddsNothing}
use Rattle.dialyze_command.proofs.WordExits.{not_first, first_more, first_none, first_bad, first_lone, not_split, a_check, no_files}

-- ---- words

pub same_text : (x y : List ℕ) → Decided (x ≡ y)
same_text x y = by (pointwise nat_eq x y) refl
  where
    by : (b : Bool) → pointwise nat_eq x y ≡ b → Decided (x ≡ y)
    by true e = inl ((bytes_decides x y).0 e)
    by false e = inr (λ h. true≢false (sym ((bytes_decides x y).1 h) ∙ e))

is_none : (o : Option ℕ) → Decided (o ≡ None)
is_none None = inl refl
is_none (Some n) = inr (λ e. absurd cc)

is_file : (w : List ℕ) → Decided (IsFile w)
is_file [] = inr (λ h. h)
is_file (b ∷ bs) = elim (cases_eq b 45) [ inl e ↦ inr (λ h. h e) | inr h ↦ inl h ]

are_files : (ws : List (List ℕ)) → Decided (AreFiles ws)
are_files [] = inl tt
are_files (w ∷ ws) = both (is_file w) (are_files ws)

-- the word is a number from 1 to the bound, as it is printed
abbrev Printed : ℕ → List ℕ → Type 0
Printed bound value = (n : ℕ) × (value ≡ decimal n) × (1 ≤ n) × (n ≤ bound)

printed : (bound : ℕ) (value : List ℕ) → Decided (Printed bound value)
printed bound value = elim (least (λ n. (value ≡ decimal n) × (0 < n)) (λ n. both (same_text value (decimal n)) (is_low 0 n)) (suc bound)) [
  | inl h ↦ inl (h.0, h.1.1.0, omega (arith, h.1.1.1), omega (arith, h.1.0))
  | inr none ↦ inr (λ h. none h.0 (omega (arith, h.3)) (h.1, omega (arith, h.2)))
]

-- ---- options

named_option : (w : List ℕ) → ((o : OptionName) × (w ≡ option_word o)) ⊎ IsNoOption w
named_option w = by (same_text w (option_word Plt)) (same_text w (option_word Out)) (same_text w (option_word Workers))
  where
    by : Decided (w ≡ option_word Plt) → Decided (w ≡ option_word Out) → Decided (w ≡ option_word Workers) → ((o : OptionName) × (w ≡ option_word o)) ⊎ IsNoOption w
    by (inl e) g h = inl (Plt, e)
    by (inr e) (inl g) h = inl (Out, g)
    by (inr e) (inr g) (inl h) = inl (Workers, h)
    by (inr e) (inr g) (inr h) = inr none
      where
        none : IsNoOption w
        none Plt = e
        none Out = g
        none Workers = h

abbrev SomeAdds : OptionName → List ℕ → Command → Type 0
SomeAdds o value before = ((next : Command) × Adds o value before next) ⊎ AddsNothing o value before

adds : (o : OptionName) (value : List ℕ) (before : Command) → SomeAdds o value before
adds Plt value before = elim (both (is_none before.plt) (is_file value)) [ inl h ↦ inl (_, (h.0, h.1, refl)) | inr h ↦ inr (λ now k. h (k.0, k.1)) ]
adds Out value before = elim (both (is_none before.out) (is_file value)) [ inl h ↦ inl (_, (h.0, h.1, refl)) | inr h ↦ inr (λ now k. h (k.0, k.1)) ]
adds Workers value before =
    elim (both (is_none before.workers) (printed most_workers value)) [
      | inl h ↦ inl (_, (h.0, (h.1.0, h.1.1, h.1.2, h.1.3, refl)))
      | inr h ↦ inr (λ now k. h (k.0, (k.1.0, k.1.1, k.1.2, k.1.3)))
    ]

abbrev OptionsEnd : List (List ℕ) → Command → Type 0
OptionsEnd ws before = ((now : Command) × EndsOptions ws before now) ⊎ HasNoOptions ws before

behind_option : (o : OptionName) (value : List ℕ) (rest : List (List ℕ)) (before next : Command) → Adds o value before next → OptionsEnd rest next → OptionsEnd (option_word o ∷ value ∷ rest) before
behind_option o value rest before next added (inl h) = inl (h.0, first_more o value rest before next h.0 added h.1)
behind_option o value rest before next added (inr h) = inr (first_none o value rest before next added h)

at_option : (o : OptionName) (value : List ℕ) (rest : List (List ℕ)) (before : Command) → ((next : Command) → OptionsEnd rest next) → SomeAdds o value before → OptionsEnd (option_word o ∷ value ∷ rest) before
at_option o value rest before ends (inl h) = behind_option o value rest before h.0 h.1 (ends h.0)
at_option o value rest before ends (inr h) = inr (first_bad o value rest before h)

abbrev first_of : List (List ℕ) → List ℕ
first_of [] = []
first_of (w ∷ ws) = w

no_option : (w : List ℕ) (ws : List (List ℕ)) (before : Command) → IsNoOption w → OptionsEnd (w ∷ ws) before
no_option w ws before none = inl (before, not_first (w ∷ ws) before (λ v rest e. subst IsNoOption (ap first_of e) none))

options_end : (ws : List (List ℕ)) (before : Command) → OptionsEnd ws before
options_end [] before = inl (before, not_first [] before (λ v rest e. absurd cc))
options_end (w ∷ []) before = elim (named_option w) [
  | inl h ↦ inr (subst (λ v. HasNoOptions (v ∷ []) before) (sym h.1) (first_lone h.0 before))
  | inr h ↦ no_option w [] before h
]
options_end (w ∷ value ∷ rest) before = elim (named_option w) [
  | inl h ↦ subst (λ v. OptionsEnd (v ∷ value ∷ rest) before) (sym h.1) (at_option h.0 value rest before (λ next. options_end rest next) (adds h.0 value before))
  | inr h ↦ no_option w (value ∷ rest) before h
]

-- ---- a check

-- the words ask for a check of all words from one on, or for none
abbrev pub CheckDecided : List (List ℕ) → Type 0
CheckDecided words = ((c : Command) × IsCheck words c (drop c.start words)) ⊎ IsNoCheck words

with_files : (asked : List (List ℕ)) (now : Command) → EndsOptions asked plain now → (fs : List (List ℕ)) → drop now.start (codes "check" ∷ asked) ≡ fs → Decided (AreFiles fs) → CheckDecided (codes "check" ∷ asked)
with_files asked now ends [] e d = inr (no_files asked now ends (λ some are. some e))
with_files asked now ends (f ∷ fs) e (inl are) = inl (now, a_check asked now ends (λ none. let k = sym e ∙ none in absurd cc) (subst AreFiles (sym e) are))
with_files asked now ends (f ∷ fs) e (inr not) = inr (no_files asked now ends (λ some are. not (subst AreFiles e are)))

check_behind : (asked : List (List ℕ)) → OptionsEnd asked plain → CheckDecided (codes "check" ∷ asked)
check_behind asked (inl h) = with_files asked h.0 h.1 (drop h.0.start (codes "check" ∷ asked)) refl (are_files (drop h.0.start (codes "check" ∷ asked)))
check_behind asked (inr h) = inr (not_split asked h)

pub check_decided : (words : List (List ℕ)) → CheckDecided words
check_decided [] = inr (λ h. let e = h.2.spelled in absurd cc)
check_decided (w ∷ asked) = elim (same_text w (codes "check")) [
  | inl e ↦ subst (λ v. CheckDecided (v ∷ asked)) (sym e) (check_behind asked (options_end asked plain))
  | inr other ↦ inr (λ h. other (ap first_of h.2.spelled))
]

-- ---- generated modules

abbrev second_of : List (List ℕ) → List ℕ
second_of [] = []
second_of (w ∷ ws) = first_of ws

pub make_decided : (words : List (List ℕ)) → ((count : ℕ) × IsMake words count) ⊎ IsNoMake words
make_decided [] = inr (λ n h. let e = h.spelled in absurd cc)
make_decided (w ∷ []) = inr (λ n h. let e : 1 ≡ 2 = ap (λ l. length l) h.spelled in absurd (omega (arith, e)))
make_decided (w ∷ v ∷ u ∷ ws) = inr (λ n h. let e = ap (λ l. length l) h.spelled in absurd (omega (arith, e)))
make_decided (w ∷ v ∷ []) = elim (both (same_text w (codes "make")) (printed most_modules v)) [
  | inl h ↦ inl (h.1.0, record { spelled = ap₂ (λ x y. x ∷ y ∷ []) h.0 h.1.1; least = h.1.2; most = h.1.3 })
  | inr none ↦ inr (λ n h. none (ap first_of h.spelled, (n, ap second_of h.spelled, h.least, h.most)))
]
