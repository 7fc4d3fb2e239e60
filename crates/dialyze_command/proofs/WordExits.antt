-- Which words are a command.
use Rattle.std.proofs.Common.{◌≡◌, ◌≢◌, ◌↔◌, ℕ, nat_eq, zero, suc, ◌+◌, ◌-◌, ◌<◌, ◌≤◌, Bool, false, true, List, []}
use Rattle.std.proofs.Common.{◌∷◌, ◌++◌, length, drop, take, get_or, refl, sym, ap, ap₂, ◌∙◌, subst, arith, true≢false}
use Rattle.std.specs.Prelude.{IsTrue, codes, not, Option, Some, None, MatchOption}
use Rattle.std.specs.Fmt.{decimal}
use Rattle.std.proofs.lemmas.Bool.{not-false}
use Rattle.std.specs.Cmp.Lexicographic.{pointwise, bytes_decides}
use Rattle.std.specs.Borrow.{Bor}
use Rattle.analysis_sources.proofs.FilesRead.{texts_from}
use Rattle.analysis_sources.specs.Words.{texts}
use Rattle.dialyze_command.specs.declared.words.Command.{Command}
use Rattle.dialyze_command.specs.declared.words.OptionName.{OptionName}
use Rattle.dialyze_command.specs.declared.words.OptionName.TheVariants.{Plt, Out, Workers}
use Rattle.analysis_answers.proofs.PrintedNumbers.{decimal_once}
use Rattle.dialyze_command.specs.Words.{AreFiles, AreOptions, no_more, one_more, Adds, IsFile, option_word, plain, IsCheck, IsMake, IsNoCheck, IsNoMake, most_modules}
use Rattle.dialyze_command.specs.steps.Options.{Splits, HasNoOptions, EndsOptions, IsNoOption, AddsNothing}

-- ---- options

abbrev rest_words : List (List ℕ) → List (List ℕ)
rest_words [] = []
rest_words (x ∷ xs) = xs

abbrev first_word : List (List ℕ) → List ℕ
first_word [] = []
first_word (x ∷ xs) = x

-- an option's name is no file
no_file : (option : OptionName) → IsFile (option_word option) → ⊥
no_file Plt h = h refl
no_file Out h = h refl
no_file Workers h = h refl

-- an option is told by its name
one_option : (o p : OptionName) → option_word o ≡ option_word p → o ≡ p
one_option Plt Plt e = refl
one_option Plt Out e = let k : 112 ≡ 111 = ap (λ w. get_or w 2 0) e in absurd (omega (arith, k))
one_option Plt Workers e = let k : 112 ≡ 119 = ap (λ w. get_or w 2 0) e in absurd (omega (arith, k))
one_option Out Plt e = let k : 111 ≡ 112 = ap (λ w. get_or w 2 0) e in absurd (omega (arith, k))
one_option Out Out e = refl
one_option Out Workers e = let k : 111 ≡ 119 = ap (λ w. get_or w 2 0) e in absurd (omega (arith, k))
one_option Workers Plt e = let k : 119 ≡ 112 = ap (λ w. get_or w 2 0) e in absurd (omega (arith, k))
one_option Workers Out e = let k : 119 ≡ 111 = ap (λ w. get_or w 2 0) e in absurd (omega (arith, k))
one_option Workers Workers e = refl

-- an option and its value have one meaning
pub adds_one : (o : OptionName) (value : List ℕ) (before now then : Command) → Adds o value before now → Adds o value before then → now ≡ then
adds_one Plt value before now then h k = h.2 ∙ sym k.2
adds_one Out value before now then h k = h.2 ∙ sym k.2
adds_one Workers value before now then h k =
    let same = decimal_once h.1.0 k.1.0 (omega (arith, h.1.3)) (omega (arith, k.1.3)) (sym h.1.1 ∙ k.1.1) in
    h.1.4 ∙ ap (λ n. record before { workers = Some n; start = before.start + 2 }) same ∙ sym k.1.4

-- what options are that stand where a word names an option
record Opened (o : OptionName) (tail options files : List (List ℕ)) (before now : Command) : Type 0 where
  pub value : List ℕ
  pub more : List (List ℕ)
  pub next : Command
  pub is : options ≡ option_word o ∷ value ∷ more
  pub rest : tail ≡ value ∷ (more ++ files)
  pub adds : Adds o value before next
  pub asked : AreOptions more next now

no_first : (o : OptionName) (tail files : List (List ℕ)) → files ≡ option_word o ∷ tail → AreFiles files → ⊥
no_first o tail [] e named = absurd cc
no_first o tail (f ∷ fs) e named = no_file o (subst IsFile (ap first_word e) named.0)

opened : (o : OptionName) (tail options files : List (List ℕ)) (before now : Command) → option_word o ∷ tail ≡ options ++ files → AreOptions options before now → AreFiles files → Opened o tail options files before now
opened o tail options files before now whole (no_more os b n e same) named =
    absurd (no_first o tail files (sym (whole ∙ ap (λ xs. xs ++ files) e)) named)
opened o tail options files before now whole (one_more os b n option value more next e adds asked) named =
    let so = whole ∙ ap (λ xs. xs ++ files) e in
    let same = one_option o option (ap first_word so) in
    record {
      value = value;
      more = more;
      next = next;
      is = e ∙ ap (λ p. option_word p ∷ value ∷ more) (sym same);
      rest = ap rest_words so;
      adds = subst (λ p. Adds p value before next) (sym same) adds;
      asked = asked;
    }

pub not_first : (ws : List (List ℕ)) (before : Command) → ((w : List ℕ) (rest : List (List ℕ)) → ws ≡ w ∷ rest → IsNoOption w) → EndsOptions ws before before
not_first ws before none = record {
  count = 0;
  within = omega arith;
  start = omega arith;
  asked = no_more [] before before refl refl;
  only = λ options files then h. by options files then h.asked h.whole;
}
  where
    by : (options files : List (List ℕ)) (then : Command) → AreOptions options before then → ws ≡ options ++ files → options ≡ []
    by options files then (no_more os b n e same) whole = e
    by options files then (one_more os b n option value more next e adds asked) whole =
        absurd (none (option_word option) (value ∷ (more ++ files)) (whole ∙ ap (λ xs. xs ++ files) e) option refl)

pub first_more : (o : OptionName) (value : List ℕ) (rest : List (List ℕ)) (before next now : Command) → Adds o value before next → EndsOptions rest next now → EndsOptions (option_word o ∷ value ∷ rest) before now
first_more o value rest before next now adds ends = record {
  count = suc (suc ends.count);
  within = omega (arith, ends.within);
  start = omega (arith, ends.start, next_start o value before next adds);
  asked = one_more (option_word o ∷ value ∷ take ends.count rest) before now o value (take ends.count rest) next refl adds ends.asked;
  only = λ options files then h.
      let k = opened o (value ∷ rest) options files before then h.whole h.asked h.named in
      let same : value ≡ k.value = ap first_word k.rest in
      let one = adds_one o k.value before k.next next k.adds (subst (λ v. Adds o v before next) same adds) in
      k.is ∙ ap (λ v. option_word o ∷ v ∷ k.more) (sym same) ∙ ap (λ xs. option_word o ∷ value ∷ xs)
      (ends.only k.more files then (record { whole = ap rest_words k.rest; asked = subst (λ n. AreOptions k.more n then) one k.asked; some = h.some; named = h.named }));
}
  where
    next_start : (p : OptionName) (v : List ℕ) (b n : Command) → Adds p v b n → n.start ≡ b.start + 2
    next_start Plt v b n h = ap (λ c. c.start) h.2
    next_start Out v b n h = ap (λ c. c.start) h.2
    next_start Workers v b n h = ap (λ c. c.start) h.1.4

pub first_none : (o : OptionName) (value : List ℕ) (rest : List (List ℕ)) (before next : Command) → Adds o value before next → HasNoOptions rest next → HasNoOptions (option_word o ∷ value ∷ rest) before
first_none o value rest before next adds none options files now h =
    let k = opened o (value ∷ rest) options files before now h.whole h.asked h.named in
    let same : value ≡ k.value = ap first_word k.rest in
    let one = adds_one o k.value before k.next next k.adds (subst (λ v. Adds o v before next) same adds) in
    none k.more files now (record { whole = ap rest_words k.rest; asked = subst (λ n. AreOptions k.more n now) one k.asked; some = h.some; named = h.named })

pub first_bad : (o : OptionName) (value : List ℕ) (rest : List (List ℕ)) (before : Command) → AddsNothing o value before → HasNoOptions (option_word o ∷ value ∷ rest) before
first_bad o value rest before bad options files now h =
    let k = opened o (value ∷ rest) options files before now h.whole h.asked h.named in
    bad k.next (subst (λ v. Adds o v before k.next) (sym (ap first_word k.rest)) k.adds)

pub first_lone : (o : OptionName) (before : Command) → HasNoOptions (option_word o ∷ []) before
first_lone o before options files now h =
    let k = opened o [] options files before now h.whole h.asked h.named in
    let e = k.rest in absurd cc

-- ---- the same for words as the code has them

pub ends_empty : (ws : List (Bor (List ℕ))) (before : Command) → length ws ≡ 0 → EndsOptions (texts ws) before before
ends_empty [] before e = not_first [] before (λ w rest h. absurd cc)
ends_empty (w ∷ ws) before e = absurd (omega (arith, e))

pub ends_first : (ws more : List (Bor (List ℕ))) (w : Bor (List ℕ)) (before : Command) → ws ≡ w ∷ more → IsNoOption w.now → EndsOptions (texts ws) before before
ends_first ws more w before e none =
    not_first (texts ws) before (λ v rest h. subst IsNoOption (ap first_word (sym (ap texts e) ∙ h)) none)

two_words : (ws more rest : List (Bor (List ℕ))) (w v : Bor (List ℕ)) (o : OptionName) → ws ≡ w ∷ more → more ≡ v ∷ rest → w.now ≡ option_word o → texts ws ≡ option_word o ∷ v.now ∷ texts rest
two_words ws more rest w v o e f g = ap texts (e ∙ ap (λ xs. w ∷ xs) f) ∙ ap (λ t. t ∷ v.now ∷ texts rest) g

pub ends_more : (ws more rest : List (Bor (List ℕ))) (w v : Bor (List ℕ)) (o : OptionName) (before next : Command) (found : Option Command) → ws ≡ w ∷ more → more ≡ v ∷ rest → w.now ≡ option_word o
    → Adds o v.now before next → MatchOption found (HasNoOptions (texts rest) next) (λ now. EndsOptions (texts rest) next now)
    → MatchOption found (HasNoOptions (texts ws) before) (λ now. EndsOptions (texts ws) before now)
ends_more ws more rest w v o before next found e f g adds h =
    subst (λ ts. MatchOption found (HasNoOptions ts before) (λ now. EndsOptions ts before now)) (sym (two_words ws more rest w v o e f g)) (by found h)
  where
    by : (some : Option Command) → MatchOption some (HasNoOptions (texts rest) next) (λ now. EndsOptions (texts rest) next now)
        → MatchOption some (HasNoOptions (option_word o ∷ v.now ∷ texts rest) before) (λ now. EndsOptions (option_word o ∷ v.now ∷ texts rest) before now)
    by None k = first_none o v.now (texts rest) before next adds k
    by (Some now) k = first_more o v.now (texts rest) before next now adds k

pub none_bad : (ws more rest : List (Bor (List ℕ))) (w v : Bor (List ℕ)) (o : OptionName) (before : Command) → ws ≡ w ∷ more → more ≡ v ∷ rest → w.now ≡ option_word o → AddsNothing o v.now before
    → HasNoOptions (texts ws) before
none_bad ws more rest w v o before e f g bad =
    subst (λ ts. HasNoOptions ts before) (sym (two_words ws more rest w v o e f g)) (first_bad o v.now (texts rest) before bad)

pub none_lone : (ws more : List (Bor (List ℕ))) (w : Bor (List ℕ)) (o : OptionName) (before : Command) → ws ≡ w ∷ more → more ≡ [] → w.now ≡ option_word o → HasNoOptions (texts ws) before
none_lone ws more w o before e f g =
    subst (λ ts. HasNoOptions ts before) (sym (ap texts (e ∙ ap (λ xs. w ∷ xs) f) ∙ ap (λ t. t ∷ []) g)) (first_lone o before)

-- ---- commands

take_drop : (n : ℕ) (xs : List (List ℕ)) → xs ≡ take n xs ++ drop n xs
take_drop zero xs = refl
take_drop (suc n) [] = refl
take_drop (suc n) (x ∷ xs) = ap (λ ys. x ∷ ys) (take_drop n xs)

pub not_split : (asked : List (List ℕ)) → HasNoOptions asked plain → IsNoCheck (codes "check" ∷ asked)
not_split asked none h =
    none h.2.options h.1 h.0 (record { whole = ap rest_words h.2.spelled; asked = h.2.asked; some = h.2.some; named = h.2.named })

pub a_check : (asked : List (List ℕ)) (now : Command) → EndsOptions asked plain now → drop now.start (codes "check" ∷ asked) ≢ [] → AreFiles (drop now.start (codes "check" ∷ asked))
    → IsCheck (codes "check" ∷ asked) now (drop now.start (codes "check" ∷ asked))
a_check asked now ends some named =
    let at : now.start ≡ suc ends.count = omega (arith, ends.start) in
    let same = ap (λ n. drop n (codes "check" ∷ asked)) at in
    record {
      options = take ends.count asked;
      spelled = ap (λ ws. codes "check" ∷ ws) (take_drop ends.count asked ∙ ap (λ fs. take ends.count asked ++ fs) (sym same));
      asked = ends.asked;
      some = some;
      named = named;
    }

-- files are the words behind the only options that there may be
pub no_files : (asked : List (List ℕ)) (now : Command) → EndsOptions asked plain now → (drop now.start (codes "check" ∷ asked) ≢ [] → AreFiles (drop now.start (codes "check" ∷ asked)) → ⊥)
    → IsNoCheck (codes "check" ∷ asked)
no_files asked now ends none h =
    let split : Splits asked h.2.options h.1 plain h.0 = record { whole = ap rest_words h.2.spelled; asked = h.2.asked; some = h.2.some; named = h.2.named } in
    let only = ends.only h.2.options h.1 h.0 split in
    let same = same_rest ends.count asked h.2.options h.1 (ap rest_words h.2.spelled) only in
    let at : now.start ≡ suc ends.count = omega (arith, ends.start) in
    let whole = ap (λ n. drop n (codes "check" ∷ asked)) at ∙ same in
    none (subst (λ fs. fs ≢ []) (sym whole) h.2.some) (subst AreFiles (sym whole) h.2.named)
  where
    same_rest : (n : ℕ) (xs os fs : List (List ℕ)) → xs ≡ os ++ fs → os ≡ take n xs → drop n xs ≡ fs
    same_rest n xs os fs e only = after os (drop n xs) fs (ap (λ ys. ys ++ drop n xs) only ∙ sym (take_drop n xs) ∙ e)
      where
        after : (os xs ys : List (List ℕ)) → os ++ xs ≡ os ++ ys → xs ≡ ys
        after [] xs ys e = e
        after (o ∷ os) xs ys e = after os xs ys (ap rest_words e)

-- ---- the test

said : (ws asked : List (Bor (List ℕ))) (w : Bor (List ℕ)) (differs : Bool) → ws ≡ w ∷ asked → differs ≡ not (pointwise nat_eq w.now (codes "check")) → differs ≡ false
    → texts ws ≡ codes "check" ∷ texts asked
said ws asked w differs parts is same =
    ap texts parts ∙ ap (λ v. v ∷ texts asked) ((bytes_decides w.now (codes "check")).0 (not-false (pointwise nat_eq w.now (codes "check")) (sym is ∙ same)))

some_texts : (fs : List (Bor (List ℕ))) → nat_eq (length fs) 0 ≡ false → texts fs ≢ []
some_texts [] e h = absurd cc
some_texts (f ∷ fs) e h = absurd cc

pub check_told : (ws asked : List (Bor (List ℕ))) (w : Bor (List ℕ)) (differs : Bool) (now : Command) (fs : List (Bor (List ℕ))) (empty named : Bool) → ws ≡ w ∷ asked
    → differs ≡ not (pointwise nat_eq w.now (codes "check")) → differs ≡ false → EndsOptions (texts asked) plain now
    → empty ≡ nat_eq (length fs) 0 → empty ≡ false → (IsTrue named ↔ AreFiles (texts fs)) → named ≡ true
    → fs ≡ take (length ws - now.start) (drop now.start ws) → IsCheck (texts ws) now (drop now.start (texts ws))
check_told ws asked w differs now fs empty named parts is same ends none some files yes_so behind =
    let whole = ap texts behind ∙ texts_from ws now.start in
    let front = said ws asked w differs parts is same in
    let all = whole ∙ ap (drop now.start) front in
    subst (λ vs. IsCheck vs now (drop now.start vs)) (sym front)
    (a_check (texts asked) now ends (subst (λ vs. vs ≢ []) all (some_texts fs (sym none ∙ some))) (subst AreFiles all (files.0 yes_so)))

pub no_check : (ws asked : List (Bor (List ℕ))) (w : Bor (List ℕ)) (differs : Bool) (now : Command) (fs : List (Bor (List ℕ))) (named : Bool) → ws ≡ w ∷ asked
    → differs ≡ not (pointwise nat_eq w.now (codes "check")) → differs ≡ false → EndsOptions (texts asked) plain now → (IsTrue named ↔ AreFiles (texts fs)) → named ≡ false
    → fs ≡ take (length ws - now.start) (drop now.start ws) → IsNoCheck (texts ws)
no_check ws asked w differs now fs named parts is same ends files no_so behind =
    let whole = ap texts behind ∙ texts_from ws now.start in
    let front = said ws asked w differs parts is same in
    let all = whole ∙ ap (drop now.start) front in
    subst IsNoCheck (sym front)
    (no_files (texts asked) now ends (λ some are. true≢false (sym (files.1 (subst AreFiles (sym all) are)) ∙ no_so)))

-- ---- words are one command

-- options are told from the files behind them, and ask for one thing
one_split : (os ps fs gs : List (List ℕ)) (before now then : Command) → AreOptions os before now → AreOptions ps before then → os ++ fs ≡ ps ++ gs → AreFiles fs → AreFiles gs → (now ≡ then) × (fs ≡ gs)
one_split os ps fs gs before now then (no_more xs b n e same) asked whole named also = by asked
  where
    so : fs ≡ ps ++ gs
    so = sym (ap (λ xs. xs ++ fs) e) ∙ whole

    by : AreOptions ps before then → (now ≡ then) × (fs ≡ gs)
    by (no_more ys c m f equal) = (same ∙ sym equal, so ∙ ap (λ ys. ys ++ gs) f)
    by (one_more ys c m option value more next f adds rest) =
        absurd (no_first option (value ∷ (more ++ gs)) fs (so ∙ ap (λ ys. ys ++ gs) f) named)
one_split os ps fs gs before now then (one_more xs b n option value more next e adds asked) others whole named also =
    let k = opened option (value ∷ (more ++ fs)) ps gs before then (sym (ap (λ xs. xs ++ fs) e) ∙ whole) others also in
    let same : value ≡ k.value = ap first_word k.rest in
    let one = adds_one option k.value before k.next next k.adds (subst (λ v. Adds option v before next) same adds) in
    one_split more k.more fs gs next now then asked (subst (λ m. AreOptions k.more m then) one k.asked) (ap rest_words k.rest) named also

pub one_check : {words files those : List (List ℕ)} {command other : Command} → IsCheck words command files → IsCheck words other those → (command ≡ other) × (files ≡ those)
one_check {files = files} {those = those} {command = command} {other = other} h k =
    one_split h.options k.options files those plain command other h.asked k.asked (ap rest_words (sym h.spelled ∙ k.spelled)) h.named k.named

-- no words ask for a check and for generated modules
pub one_command : {words files : List (List ℕ)} {command : Command} {count : ℕ} → IsCheck words command files → IsMake words count → ⊥
one_command h k = let e : 99 ≡ 109 = ap (λ ws. get_or (first_word ws) 0 0) (sym h.spelled ∙ k.spelled) in absurd (omega (arith, e))

-- words ask for one number of generated modules
pub one_make : {words : List (List ℕ)} {count other : ℕ} → IsMake words count → IsMake words other → count ≡ other
one_make {count = count} {other = other} h k =
    decimal_once count other (omega (arith, h.most)) (omega (arith, k.most)) (ap (λ ws. first_word (rest_words ws)) (sym h.spelled ∙ k.spelled))

-- the words `make` and a number
pub make_told : (ws : List (Bor (List ℕ))) (d e : Bor (List ℕ)) (differs : Bool) (r : Option ℕ) → 2 ≤ length ws → length ws < 3
    → differs ≡ not (pointwise nat_eq (get_or ws 0 d).now (codes "make")) → differs ≡ false
    → MatchOption r ((n : ℕ) → 1 ≤ n → n ≤ most_modules → (get_or ws 1 e).now ≡ decimal n → ⊥) (λ n. ((get_or ws 1 e).now ≡ decimal n) × (1 ≤ n) × (n ≤ most_modules))
    → MatchOption r (IsNoMake (texts ws)) (λ n. IsMake (texts ws) n)
make_told [] d e differs r least below is same h = absurd (omega (arith, least))
make_told (w ∷ []) d e differs r least below is same h = absurd (omega (arith, least))
make_told (w ∷ v ∷ u ∷ ws) d e differs r least below is same h = absurd (omega (arith, below))
make_told (w ∷ v ∷ []) d e differs r least below is same h = by r h
  where
    command : w.now ≡ codes "make"
    command = (bytes_decides w.now (codes "make")).0 (not-false (pointwise nat_eq w.now (codes "make")) (sym is ∙ same))

    by : (o : Option ℕ) → MatchOption o ((n : ℕ) → 1 ≤ n → n ≤ most_modules → v.now ≡ decimal n → ⊥) (λ n. (v.now ≡ decimal n) × (1 ≤ n) × (n ≤ most_modules))
        → MatchOption o (IsNoMake (texts (w ∷ v ∷ []))) (λ n. IsMake (texts (w ∷ v ∷ [])) n)
    by None k = λ n asks. k n asks.least asks.most (ap (λ ts. first_word (rest_words ts)) asks.spelled)
    by (Some n) k = record { spelled = ap₂ (λ x y. x ∷ y ∷ []) command k.0; least = k.1; most = k.2 }
