-- What is known of each module, made group by group: an unchanged group has what its entries say, and of every other what is passed is
-- solved over what stands by then.
use Rattle.std.proofs.Common.{◌≡◌, ℕ, zero, suc, ◌<◌, ◌≤◌, Bool, true, false, cond, List, Option, Some, None, refl, sym, ap, ◌∙◌, subst, inl, inr, arith}
use Rattle.std.proofs.lemmas.Bool.{cases_lt, false_from_ne_true}
use Rattle.type_kinds.specs.declared.atom.Atom.{Atom}
use Rattle.table_keep.specs.Model.{Source, Entry, Result, entry_of}
use Rattle.table_keep.specs.Groups.{Groups, IsGroups, has}
use Rattle.table_keep.specs.Kept.{Standing, Results, AreResults, is_candidate, calls_of, unchanged, handed, stands, is_kept}
use Rattle.sound_laws_kept.specs.Laws.{RestsLaw}
use Rattle.sound_laws_kept.specs.Solving.{AreSources, IsResult, IsSolved}
use Rattle.sound_laws_kept.proofs.Folds as folds
use Rattle.sound_laws_kept.proofs.Graphs.{in_own_group, member_number}
use Rattle.sound_laws_kept.proofs.Names.{clash, are_picked}
use Rattle.sound_laws_kept.proofs.Trees.{picked_stands}
use Rattle.sound_laws_written.proofs.Solved.{nothing_known}

module _ (solve : (xs : List Source) (K : Standing) → AreSources xs → (R : Results) × IsSolved xs K R) (rests : RestsLaw) (T : List Entry) (M : List Source) (are : AreSources M)
    (g : Groups) (is : IsGroups (is_candidate T M) (calls_of T M) g) where
  -- the group of this number is decided
  record Done (R : Results) (n : ℕ) : Type 0 where
    pub entries : is_kept R T M g n ≡ true → (h : Atom) (e : Entry) → has (g.members n) h ≡ true → entry_of T h ≡ Some e → R h ≡ e.result
    pub solved : is_kept R T M g n ≡ false → IsSolved (handed M g n) (stands R T M g n) R

  -- other results for the members of a group
  abbrev with_group : ℕ → (Q R : Results) → Results
  with_group k Q R h = cond (has (g.members k) h) (Q h) (R h)

  outside : (k : ℕ) (Q R : Results) (h : Atom) → has (g.members k) h ≡ false → with_group k Q R h ≡ R h
  outside k Q R h e = ap (λ b. cond b (Q h) (R h)) e

  inside : (k : ℕ) (Q R : Results) (h : Atom) → has (g.members k) h ≡ true → with_group k Q R h ≡ Q h
  inside k Q R h e = ap (λ b. cond b (Q h) (R h)) e

  other : (k : ℕ) (h : Atom) → (g.number h ≡ k → ⊥) → has (g.members k) h ≡ false
  other k h apart = false_from_ne_true (has (g.members k) h) (λ e. apart (member_number (is_candidate T M) (calls_of T M) g is k h e))

  member_other : (k n : ℕ) (h : Atom) → n < k → has (g.members n) h ≡ true → has (g.members k) h ≡ false
  member_other k n h low e = other k h (λ q. let number = member_number (is_candidate T M) (calls_of T M) g is n h e in absurd (omega (arith, q, number, low)))

  -- they change nothing of what stood before the group
  same_standing : (k n : ℕ) (Q R : Results) → n ≤ k → stands (with_group k Q R) T M g n ≡ stands R T M g n
  same_standing k n Q R low =
      λ i h f. rests (with_group k Q R) R T M g is n (λ a there less. outside k Q R a (other k a (λ e. absurd (omega (arith, e, less, low))))) h f i

  same_kept : (k n : ℕ) (Q R : Results) → n ≤ k → is_kept (with_group k Q R) T M g n ≡ unchanged T M (g.members n) (stands R T M g n)
  unfolding is_kept
  same_kept k n Q R low = ap (unchanged T M (g.members n)) (same_standing k n Q R low)

  kept_before : (R : Results) (n : ℕ) → is_kept R T M g n ≡ unchanged T M (g.members n) (stands R T M g n)
  unfolding is_kept
  kept_before R n = refl

  -- what is solved by results is solved by others that are the same for its modules
  solved_same : (n : ℕ) (K L : Standing) (R Q : Results) → K ≡ L → ((h : Atom) → has (g.members n) h ≡ true → R h ≡ Q h) → IsSolved (handed M g n) K R → IsSolved (handed M g n) L Q
  solved_same n K L R Q e same s = subst (λ K. IsSolved (handed M g n) K Q) e (record {
    known = s.known;
    known_so = s.known_so;
    results = λ x there. subst (IsResult s.known x.tree) (same x.tree.name (picked_stands (has (g.members n)) M x there).0) (s.results x there);
  })

  still : (k n : ℕ) (Q R : Results) → n < k → Done R n → Done (with_group k Q R) n
  still k n Q R low d =
      let as_before = same_kept k n Q R (omega (arith, low)) ∙ sym (kept_before R n) in
      record {
        entries = λ e h x there at. outside k Q R h (member_other k n h low there) ∙ d.entries (sym as_before ∙ e) h x there at;
        solved = λ e. solved_same n (stands R T M g n) (stands (with_group k Q R) T M g n) R (with_group k Q R) (sym (same_standing k n Q R (omega (arith, low))))
            (λ h there. sym (outside k Q R h (member_other k n h low there))) (d.solved (sym as_before ∙ e));
      }

  -- what an entry says
  said : Option Entry → Result
  said None = nothing_known
  said (Some e) = e.result

  said_is : (o : Option Entry) (e : Entry) → o ≡ Some e → said o ≡ e.result
  unfolding said
  said_is o e q = ap said q

  here : (k : ℕ) (R : Results) (b : Bool) → unchanged T M (g.members k) (stands R T M g k) ≡ b → (Q : Results) × Done (with_group k Q R) k
  here k R true e =
      let Q : Results = λ h. said (entry_of T h) in (
        Q,
        record {
          entries = λ stays h x there at. inside k Q R h there ∙ said_is (entry_of T h) x at;
          solved = λ changes. clash (is_kept (with_group k Q R) T M g k) (same_kept k k Q R (omega arith) ∙ e) changes;
        },
      )
  here k R false e =
      let s = solve (handed M g k) (stands R T M g k) (are_picked (has (g.members k)) M are) in
      let Q = s.0 in (
        Q,
        record {
          entries = λ stays. clash (is_kept (with_group k Q R) T M g k) stays (same_kept k k Q R (omega arith) ∙ e);
          solved = λ changes. solved_same k (stands R T M g k) (stands (with_group k Q R) T M g k) Q (with_group k Q R) (sym (same_standing k k Q R (omega arith)))
              (λ h there. sym (inside k Q R h there)) s.1;
        },
      )

  all_done : (k : ℕ) → (R : Results) × ((n : ℕ) → n < k → Done R n)
  all_done zero = (λ h. nothing_known, λ n low. absurd (omega (arith, low)))
  all_done (suc k) =
      let before = all_done k in
      let next = here k before.0 (unchanged T M (g.members k) (stands before.0 T M g k)) refl in (
        with_group k next.0 before.0,
        λ n low. elim (cases_lt n k) [
          | inl less ↦ still k n next.0 before.0 less (before.1 n less)
          | inr high ↦ (let e : k ≡ n = omega (arith, low, high) in subst (Done (with_group k next.0 before.0)) e next.1)
        ],
      )

  pub results : (R : Results) × AreResults IsSolved T M g R
  results =
      let all = all_done g.count in
      let R = all.0 in (
        R,
        record {
          of_entry = λ h e stays there.
              let node = folds.kept_candidate R T M g h stays in
              (all.1 (g.number h) (is.low h node)).entries (sym (folds.kept_is R T M g h node) ∙ stays) h e (in_own_group (is_candidate T M) (calls_of T M) g is h node) there;
          solved = λ n low changes. (all.1 n low).solved changes;
        },
      )
