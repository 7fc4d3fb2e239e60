-- The steps of the search, at the lists that its functions leave.
use Rattle.std.proofs.Common.{◌≡◌, ℕ, ◌+◌, ◌<◌, ◌≤◌, ◌-◌, ◌⊎◌, inl, inr, List, [], ◌∷◌, ◌++◌, length, get_or, set, take, sym, ◌∙◌, ap, subst, arith}
use Rattle.std.specs.Prelude.{sum_by, slice_index}
use Rattle.std.proofs.lemmas.List.{length_push, length-set, get_or_push, get_or_default, take_more, take_all, nil_from_length, same_from_push}
use Rattle.std.proofs.lemmas.List.Elements.{All-push}
use Rattle.std.proofs.lemmas.List.Sums.{sum_by-set}
use Rattle.std.proofs.lemmas.Bool.{cases_lt}
use Rattle.components.specs.declared.search.NodeState.{NodeState}
use Rattle.components.specs.declared.search.NodeState.TheVariants.{Unseen, Open, Closed}
use Rattle.components.specs.declared.search.Block.{Block}
use Rattle.components.specs.Graph.{IsGraph, targets}
use Rattle.components.specs.steps.Search.{state_of, fresh, Walk, Sound, Closes}
use Rattle.components.specs.steps.State.{TopIs}
use Rattle.components.proofs.Appended.{All-end, state_cases}
use Rattle.components.proofs.Walks.{walk_on, walk_pair, before_end}
use Rattle.components.proofs.Opened.{opened}
use Rattle.components.proofs.Merged.{merged}
use Rattle.components.proofs.Settled.{settled}
use Rattle.components.proofs.Shut.{shut}

-- a list that isn't empty ends with its last item
pub ends : (xs : List Block) (t : Block) → 0 < length xs → t ≡ get_or xs (length xs - 1) t → TopIs xs t
ends xs t some e =
    let n : ℕ = length xs - 1 in
    let whole : take (n + 1) xs ≡ xs = take_all (n + 1) xs (omega arith) in
    let more : take (n + 1) xs ≡ take n xs ++ get_or xs n t ∷ [] = take_more xs n t (omega arith) in
    (take n xs, sym whole ∙ more ∙ ap (λ y. take n xs ++ y ∷ []) (sym e))

pub top_some : (blocks : List Block) (t : Block) → TopIs blocks t → 0 < length blocks
top_some blocks t top = omega (arith, ap length top.1, length_push top.0 t)

pub front_is : (blocks rest : List Block) (t u : Block) → TopIs blocks t → blocks ≡ rest ++ u ∷ [] → blocks ≡ rest ++ t ∷ []
front_is blocks rest t u top e =
    let same = same_from_push top.0 rest t u (sym top.1 ∙ e) in
    e ∙ ap (λ y. rest ++ y ∷ []) (sym same.1)

pub last_is : (xs rest : List ℕ) (w : ℕ) → xs ≡ rest ++ w ∷ [] → slice_index xs (length xs - 1) ≡ w
last_is xs rest w e =
    ap (λ ys. slice_index ys (length ys - 1)) e ∙ get_or_push rest w 0 (length (rest ++ w ∷ []) - 1) (omega (arith, length_push rest w))

pub merge_step : (graph : List (List ℕ)) (states : List NodeState) (path pending : List ℕ) (blocks blocks' : List Block) (t u : Block) (cursor count : ℕ)
    → Sound graph states path pending blocks cursor count → TopIs blocks t → t.below < length pending
    → ((p : ℕ) × (state_of states (slice_index pending (length pending - 1)) ≡ Open p) × (p < t.first))
    → blocks ≡ blocks' ++ u ∷ [] → Sound graph states path pending blocks' cursor count
merge_step graph states path pending blocks blocks' t u cursor count s top busy (p, here, low) e =
    merged graph states path pending blocks' t cursor count p
    (subst (λ b. Sound graph states path pending b cursor count) (front_is blocks blocks' t u top e) s) busy here low

pub settle_step : (graph : List (List ℕ)) (states : List NodeState) (path pending pending' : List ℕ) (w : ℕ) (blocks : List Block) (t : Block) (cursor count : ℕ)
    → Sound graph states path pending blocks cursor count → TopIs blocks t → t.below < length pending
    → ((c : ℕ) × (state_of states (slice_index pending (length pending - 1)) ≡ Closed c)) ⊎ ((p : ℕ) × (state_of states (slice_index pending (length pending - 1)) ≡ Open p) × (t.first ≤ p))
    → pending ≡ pending' ++ w ∷ [] → Sound graph states path pending' blocks cursor count
settle_step graph states path pending pending' w blocks t cursor count s top busy known e =
    let s' = subst (λ b. Sound graph states path pending b cursor count) top.1 s in
    let s'' = subst (λ q. Sound graph states path q (top.0 ++ t ∷ []) cursor count) e s' in
    let is : slice_index pending (length pending - 1) ≡ w = last_is pending pending' w e in
    let known' : ((c : ℕ) × (state_of states w ≡ Closed c)) ⊎ ((p : ℕ) × (state_of states w ≡ Open p) × (t.first ≤ p)) =
    subst (λ v. ((c : ℕ) × (state_of states v ≡ Closed c)) ⊎ ((p : ℕ) × (state_of states v ≡ Open p) × (t.first ≤ p))) is known in
    let enough : t.below ≤ length pending' = omega (arith, ap length e, length_push pending' w) in
    subst (λ b. Sound graph states path pending' b cursor count) (sym top.1)
    (settled graph states path pending' w top.0 t cursor count s'' enough known')

pub close_step : (graph : List (List ℕ)) (states states' : List NodeState) (path path' pending : List ℕ) (blocks blocks' : List Block) (t u : Block) (cursor count : ℕ)
    → Sound graph states path pending blocks cursor count → TopIs blocks t → length pending ≤ t.below
    → Closes states states' path t.first (length path) count → path' ≡ take t.first path
    → blocks ≡ blocks' ++ u ∷ [] → Sound graph states' path' pending blocks' cursor (count + 1)
close_step graph states states' path path' pending blocks blocks' t u cursor count s top idle c is e =
    subst (λ p. Sound graph states' p pending blocks' cursor (count + 1)) (sym is)
    (shut graph states states' path pending blocks' t cursor count
    (subst (λ b. Sound graph states path pending b cursor count) (front_is blocks blocks' t u top e) s) idle c)

-- every open node reaches the last pending target, which is of the last block
pub reaches_pending : (graph : List (List ℕ)) (states : List NodeState) (path pending : List ℕ) (blocks : List Block) (t : Block) (cursor count : ℕ)
    → Sound graph states path pending blocks cursor count → TopIs blocks t → t.below < length pending
    → (i : ℕ) → i < length path → Walk graph (slice_index path i) (slice_index pending (length pending - 1))
reaches_pending graph states path pending blocks t cursor count s0 (rest, e) busy i under =
    let s : Sound graph states path pending (rest ++ t ∷ []) cursor count = subst (λ b. Sound graph states path pending b cursor count) e s0 in
    let source = s.sources (length pending - 1) (omega arith) in
    let high : t.first ≤ source.0 = (All-end (λ b. (b.first ≤ source.0 → b.below ≤ length pending - 1) × (b.below ≤ length pending - 1 → b.first ≤ source.0)) rest t source.3).1 (omega arith) in
    walk_on graph (slice_index path i) (slice_index path source.0) (slice_index pending (length pending - 1))
    (s.joined i source.0 under source.1
    (All-push (λ b. b.first ≤ i → b.first ≤ source.0) rest t
    (λ k d low _. let old : ((get_or rest k d).first < t.first) × ((get_or rest k d).below ≤ t.below) = before_end rest t path pending s.cut k d low in omega (arith, high))
    (λ _. high)))
    (walk_pair graph (slice_index path source.0) (slice_index pending (length pending - 1)) source.2)

pub pending_low : (graph : List (List ℕ)) (states : List NodeState) (path pending : List ℕ) (blocks : List Block) (cursor count : ℕ)
    → IsGraph graph → Sound graph states path pending blocks cursor count → (k : ℕ) → k < length pending → slice_index pending k < length graph
pending_low graph states path pending blocks cursor count g s k under =
    let source = s.sources k under in
    g.inside (slice_index path source.0) (slice_index pending k) source.2

pub target_low : (graph : List (List ℕ)) (states : List NodeState) (path pending : List ℕ) (blocks : List Block) (cursor count x : ℕ)
    → IsGraph graph → Sound graph states path pending blocks cursor count → 0 < length pending → x ≡ slice_index pending (length pending - 1) → x < length states
target_low graph states path pending blocks cursor count x g s some is =
    omega (arith, s.sizes, pending_low graph states path pending blocks cursor count g s (length pending - 1) (omega arith))

pub at_last : (xs : List ℕ) (n x : ℕ) → x ≡ get_or xs (n - 1) x → n ≡ length xs → 0 < length xs → x ≡ slice_index xs (length xs - 1)
at_last xs n x e is some =
    let low : n - 1 < length xs = omega arith in
    e ∙ get_or_default xs (n - 1) x 0 low ∙ ap (λ k. slice_index xs (k - 1)) is

pub state_at : (states : List NodeState) (x y : ℕ) (m v : NodeState) → m ≡ get_or states x m → x < length states → x ≡ y → m ≡ v → state_of states y ≡ v
state_at states x y m v e low is found = sym (e ∙ get_or_default states x m Unseen low ∙ ap (state_of states) is) ∙ found

pub no_path : (graph : List (List ℕ)) (states : List NodeState) (path pending : List ℕ) (blocks : List Block) (cursor count : ℕ)
    → Sound graph states path pending blocks cursor count → blocks ≡ [] → path ≡ []
no_path graph states path pending blocks cursor count s none =
    elim (cases_lt 0 (length path)) [
      | inl some ↦ absurd (let old = s.cut.whole some in omega (arith, old.1, ap length none))
      | inr empty ↦ nil_from_length path (omega arith)
    ]

-- one more node of the path is closed
pub shut_more : (states states' : List NodeState) (path : List ℕ) (first position number : ℕ)
    → Closes states states' path first position number → first ≤ position → position < length path
    → ((p : ℕ) → p < length path → state_of states (slice_index path p) ≡ Open p)
    → ((p : ℕ) → p < length path → slice_index path p < length states)
    → Closes states (set states' (slice_index path position) (Closed number)) path first (position + 1) number
shut_more states states' path first position number c high under on_path nodes =
    record { same_length = length-set states' node (Closed number) ∙ c.same_length; shut = shut'; others = others'; same_fresh = same_fresh' }
  where
    node : ℕ
    node = slice_index path position

    low : slice_index path position < length states'
    low = omega (arith, nodes position under, c.same_length)

    now : (f : ℕ) → ((f ≡ slice_index path position) × (state_of (set states' (slice_index path position) (Closed number)) f ≡ Closed number))
        ⊎ ((f ≡ slice_index path position → ⊥) × (state_of (set states' (slice_index path position) (Closed number)) f ≡ state_of states' f))
    now f = state_cases states' (slice_index path position) (Closed number) f low

    shut' : (p : ℕ) → first ≤ p → p < position + 1 → state_of (set states' (slice_index path position) (Closed number)) (slice_index path p) ≡ Closed number
    shut' p from to =
        elim (now (slice_index path p)) [
          | inl here ↦ here.1
          | inr other ↦
              elim (cases_lt p position) [
                | inl below ↦ other.1 ∙ c.shut p from below
                | inr above ↦ absurd (let is : p ≡ position = omega arith in other.0 (ap (slice_index path) is))
              ]
        ]

    others' : (f : ℕ) → ((p : ℕ) → first ≤ p → p < position + 1 → slice_index path p ≡ f → ⊥) → state_of (set states' (slice_index path position) (Closed number)) f ≡ state_of states f
    others' f never =
        elim (now f) [
          | inl here ↦ absurd (never position high (omega arith) (sym here.0))
          | inr other ↦ other.1 ∙ c.others f (λ p from to is. never p from (omega arith) is)
        ]

    -- the node is still as it was
    was_open : state_of states' (slice_index path position) ≡ Open position
    was_open =
        c.others (slice_index path position) (λ p from to is.
        let bad : Open p ≡ Open position = sym (on_path p (omega arith)) ∙ ap (state_of states) is ∙ on_path position under in
        let same : p ≡ position = cc in
        omega arith)
        ∙ on_path position under

    same_fresh' : sum_by fresh (set states' (slice_index path position) (Closed number)) ≡ sum_by fresh states
    same_fresh' =
        let sum : sum_by fresh (set states' (slice_index path position) (Closed number)) + fresh (state_of states' (slice_index path position)) ≡ sum_by fresh states' + 0 =
        sum_by-set fresh states' (slice_index path position) (Closed number) Unseen low in
        let none : fresh (state_of states' (slice_index path position)) ≡ 0 = ap fresh was_open in
        omega (arith, c.same_fresh)

pub open_step : (graph : List (List ℕ)) (states : List NodeState) (path path' pending pending' ts : List ℕ) (blocks blocks' : List Block) (cursor count w a b : ℕ)
    → Sound graph states path pending blocks cursor count → w < length graph → state_of states w ≡ Unseen
    → ((i : ℕ) → i < length path → Walk graph (slice_index path i) w)
    → a ≡ length path → b ≡ length pending → blocks' ≡ blocks ++ record { first = a; below = b } ∷ [] → path' ≡ path ++ w ∷ []
    → pending' ≡ pending ++ ts → ts ≡ targets graph w → Sound graph (set states w (Open a)) path' pending' blocks' cursor count
open_step graph states path path' pending pending' ts blocks blocks' cursor count w a b s low new reached is_a is_b is_blocks is_path is_pending is_ts =
    let s1 : Sound graph (set states w (Open (length path))) (path ++ w ∷ []) (pending ++ targets graph w) (blocks ++ record { first = length path; below = length pending } ∷ []) cursor count =
    opened graph states path pending blocks cursor count w s low new reached in
    let s2 : Sound graph (set states w (Open a)) (path ++ w ∷ []) (pending ++ targets graph w) (blocks ++ record { first = a; below = length pending } ∷ []) cursor count =
    subst (λ n. Sound graph (set states w (Open n)) (path ++ w ∷ []) (pending ++ targets graph w) (blocks ++ record { first = n; below = length pending } ∷ []) cursor count) (sym is_a) s1 in
    let s3 : Sound graph (set states w (Open a)) (path ++ w ∷ []) (pending ++ targets graph w) (blocks ++ record { first = a; below = b } ∷ []) cursor count =
    subst (λ n. Sound graph (set states w (Open a)) (path ++ w ∷ []) (pending ++ targets graph w) (blocks ++ record { first = a; below = n } ∷ []) cursor count) (sym is_b) s2 in
    let s4 = subst (λ q. Sound graph (set states w (Open a)) (path ++ w ∷ []) (pending ++ q) (blocks ++ record { first = a; below = b } ∷ []) cursor count) (sym is_ts) s3 in
    let s5 = subst (λ q. Sound graph (set states w (Open a)) (path ++ w ∷ []) q (blocks ++ record { first = a; below = b } ∷ []) cursor count) (sym is_pending) s4 in
    let s6 = subst (λ q. Sound graph (set states w (Open a)) q pending' (blocks ++ record { first = a; below = b } ∷ []) cursor count) (sym is_path) s5 in
    subst (λ q. Sound graph (set states w (Open a)) path' pending' q cursor count) (sym is_blocks) s6
