-- What a form was read as, by its parts as the code reads them.
use Rattle.std.proofs.Common.{◌≡◌, sym, ap, ◌∙◌}

pub read_one : {F A : Type 0} (f : A → F) {e : F} {a b : A} → e ≡ f a → b ≡ a → e ≡ f b
read_one f is same = is ∙ ap f (sym same)

pub read_two : {F A B : Type 0} (f : A → B → F) {e : F} {a c : A} {b d : B} → e ≡ f a b → c ≡ a → d ≡ b → e ≡ f c d
read_two f {e} {a} {c} {b} {d} is one two = is ∙ ap (λ x. f x b) (sym one) ∙ ap (f c) (sym two)

pub read_three : {F A B C : Type 0} (f : A → B → C → F) {e : F} {a d : A} {b g : B} {c h : C} → e ≡ f a b c → d ≡ a → g ≡ b → h ≡ c → e ≡ f d g h
read_three f {e} {a} {d} {b} {g} {c} {h} is one two three = is ∙ ap (λ x. f x b c) (sym one) ∙ ap (λ x. f d x c) (sym two) ∙ ap (f d g) (sym three)
