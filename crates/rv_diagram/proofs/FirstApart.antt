-- Where two sides differ.
use Rattle.std.proofs.Common.{◌≡◌, ℕ, ◌+◌, ◌*◌, ◌^◌, ◌<◌, ◌≤◌, ◌⊎◌, Bool, true, false, ◌&&◌, List, [], ◌∷◌, ◌++◌, length, get_or, take, All, Option, None, Some, inl, inr, refl, sym, ap, ◌∙◌, arith, add-one, length-append}
use mir.Val.{bool_byte}
use Rattle.std.proofs.Math.Nat.{pow-suc}
use Rattle.std.proofs.Math.Pow.{pow_mono}
use Rattle.std.proofs.lemmas.Bool.{false≢true}
use Rattle.std.proofs.lemmas.List.{ext_get_or, length-map, take_all, take_more}
use Rattle.rv_gate.specs.Word.{bit_of, number_of, word_of}
use Rattle.rv_gate.specs.Gate.{same, xor, all_below}
use Rattle.rv_gate.specs.inside.laws.WordLaws.{length-word_of, number_of-word_of_small}
use Rattle.rv_gate.proofs.AllBelow.{all_below-at, all_below-from}
use Rattle.rv_gate.proofs.Bits.{same_true, same_from}
use Rattle.rv_diagram.specs.declared.apart.Narrowed.{Narrowed}
use Rattle.rv_diagram.specs.declared.edge.Edge.{Edge}
use Rattle.rv_diagram.specs.declared.edge.Node.{Node}
use Rattle.rv_diagram.specs.Diagram.{value, word_at, turned_by, IsEdge, IsNarrowed, IsFirstApart, Keeps}
use Rattle.rv_diagram.proofs.Values.{keeps_self, keeps_on, value_constant, value_turned}
use Rattle.rv_diagram.proofs.Lines.{bit_at_line}
use Rattle.rv_diagram.proofs.Placed.{control_value}

-- ---- agreement

not_apart : (a b : Bool) → same (xor a b) false ≡ same a b
not_apart true true = refl
not_apart true false = refl
not_apart false true = refl
not_apart false false = refl

pub same_value : (nodes : List Node) (apart : Edge) (a b : Bool) (x : List Bool) → value nodes apart x ≡ xor a b → value nodes (turned_by apart true) x ≡ same a b
same_value nodes apart a b x is = control_value nodes apart false x ∙ ap (λ c. same c false) is ∙ not_apart a b

abbrev pub agrees : List Bool → List Bool → ℕ → Bool
agrees u v i = same (bit_of u i) (bit_of v i)

pub record AgreeBelow (start now : List Node) (a b : List Edge) (line : ℕ) (agree : Edge) : Type 0 where
  pub keeps : Keeps start now
  pub edge : IsEdge now agree
  pub value : (x : List Bool) → value now agree x ≡ all_below (agrees (word_at start a x) (word_at start b x)) line

pub agree_more : (start now next : List Node) (a b : List Edge) (line : ℕ) (agree made d e : Edge) → All (IsEdge start) a → All (IsEdge start) b → line < length a → line < length b
    → AgreeBelow start now a b line agree → Keeps now next → IsEdge next made
    → ((x : List Bool) → value next made x ≡ (same (value now (get_or a line d) x) (value now (get_or b line e) x) && value now agree x))
    → AgreeBelow start next a b (line + 1) made
agree_more start now next a b line agree made d e are_a are_b lt_a lt_b h k is at = record {
  keeps = keeps_on start now next h.keeps k;
  edge = is;
  value = λ x.
      let here_a : value now (get_or a line d) x ≡ bit_of (word_at start a x) line = h.keeps.same (get_or a line d) x (are_a line d lt_a) ∙ sym (bit_at_line start a line d x lt_a) in
      let here_b : value now (get_or b line e) x ≡ bit_of (word_at start b x) line = h.keeps.same (get_or b line e) x (are_b line e lt_b) ∙ sym (bit_at_line start b line e x lt_b) in
      at x ∙ rw (here_a, here_b, h.value x) refl ∙ sym (ap (all_below (agrees (word_at start a x) (word_at start b x))) (add-one line));
}

same_words : (u v : List Bool) (n : ℕ) → length u ≡ n → length v ≡ n → all_below (agrees u v) n ≡ true → u ≡ v
same_words u v n len_u len_v all =
    ext_get_or false u v (len_u ∙ sym len_v) (λ i lt. same_true _ _ (all_below-at (agrees u v) n i all (omega (arith, len_u))))

same_self_all : (u v : List Bool) (n : ℕ) → u ≡ v → all_below (agrees u v) n ≡ true
same_self_all u v n is = all_below-from (agrees u v) n (λ i lt. same_from _ _ (ap (λ w. bit_of w i) is))

-- ---- the first word

pow-more : (n : ℕ) → 2 ^ (n + 1) ≡ 2 * 2 ^ n
pow-more n = ap (λ m. 2 ^ m) (add-one n) ∙ pow-suc 2 n ∙ omega arith

pub number_of-push : (w : List Bool) (b : Bool) → number_of (w ++ b ∷ []) ≡ 2 * number_of w + bool_byte b
unfolding number_of
number_of-push [] true = refl
number_of-push [] false = refl
number_of-push (true ∷ w) b =
    let len : length (w ++ b ∷ []) ≡ length w + 1 = length-append w (b ∷ []) in
    omega (arith, number_of-push w b, ap (λ n. 2 ^ n) len, pow-more (length w))
number_of-push (false ∷ w) b = omega (arith, number_of-push w b)

pub record IsLeast (start now : List Node) (differ left : Edge) (input number : ℕ) : Type 0 where
  pub keeps : Keeps start now
  pub edge : IsEdge now left
  pub below : number < 2 ^ input
  pub least : (x : List Bool) → input ≤ length x → value start differ x ≡ true
      → (number < number_of (take input x)) ⊎ ((number ≡ number_of (take input x)) × (value now left x ≡ true))

pub least_none : (nodes : List Node) (differ : Edge) → IsEdge nodes differ → IsLeast nodes nodes differ differ 0 0
unfolding number_of
least_none nodes differ is = record { keeps = keeps_self nodes; edge = is; below = omega arith; least = λ x le t. inr (refl, t) }

below_more : (number input : ℕ) (b : Bool) → number < 2 ^ input → 2 * number + bool_byte b < 2 ^ (input + 1)
below_more number input true lt = omega (arith, pow-more input)
below_more number input false lt = omega (arith, pow-more input)

pub number_small : (number input : ℕ) (b : Bool) → number < 2 ^ input → input < 64 → 2 * number + bool_byte b < 2 ^ 64
number_small number input b lt few =
    let mono : 2 ^ (input + 1) ≤ 2 ^ 64 = pow_mono (let le : input + 1 ≤ 64 = omega arith in le) in
    omega (arith, below_more number input b lt, mono)

pub double_small : (number input : ℕ) → number < 2 ^ input → input < 64 → 2 * number < 2 ^ 64
double_small number input lt few = omega (arith, number_small number input false lt few)

step : (number seen : ℕ) (chosen bit : Bool) (T : Type 0)
    → (number < seen) ⊎ ((number ≡ seen) × ((bit ≡ chosen → T) × (chosen ≡ true → bit ≡ false → ⊥)))
    → (2 * number + bool_byte chosen < 2 * seen + bool_byte bit) ⊎ ((2 * number + bool_byte chosen ≡ 2 * seen + bool_byte bit) × T)
step number seen true true T (inl lt) = inl (omega arith)
step number seen true false T (inl lt) = inl (omega arith)
step number seen false true T (inl lt) = inl (omega arith)
step number seen false false T (inl lt) = inl (omega arith)
step number seen true true T (inr h) = inr (omega (arith, h.0), h.1.0 refl)
step number seen true false T (inr h) = absurd (h.1.1 refl refl)
step number seen false true T (inr h) = inl (omega (arith, h.0))
step number seen false false T (inr h) = inr (omega (arith, h.0), h.1.0 refl)

pub least_more : (start now next : List Node) (differ left : Edge) (input number : ℕ) (narrowed : Narrowed) → IsLeast start now differ left input number → Keeps now next → IsNarrowed now next left input narrowed
    → IsLeast start next differ narrowed.left (input + 1) (2 * number + bool_byte narrowed.bit)
least_more start now next differ left input number narrowed h k is = record {
  keeps = keeps_on start now next h.keeps k;
  edge = is.edge;
  below = below_more number input narrowed.bit h.below;
  least = λ x le t.
      let lt : input < length x = omega arith in
      let seen : ℕ = number_of (take input x) in
      let more : number_of (take (input + 1) x) ≡ 2 * seen + bool_byte (bit_of x input) = ap number_of (take_more x input false lt) ∙ number_of-push (take input x) (bit_of x input) in
      let stepped = step number seen narrowed.bit (bit_of x input) (value next narrowed.left x ≡ true)
      (elim (h.least x (omega arith) t) [
        | inl less ↦ inl less
        | inr same ↦ inr (same.0, (λ b. is.kept x b ∙ same.1, λ one off. false≢true (sym (is.none one x off) ∙ same.1)))
      ]) in
      rw more stepped;
}

pub least_all : (start now : List Node) (differ left : Edge) (input number : ℕ) → IsLeast start now differ left input number → (x : List Bool) → length x ≡ input → value start differ x ≡ true → number ≤ number_of x
least_all start now differ left input number h x len t =
    let all : take input x ≡ x = take_all input x (omega (arith, len)) in
    elim (rw all at (h.least x (omega (arith, len)) t)) [ inl less ↦ omega arith | inr same ↦ omega (arith, same.0) ]

-- ---- narrowing

and_left : (a b : Bool) → b ≡ true → (a && b) ≡ a
and_left true b is = is
and_left false b is = refl

no_left : (a b : Bool) → (a && b) ≡ false → b ≡ true → a ≡ false
no_left true b none is = absurd (false≢true (sym none ∙ is))
no_left false b none is = refl

pub narrowed_zero : (old mid new : List Node) (left literal nought : Edge) (input : ℕ) → Keeps old mid → IsEdge old left → IsEdge mid literal → IsEdge new nought
    → ((x : List Bool) → value mid literal x ≡ bit_of x input) → ((x : List Bool) → value new nought x ≡ (value mid left x && value mid (turned_by literal true) x))
    → IsNarrowed old new left input (record { left = nought; bit = false })
narrowed_zero old mid new left literal nought input k is_left is_literal is lit at = record {
  edge = is;
  kept = λ x b. at x ∙ and_left _ _ (control_value mid literal false x ∙ rw (lit x, b) refl) ∙ k.same left x is_left;
  none = λ one. absurd (false≢true one);
}

pub narrowed_one : (old mid late new : List Node) (left literal nought one : Edge) (input : ℕ) → Keeps old mid → Keeps mid late → IsEdge old left → IsEdge mid literal → IsEdge new one
    → ((x : List Bool) → value mid literal x ≡ bit_of x input) → ((x : List Bool) → value late nought x ≡ (value mid left x && value mid (turned_by literal true) x))
    → nought ≡ record { node = 0; turned = false } → ((x : List Bool) → value new one x ≡ (value late left x && value late literal x))
    → IsNarrowed old new left input (record { left = one; bit = true })
narrowed_one old mid late new left literal nought one input k l is_left is_literal is lit at_zero none at = record {
  edge = is;
  kept = λ x b. at x ∙ and_left _ _ (l.same literal x is_literal ∙ lit x ∙ b) ∙ l.same left x (omega (arith, k.longer)) ∙ k.same left x is_left;
  none = λ _ x off.
      let empty : value late nought x ≡ false = ap (λ e. value late e x) none ∙ value_constant late false x in
      sym (k.same left x is_left) ∙ no_left _ _ (sym (at_zero x) ∙ empty) (control_value mid literal false x ∙ rw (lit x, off) refl);
}

-- ---- both sides

pub apart_none : (start now : List Node) (a b : List Edge) (agree : Edge) (inputs : ℕ) → length a ≡ length b → agree ≡ record { node = 0; turned = true }
    → ((x : List Bool) → value now agree x ≡ all_below (agrees (word_at start a x) (word_at start b x)) (length a)) → (x : List Bool) → word_at start a x ≡ word_at start b x
apart_none start now a b agree inputs count one is x =
    same_words (word_at start a x) (word_at start b x) (length a) (length-map a (λ e. value start e x)) (length-map b (λ e. value start e x) ∙ sym count)
    (sym (is x) ∙ ap (λ e. value now e x) one ∙ value_constant now true x)

flipped : (a : Bool) → xor a true ≡ true → a ≡ false
flipped true h = absurd (false≢true h)
flipped false h = refl

back : (a : Bool) → a ≡ false → xor a true ≡ true
back true h = absurd (false≢true (sym h))
back false h = refl

either : (a : Bool) → (a ≡ true) ⊎ (a ≡ false)
either true = inl refl
either false = inr refl

pub apart_some : (start now room last : List Node) (a b : List Edge) (agree differ : Edge) (inputs number : ℕ) → length a ≡ length b → Keeps room last → IsEdge room differ → number < 2 ^ inputs
    → ((x : List Bool) → value now agree x ≡ all_below (agrees (word_at start a x) (word_at start b x)) (length a))
    → ((x : List Bool) → value room differ x ≡ value now (turned_by agree true) x)
    → ((x : List Bool) → length x ≡ inputs → value room differ x ≡ true → number ≤ number_of x)
    → value last differ (word_of inputs number) ≡ true
    → IsFirstApart inputs (word_at start a) (word_at start b) (Some number)
apart_some start now room last a b agree differ inputs number count k is_differ below is turned least here =
    let word = word_of inputs number in (
      below,
      λ same_here.
          let off : value now agree word ≡ false = flipped _ (sym (value_turned now agree true word) ∙ sym (turned word) ∙ sym (k.same differ word is_differ) ∙ here) in
          false≢true (sym off ∙ is word ∙ same_self_all (word_at start a word) (word_at start b word) (length a) same_here),
      λ less lt.
          let w = word_of inputs less in
          elim (either (value now agree w)) [
            | inl on ↦
                same_words (word_at start a w) (word_at start b w) (length a) (length-map a (λ e. value start e w)) (length-map b (λ e. value start e w) ∙ sym count) (sym (is w) ∙ on)
            | inr off ↦
                absurd (omega (arith, least w (length-word_of inputs less) (turned w ∙ value_turned now agree true w ∙ back _ off), number_of-word_of_small inputs less (omega arith)))
          ],
    )

-- the same, of functions that are equal at each word
pub apart_as : (inputs : ℕ) (f g f2 g2 : List Bool → List Bool) (found : Option ℕ) → ((x : List Bool) → f x ≡ f2 x) → ((x : List Bool) → g x ≡ g2 x)
    → IsFirstApart inputs f g found → IsFirstApart inputs f2 g2 found
apart_as inputs f g f2 g2 None same_f same_g is = λ x. sym (same_f x) ∙ is x ∙ same_g x
apart_as inputs f g f2 g2 (Some number) same_f same_g is =
    let word = word_of inputs number in (
      is.0,
      λ e. is.1 (same_f word ∙ e ∙ sym (same_g word)),
      λ less lt. sym (same_f (word_of inputs less)) ∙ is.2 less lt ∙ same_g (word_of inputs less),
    )
