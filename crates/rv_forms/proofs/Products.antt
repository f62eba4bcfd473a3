-- Products of forms.
use Rattle.std.proofs.Common.{◌≡◌, ℕ, zero, suc, ◌+◌, ◌<◌, ◌≤◌, Bool, true, false, not, ◌&&◌, cond, List, [], ◌∷◌, ◌++◌, length, take, get_or, refl, sym, ◌∙◌, ap, arith}
use Rattle.std.proofs.lemmas.List.{take_more, take_all}
use Rattle.std.proofs.lemmas.Bool.{and_parts, and_from, true≢false}
use Rattle.rv_gate.specs.Word.{bit_of, has}
use Rattle.rv_gate.specs.Gate.{xor, same, holds, all_below}
use Rattle.rv_gate.proofs.Bits.{and_comm, same_bool, xor_false, false_xor}
use Rattle.rv_forms.specs.declared.form.Form.{Form}
use Rattle.rv_forms.specs.declared.term.Term.{Term}
use Rattle.rv_forms.specs.Forms.{sum_at, form_value, product_at}
use Rattle.rv_forms.specs.inside.Held.{Tells, AreLiterals, Ask, AreSame, IsTurned, IsSum, AreSameProduct, IsAdded}
use Rattle.rv_forms.proofs.Sums.{by_default}

and_assoc : (a b c : Bool) → (a && (b && c)) ≡ ((a && b) && c)
and_assoc true b c = refl
and_assoc false b c = refl

and_true : (a : Bool) → (a && true) ≡ a
and_true true = refl
and_true false = refl

pub product_at-append : (bits : List Bool) (a b : List Form)
    → product_at bits (a ++ b) ≡ (product_at bits a && product_at bits b)
product_at-append bits [] b = refl
product_at-append bits (f ∷ a) b =
    ap (λ t. form_value bits f && t) (product_at-append bits a b)
    ∙ and_assoc (form_value bits f) (product_at bits a) (product_at bits b)

pub product_at-push : (bits : List Bool) (a : List Form) (f : Form)
    → product_at bits (a ++ f ∷ []) ≡ (product_at bits a && form_value bits f)
product_at-push bits a f =
    product_at-append bits a (f ∷ []) ∙ ap (λ t. product_at bits a && t) (and_true (form_value bits f))

-- each factor of a product that is 1 is 1
pub factor_at : (bits : List Bool) (forms : List Form) (k : ℕ) (d : Form) → k < length forms
    → product_at bits forms ≡ true → form_value bits (get_or forms k d) ≡ true
factor_at bits [] k d lt on = absurd (omega arith)
factor_at bits (f ∷ forms) zero d lt on = (and_parts (form_value bits f) (product_at bits forms) on).0
factor_at bits (f ∷ forms) (suc k) d lt on =
    factor_at bits forms k d (omega arith) (and_parts (form_value bits f) (product_at bits forms) on).1

pub among : (bits : List Bool) (forms : List Form) (k : ℕ) (form other : Form) → k < length forms
    → other ≡ get_or forms k other → AreSame other form → product_at bits forms ≡ true → form_value bits form ≡ true
among bits forms k form other lt is same on =
    sym (same bits) ∙ ap (form_value bits) is ∙ factor_at bits forms k other lt on

-- the first of the forms are asked for
pub record AskFirst (others forms : List Form) (k : ℕ) : Type 0 where
  pub each : Ask others (take k forms)

pub ask_none : (others forms : List Form) → AskFirst others forms 0
ask_none others forms = record { each = λ bits on. refl }

pub ask_more : (others forms : List Form) (k : ℕ) (form : Form) → k < length forms → form ≡ get_or forms k form
    → ((bits : List Bool) → product_at bits others ≡ true → form_value bits form ≡ true)
    → AskFirst others forms k → AskFirst others forms (k + 1)
ask_more others forms k form lt is here so_far = record {
  each = λ bits on.
      ap (product_at bits) (take_more forms k form lt) ∙ product_at-push bits (take k forms) (get_or forms k form)
      ∙ and_from (product_at bits (take k forms)) (form_value bits (get_or forms k form)) (so_far.each bits on)
      (ap (form_value bits) (sym is) ∙ here bits on);
}

pub ask_all : (others forms : List Form) (k : ℕ) → length forms ≤ k → AskFirst others forms k → Ask others forms
ask_all others forms k le so_far bits on =
    ap (product_at bits) (sym (take_all k forms le)) ∙ so_far.each bits on

pub both_ways : (a b : List Form) → Ask a b → Ask b a → AreSameProduct a b
both_ways a b ab ba bits = same_bool (product_at bits a) (product_at bits b) (ab bits) (ba bits)

decide : (b : Bool) → (b ≡ true → b ≡ false) → b ≡ false
decide true h = h refl
decide false h = refl

-- a product with a factor that is 0
pub vanishes_at : (bits : List Bool) (forms : List Form) (k : ℕ) (form : Form) → k < length forms
    → form ≡ get_or forms k form → form_value bits form ≡ false → product_at bits forms ≡ false
vanishes_at bits forms k form lt is off =
    decide (product_at bits forms)
    (λ on. absurd (true≢false (sym (factor_at bits forms k form lt on) ∙ ap (form_value bits) (sym is) ∙ off)))

-- a product with two factors that are opposite
pub vanishes_by : (bits : List Bool) (forms : List Form) (k j : ℕ) (one other : Form) → k < length forms
    → j < length forms → one ≡ get_or forms k one → other ≡ get_or forms j other
    → (form_value bits one ≡ true → form_value bits other ≡ false) → product_at bits forms ≡ false
vanishes_by bits forms k j one other lt lt_j is is_j opposite =
    decide (product_at bits forms)
    (λ on. absurd (true≢false
    (sym (factor_at bits forms j other lt_j on) ∙ ap (form_value bits) (sym is_j)
    ∙ opposite (ap (form_value bits) is ∙ factor_at bits forms k one lt on))))

-- a product of one factor
pub one_of : (bits : List Bool) (form : Form) → product_at bits (form ∷ []) ≡ true → form_value bits form ≡ true
one_of bits form on = sym (and_true (form_value bits form)) ∙ on

-- all factors are one of them, or 1
pub all_are : (bits : List Bool) (forms : List Form) (k : ℕ) (form made : Form) → k < length forms
    → form ≡ get_or forms k form → Ask (form ∷ []) forms → IsTurned form false made
    → form_value bits made ≡ product_at bits forms
all_are bits forms k form made lt is ask turned =
    turned bits ∙ xor_false (form_value bits form)
    ∙ same_bool (form_value bits form) (product_at bits forms)
    (λ on. ask bits (and_true (form_value bits form) ∙ on))
    (λ on. ap (form_value bits) is ∙ factor_at bits forms k form lt on)

-- ---- two factors

two : (forms : List Form) → (d : Form) → length forms ≡ 2 → forms ≡ get_or forms 0 d ∷ get_or forms 1 d ∷ []
two [] d e = absurd (omega arith)
two (f ∷ []) d e = absurd (omega arith)
two (f ∷ g ∷ []) d e = refl
two (f ∷ g ∷ h ∷ rest) d e = absurd (omega arith)

pub pair_at : (bits : List Bool) (forms : List Form) (f g : Form) → length forms ≡ 2 → f ≡ get_or forms 0 f
    → g ≡ get_or forms 1 g → product_at bits forms ≡ (form_value bits f && form_value bits g)
pair_at bits forms f g e ef eg =
    ap (product_at bits) (two forms f e)
    ∙ ap (λ t. product_at bits (get_or forms 0 f ∷ t ∷ [])) (by_default forms 1 f g (omega arith) ∙ sym eg)
    ∙ ap (λ t. product_at bits (t ∷ g ∷ [])) (sym ef)
    ∙ ap (λ t. form_value bits f && t) (and_true (form_value bits g))

plane : (a b s t : Bool) → s ≡ xor a b → t ≡ xor s true → (a && t) ≡ (a && b)
plane true true s t es et = et ∙ ap (λ u. xor u true) es
plane true false s t es et = et ∙ ap (λ u. xor u true) es
plane false b s t es et = refl

-- A (A + B + 1) is A B
pub on_plane : (bits : List Bool) (a b both third : Form) → IsSum a b both → IsTurned both true third
    → (form_value bits a && form_value bits third) ≡ (form_value bits a && form_value bits b)
on_plane bits a b both third sum turned =
    plane (form_value bits a) (form_value bits b) (form_value bits both) (form_value bits third) (sum bits) (turned bits)

xor_comm : (a b : Bool) → xor a b ≡ xor b a
xor_comm true true = refl
xor_comm true false = refl
xor_comm false true = refl
xor_comm false false = refl

-- and B (A + B + 1) is, too
pub on_plane_too : (bits : List Bool) (a b both third : Form) → IsSum a b both → IsTurned both true third
    → (form_value bits b && form_value bits third) ≡ (form_value bits a && form_value bits b)
on_plane_too bits a b both third sum turned =
    plane (form_value bits b) (form_value bits a) (form_value bits both) (form_value bits third)
    (sum bits ∙ xor_comm (form_value bits a) (form_value bits b)) (turned bits)
    ∙ and_comm (form_value bits b) (form_value bits a)

-- ---- the controls

-- what a control asks for
abbrev pub asks : ℕ → ℕ → List Bool → ℕ → Bool
asks care want word line = cond (has care line) (same (bit_of word line) (has want line)) true

-- the literals of the first lines
pub record LiteralsOf (held : List Form) (care want k : ℕ) (literals : List Form) : Type 0 where
  pub value : (bits word : List Bool) → Tells bits held word
      → product_at bits literals ≡ all_below (asks care want word) k

pub literals_none : (held : List Form) (care want : ℕ) (literals : List Form) → literals ≡ []
    → LiteralsOf held care want 0 literals
literals_none held care want literals is = record { value = λ bits word tells. ap (product_at bits) is }

wanted : (a w : Bool) → xor a (not w) ≡ same a w
wanted true true = refl
wanted true false = refl
wanted false true = refl
wanted false false = refl

below_next : (p : ℕ → Bool) (k : ℕ) → all_below p (k + 1) ≡ (p k && all_below p k)
below_next p k = let e : k + 1 ≡ suc k = omega arith in ap (all_below p) e

pub literals_more : (held : List Form) (care want k : ℕ) (literals : List Form) (form literal : Form) (on : Bool)
    → k < length held → form ≡ get_or held k form → has care k ≡ true → on ≡ has want k → IsTurned form (not on) literal
    → LiteralsOf held care want k literals → LiteralsOf held care want (k + 1) (literals ++ literal ∷ [])
literals_more held care want k literals form literal on lt is there eo turned so_far = record {
  value = λ bits word tells.
      let p : ℕ → Bool = asks care want word in
      let here : form_value bits literal ≡ p k =
      turned bits ∙ wanted (form_value bits form) on
      ∙ ap (λ (t : Bool). same t on) (ap (form_value bits) is ∙ sym (tells.each k form lt))
      ∙ ap (same (bit_of word k)) eo
      ∙ ap (λ (t : Bool). cond t (same (bit_of word k) (has want k)) true) (sym there) in
      product_at-push bits literals literal
      ∙ ap (λ (t : Bool). t && form_value bits literal) (so_far.value bits word tells)
      ∙ ap (λ (t : Bool). all_below p k && t) here
      ∙ and_comm (all_below p k) (p k)
      ∙ sym (below_next p k);
}

pub literals_same : (held : List Form) (care want k : ℕ) (literals : List Form) → has care k ≡ false
    → LiteralsOf held care want k literals → LiteralsOf held care want (k + 1) literals
literals_same held care want k literals off so_far = record {
  value = λ bits word tells.
      let p : ℕ → Bool = asks care want word in
      so_far.value bits word tells
      ∙ ap (λ (t : Bool). cond t (same (bit_of word k) (has want k)) true && all_below p k) (sym off)
      ∙ sym (below_next p k);
}

pub literals_all : (held : List Form) (care want k : ℕ) (literals : List Form) → k ≡ length held
    → LiteralsOf held care want k literals → AreLiterals held care want literals
unfolding holds
literals_all held care want k literals e so_far bits word tells =
    so_far.value bits word tells ∙ ap (all_below (asks care want word)) (e ∙ sym tells.count)

-- ---- a form of one column

pub one_column : (bits : List Bool) (form : Form) (column : ℕ) → form.columns.items ≡ column ∷ []
    → form.constant ≡ false → form_value bits form ≡ bit_of bits column
one_column bits form column ec ek =
    ap (λ (b : Bool). xor b (sum_at bits form.columns.items)) ek ∙ false_xor (sum_at bits form.columns.items)
    ∙ ap (sum_at bits) ec ∙ xor_false (bit_of bits column)

-- the column of a term is its product
pub column_is : (terms : List Term) (first j : ℕ) (literals : List Form) (term : Term) (form : Form) → j < length terms
    → term ≡ get_or terms j term → form.columns.items ≡ (first + j) ∷ [] → form.constant ≡ false
    → AreSameProduct literals term.factors.items → IsAdded terms first literals form
column_is terms first j literals term form lt is ec ek same bits meets =
    one_column bits form (first + j) ec ek
    ∙ meets j term lt
    ∙ ap (λ (t : Term). product_at bits t.factors.items) (sym is)
    ∙ sym (same bits)
