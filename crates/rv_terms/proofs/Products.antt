-- Which products are 1.
use Rattle.std.proofs.Common.{◌≡◌, ℕ, ◌<◌, ◌^◌, ◌*◌, ◌%◌, Bool, true, false, ◌&&◌, ◌||◌, List, refl, sym, ◌∙◌, ap, arith, eq-eqb}
use Rattle.std.specs.Prelude.{bit_or}
use Rattle.std.proofs.lemmas.Bool.{eqb-true}
use Rattle.std.proofs.lemmas.Nat.{one_shl}
use Rattle.rv_gate.specs.Word.{has, bit_of, ones_of}
use Rattle.rv_gate.proofs.Bits.{same_bool}
use Rattle.rv_gate.proofs.LineSets.{subset_from_and, and_from_subset, has-none, has-line, has-or, has_self}
use Rattle.rv_gate.proofs.inside.Ones.{has-ones_of}
use Rattle.rv_terms.specs.Products.{all_on, value, always}
use Rattle.rv_terms.specs.declared.product.Product.{Product}

-- ---- sets of lines

-- each line of the set has the bit 1
abbrev pub Each : ℕ → List Bool → Type 0
Each lines word = (line : ℕ) → has lines line ≡ true → bit_of word line ≡ true

pub all_on-each : (lines : ℕ) (word : List Bool) → all_on lines word ≡ true → Each lines word
unfolding all_on
all_on-each lines word on line h =
    sym (has-ones_of word line) ∙ subset_from_and lines (ones_of word) (eqb-true _ _ on) line h

pub all_on-from : (lines : ℕ) (word : List Bool) → Each lines word → all_on lines word ≡ true
unfolding all_on
all_on-from lines word each =
    eq-eqb _ _ (and_from_subset lines (ones_of word) (λ line h. has-ones_of word line ∙ each line h))

pub all_on-none : (word : List Bool) → all_on 0 word ≡ true
all_on-none word = all_on-from 0 word (λ line h. absurd (let e = has-none line in cc))

pub all_on-line : (line : ℕ) (word : List Bool) → all_on (2 ^ line) word ≡ bit_of word line
all_on-line line word =
    same_bool _ _ (λ on. all_on-each (2 ^ line) word on line (has_self line))
    (λ on. all_on-from (2 ^ line) word (λ other h.
    let e : other ≡ line = eqb-true _ _ (sym (has-line line other) ∙ h) in
    ap (bit_of word) e ∙ on))

pub and_both : (a b : Bool) → a ≡ true → b ≡ true → (a && b) ≡ true
and_both a b p q = grind arith

pub and_first : (a b : Bool) → (a && b) ≡ true → a ≡ true
and_first a b p = grind arith

pub and_second : (a b : Bool) → (a && b) ≡ true → b ≡ true
and_second a b p = grind arith

or_split : (a b c : Bool) → (a || b) ≡ true → (a ≡ true → c ≡ true) → (b ≡ true → c ≡ true) → c ≡ true
or_split true b c p f g = f refl
or_split false b c p f g = g p

or_one : (a b : Bool) → a ≡ true → (a || b) ≡ true
or_one a b p = grind arith

or_other : (a b : Bool) → b ≡ true → (a || b) ≡ true
or_other a b p = grind arith

pub all_on-or : (a b : ℕ) (word : List Bool) → all_on (bit_or a b) word ≡ (all_on a word && all_on b word)
all_on-or a b word =
    same_bool _ _ (λ on.
    and_both _ _ (all_on-from a word (λ line h.
    all_on-each (bit_or a b) word on line (has-or a b line ∙ or_one (has a line) (has b line) h)))
    (all_on-from b word (λ line h.
    all_on-each (bit_or a b) word on line (has-or a b line ∙ or_other (has a line) (has b line) h))))
    (λ both. all_on-from (bit_or a b) word (λ line h.
    or_split (has a line) (has b line) (bit_of word line) (sym (has-or a b line) ∙ h)
    (all_on-each a word (and_first _ _ both) line) (all_on-each b word (and_second _ _ both) line)))

-- ---- products

pub value-always : (x v : List Bool) → value always x v ≡ true
value-always x v = and_both _ _ (all_on-none x) (all_on-none v)

four : (a b c d : Bool) → ((a && b) && (c && d)) ≡ ((a && c) && (b && d))
four a b c d = grind arith

pub value-times : (a b c : Product) (x v : List Bool) → c.lines ≡ bit_or a.lines b.lines → c.paths ≡ bit_or a.paths b.paths
    → value c x v ≡ (value a x v && value b x v)
value-times a b c x v l p =
    ap (λ s. all_on s x && all_on c.paths v) l
    ∙ ap (λ s. all_on (bit_or a.lines b.lines) x && all_on s v) p
    ∙ ap (λ t. t && all_on (bit_or a.paths b.paths) v) (all_on-or a.lines b.lines x)
    ∙ ap (λ t. (all_on a.lines x && all_on b.lines x) && t) (all_on-or a.paths b.paths v)
    ∙ four (all_on a.lines x) (all_on b.lines x) (all_on a.paths v) (all_on b.paths v)

true_and : (a b c : Bool) → a ≡ b → c ≡ true → (a && c) ≡ b
true_and a b c e f = grind arith

and_true_first : (a b c : Bool) → a ≡ b → c ≡ true → (c && a) ≡ b
and_true_first a b c e f = grind arith

pub value-line : (p : Product) (line : ℕ) (x v : List Bool) → line < 64 → p.lines ≡ 1 * 2 ^ line % 2 ^ 64 → p.paths ≡ 0
    → value p x v ≡ bit_of x line
value-line p line x v lt l none =
    true_and _ _ _ (ap (λ s. all_on s x) (l ∙ one_shl line 64 lt) ∙ all_on-line line x) (ap (λ s. all_on s v) none ∙ all_on-none v)

pub value-path : (p : Product) (path : ℕ) (x v : List Bool) → path < 64 → p.paths ≡ 1 * 2 ^ path % 2 ^ 64 → p.lines ≡ 0
    → value p x v ≡ bit_of v path
value-path p path x v lt l none =
    and_true_first _ _ _ (ap (λ s. all_on s v) (l ∙ one_shl path 64 lt) ∙ all_on-line path v) (ap (λ s. all_on s x) none ∙ all_on-none x)
