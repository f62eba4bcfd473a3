-- Gates that commute: the rule, and what it means for words.
use Rattle.std.proofs.Common.{◌≡◌, ◌≢◌, ℕ, zero, suc, ◌/◌, ◌%◌, ◌^◌, ◌<◌, ◌≤◌, Bool, true, false, not, cond, ◌&&◌, eqb, List, length, map, sym, ◌∙◌, ap, inl, inr, arith, ext_get_or, length-set, get_or-set_same, get_or-set_other, eq-eqb, ne_eqb}
use Rattle.std.specs.Prelude.{bit_and, ◌⊎◌}
use Rattle.std.specs.List.{range_with_len}
use Rattle.std.specs.Int.{bit_at}
use Rattle.std.proofs.lemmas.Bool.{cases_eq, cases_Bool, cond-true, cond-false, eqb-true, false≢true, and_parts, and_from, or_from, or_parts, or_cases, not-true, false_from_ne_true}
use Rattle.std.proofs.lemmas.List.FromFn.{length-map-range_with_len, get_or-map-range_with_len}
use Rattle.std.proofs.lemmas.Nat.Bits.{bit_at-zero, bit_at-suc, bit_at_lowest}
use Rattle.rv_gate.specs.Word.{has, bit_of}
use Rattle.rv_gate.specs.Gate.{same, holds, flip, act, controls, wanted, targets, touched, is_flip, FitsIn, IsGate, IsFlip}
use Rattle.rv_gate.specs.Commuting.{Commutes, DifferOn, meet, opposed, rule}
use Rattle.rv_gate.specs.declared.gate.Shape.{Shape}
use Rattle.rv_gate.specs.declared.gate.Shape.TheVariants.{Flip, Swap, Peres}
use Rattle.rv_gate.proofs.LineSets.{Apart, has_one, has-and, has-or, has-xor, has-line, has_self}
use Rattle.rv_gate.proofs.inside.GateLemmas.{holds_Decides, holds-set, length-act}
use Rattle.rv_gate.proofs.Acting.{TargetsBelow-fits, bit_of-act_other, bit_of-act_local, idle, controls-targets, touches-control}
use Rattle.rv_gate.proofs.Bits.{same_true}

-- ---- sets that meet

not_same : (x y : Bool) → not (same x y) ≡ true → x ≢ y
not_same x y h k = grind arith

ne_same : (x y : Bool) → x ≢ y → not (same x y) ≡ true
ne_same x y h = grind arith

-- a number that is not 0 has a bit
some_bit : (k n : ℕ) → n ≤ k → n ≢ 0 → (i : ℕ) × (has n i ≡ true)
some_bit zero n h ne = absurd (omega arith)
some_bit (suc k) n h ne =
    elim (cases_eq (n % 2) 1) [
      | inl odd ↦ (0, eq-eqb _ 1 (bit_at_lowest n ∙ odd))
      | inr even ↦
          let found = some_bit k (n / 2) (omega arith) (λ e. omega arith) in
          (suc found.0, ap (λ b. eqb b 1) (bit_at-suc n found.0) ∙ found.1)
    ]

pub meet_at : (x y : ℕ) → meet x y ≡ true → (line : ℕ) × (has x line ≡ true) × (has y line ≡ true)
meet_at x y h =
    let ne : bit_and x y ≢ 0 = λ e. false≢true (sym (ap not (eq-eqb (bit_and x y) 0 e)) ∙ h) in
    let found = some_bit (bit_and x y) (bit_and x y) (omega arith) ne in
    let both = and_parts _ _ (sym (has-and x y found.0) ∙ found.1) in
    (found.0, both.0, both.1)

pub meet-has : (x y line : ℕ) → has x line ≡ true → has y line ≡ true → meet x y ≡ true
meet-has x y line hx hy =
    ap not (ne_eqb (bit_and x y) 0 (λ e.
    let one : has (bit_and x y) line ≡ true = has-and x y line ∙ and_from _ _ hx hy in
    let z = bit_at-zero line in
    let o : bit_at 0 line ≡ 1 = ap (λ n. bit_at n line) (sym e) ∙ has_one (bit_and x y) line one in
    omega arith))

pub apart : (x y : ℕ) → meet x y ≡ false → Apart x y
apart x y h line hx = false_from_ne_true _ (λ hy. false≢true (sym h ∙ meet-has x y line hx hy))

-- ---- the rule by lines

abbrev Opposed : Shape → Shape → Type 0
Opposed g h = (line : ℕ) × (has (controls g) line ≡ true) × (has (controls h) line ≡ true) × (has (wanted g) line ≢ has (wanted h) line)

abbrev Clear : Bool → Shape → Shape → Type 0
Clear true g h = Apart (targets g) (controls h) × Apart (targets h) (controls g)
Clear false g h = Apart (targets g) (touched h) × Apart (targets h) (touched g)

to_opposed : (g h : Shape) → opposed g h ≡ true → Opposed g h
to_opposed g h e =
    let m = meet_at _ _ e in
    let both = and_parts _ _ (sym (has-and (controls g) (controls h) m.0) ∙ m.1) in
    (m.0, both.0, both.1, not_same _ _ (sym (has-xor (wanted g) (wanted h) m.0) ∙ m.2))

from_opposed : (g h : Shape) → Opposed g h → opposed g h ≡ true
from_opposed g h o =
    meet-has _ _ o.0 (has-and (controls g) (controls h) o.0 ∙ and_from _ _ o.1 o.2) (has-xor (wanted g) (wanted h) o.0 ∙ ne_same _ _ o.3)

abbrev test_of : Bool → Shape → Shape → Bool
test_of b g h =
    cond b (not (meet (targets g) (controls h)) && not (meet (targets h) (controls g)))
    (not (meet (targets g) (touched h)) && not (meet (targets h) (touched g)))

to_clear : (b : Bool) (g h : Shape) → test_of b g h ≡ true → Clear b g h
to_clear true g h e = let p = and_parts _ _ e in (apart _ _ (not-true _ p.0), apart _ _ (not-true _ p.1))
to_clear false g h e = let p = and_parts _ _ e in (apart _ _ (not-true _ p.0), apart _ _ (not-true _ p.1))

pub to_rule : (g h : Shape) → rule g h ≡ true → Opposed g h ⊎ Clear (is_flip g && is_flip h) g h
unfolding rule
to_rule g h e =
    elim (or_cases (opposed g h) (test_of (is_flip g && is_flip h) g h) e) [
      | inl o ↦ inl (to_opposed g h o)
      | inr t ↦ inr (to_clear _ g h t)
    ]

-- ---- gates whose targets the other doesn't touch

Commutes-at : (g h : Shape) (word : List Bool) (line : ℕ) → FitsIn g (length word) → FitsIn h (length word)
    → Apart (targets g) (touched h) → Apart (targets h) (touched g)
    → has (targets g) line ≡ true → bit_of (act h (act g word)) line ≡ bit_of (act g (act h word)) line
Commutes-at g h word line fg fh gh hg at =
    let lg : length (act g word) ≡ length word = length-act g word in
    let lh : length (act h word) ≡ length word = length-act h word in
    let free = or_parts _ _ (sym (has-or (controls h) (targets h) line) ∙ gh line at) in
    bit_of-act_other h (act g word) line (TargetsBelow-fits h _ (rw lg fh)) free.1
    ∙ bit_of-act_local g word (act h word) line (TargetsBelow-fits g _ fg) (sym lh)
    (λ j touched. sym (bit_of-act_other h word j (TargetsBelow-fits h _ fh) (false_from_ne_true _ (λ t. false≢true (sym (hg j t) ∙ touched)))))
    at

agree_apart : (g h : Shape) (word : List Bool) → FitsIn g (length word) → FitsIn h (length word)
    → Apart (targets g) (touched h) → Apart (targets h) (touched g)
    → act h (act g word) ≡ act g (act h word)
agree_apart g h word fg fh gh hg =
    let lg : length (act g word) ≡ length word = length-act g word in
    let lh : length (act h word) ≡ length word = length-act h word in
    ext_get_or false _ _ (length-act h (act g word) ∙ lg ∙ sym (length-act g (act h word) ∙ lh))
    (λ line within.
    elim (cases_Bool (has (targets g) line)) [
      | inl got ↦ Commutes-at g h word line fg fh gh hg got
      | inr off ↦
          (elim (cases_Bool (has (targets h) line)) [
            | inl got ↦ sym (Commutes-at h g word line fh fg hg gh got)
            | inr away ↦
                bit_of-act_other h (act g word) line (TargetsBelow-fits h _ (rw lg fh)) away ∙ bit_of-act_other g word line (TargetsBelow-fits g _ fg) off
                ∙ sym (bit_of-act_other g (act h word) line (TargetsBelow-fits g _ (rw lh fg)) off ∙ bit_of-act_other h word line (TargetsBelow-fits h _ fh) away)
          ])
    ])

-- ---- gates with opposite wanted values on a line

third : (b x y : Bool) → x ≢ y → (b ≢ x) ⊎ (b ≢ y)
third b x y h = grind arith

agree_opposed : (g h : Shape) (word : List Bool) → IsGate g → IsGate h → FitsIn g (length word) → FitsIn h (length word) → Opposed g h
    → act h (act g word) ≡ act g (act h word)
agree_opposed g h word vg vh fg fh o =
    let line = o.0 in
    let lt : line < length word = fg line (touches-control g line o.1) in
    elim (third (bit_of word line) (has (wanted g) line) (has (wanted h) line) o.3) [
      | inl off ↦
          let same : bit_of (act h word) line ≡ bit_of word line = bit_of-act_other h word line (TargetsBelow-fits h _ fh) (controls-targets h vh line o.2) in
          ap (act h) (idle g word line lt o.1 off)
          ∙ sym (idle g (act h word) line (omega (arith, lt, length-act h word)) o.1 (λ e. off (sym same ∙ e)))
      | inr off ↦
          let same : bit_of (act g word) line ≡ bit_of word line = bit_of-act_other g word line (TargetsBelow-fits g _ fg) (controls-targets g vg line o.1) in
          idle h (act g word) line (omega (arith, lt, length-act g word)) o.2 (λ e. off (sym same ∙ e))
          ∙ ap (act g) (sym (idle h word line lt o.2 off))
    ]

-- ---- two flips with the same target

pub two_flips : (t ca wa cb wb : ℕ) (word : List Bool) → has cb t ≡ false
    → act (Flip cb wb t) (act (Flip ca wa t) word)
    ≡ cond (holds ca wa word) (cond (holds cb wb word) (flip (flip word t) t) (flip word t)) (cond (holds cb wb word) (flip word t) word)
two_flips t ca wa cb wb word free =
    let kept : holds cb wb (flip word t) ≡ holds cb wb word = holds-set cb wb t word (not (bit_of word t)) free in
    elim (cases_Bool (holds ca wa word)) [
      | inl got ↦
          ap (act (Flip cb wb t)) (cond-true (holds ca wa word) (flip word t) word got)
          ∙ ap (λ b. cond b (flip (flip word t) t) (flip word t)) kept
          ∙ sym (cond-true (holds ca wa word) _ _ got)
      | inr off ↦
          ap (act (Flip cb wb t)) (cond-false (holds ca wa word) (flip word t) word off) ∙ sym (cond-false (holds ca wa word) _ _ off)
    ]

cond_turn : (x y : Bool) (u v w : List Bool) → cond x (cond y u v) (cond y v w) ≡ cond y (cond x u v) (cond x v w)
cond_turn x y u v w = grind arith

agree_flips : (ca wa t cb wb s : ℕ) (word : List Bool) → FitsIn (Flip ca wa t) (length word) → FitsIn (Flip cb wb s) (length word)
    → has cb t ≡ false → has ca s ≡ false
    → act (Flip cb wb s) (act (Flip ca wa t) word) ≡ act (Flip ca wa t) (act (Flip cb wb s) word)
agree_flips ca wa t cb wb s word fg fh gh hg =
    elim (cases_eq t s) [
      | inl e ↦
          let e2 = sym e in
          let hg2 : has ca t ≡ false = rw e hg in
          rw e2 (two_flips t ca wa cb wb word gh ∙ cond_turn (holds ca wa word) (holds cb wb word) (flip (flip word t) t) (flip word t) word ∙ sym (two_flips t cb wb ca wa word hg2))
      | inr ne ↦
          agree_apart (Flip ca wa t) (Flip cb wb s) word fg fh
          (λ line on. let at : line ≡ t = eqb-true _ _ (sym (has-line t line) ∙ on) in has-or cb (2 ^ s) line ∙ or_from _ _ (ap (has cb) at ∙ gh) (has-line s line ∙ ne_eqb _ _ (λ e. ne (sym at ∙ e))))
          (λ line on. let at : line ≡ s = eqb-true _ _ (sym (has-line s line) ∙ on) in has-or ca (2 ^ t) line ∙ or_from _ _ (ap (has ca) at ∙ hg) (has-line t line ∙ ne_eqb _ _ (λ e. ne (sym e ∙ at))))
    ]

agree_clear : (g h : Shape) (word : List Bool) → FitsIn g (length word) → FitsIn h (length word) → Clear (is_flip g && is_flip h) g h
    → act h (act g word) ≡ act g (act h word)
agree_clear (Flip ca wa t) (Flip cb wb s) word fg fh k = agree_flips ca wa t cb wb s word fg fh (k.0 t (has_self t)) (k.1 s (has_self s))
agree_clear (Flip ca wa t) (Swap cb wb a b) word fg fh k = agree_apart (Flip ca wa t) (Swap cb wb a b) word fg fh k.0 k.1
agree_clear (Flip ca wa t) (Peres a b d) word fg fh k = agree_apart (Flip ca wa t) (Peres a b d) word fg fh k.0 k.1
agree_clear (Swap ca wa x y) h word fg fh k = agree_apart (Swap ca wa x y) h word fg fh k.0 k.1
agree_clear (Peres x y z) h word fg fh k = agree_apart (Peres x y z) h word fg fh k.0 k.1

-- the rule is right
pub rule_agrees : (g h : Shape) → IsGate g → IsGate h → rule g h ≡ true → Commutes g h
rule_agrees g h vg vh e = λ word fg fh.
    elim (to_rule g h e) [ inl o ↦ agree_opposed g h word vg vh fg fh o | inr k ↦ agree_clear g h word fg fh k ]

-- ---- two flips that the rule refuses

-- the word on which both act
both_word : ℕ → ℕ → ℕ → ℕ → List Bool
both_word ca wa wb n = map (λ i. cond (has ca i) (has wa i) (has wb i)) (range_with_len 0 n)

length-both_word : (ca wa wb n : ℕ) → length (both_word ca wa wb n) ≡ n
unfolding both_word
length-both_word ca wa wb n = length-map-range_with_len _ 0 n

bit_of-both_word : (ca wa wb n i : ℕ) → i < n → bit_of (both_word ca wa wb n) i ≡ cond (has ca i) (has wa i) (has wb i)
unfolding both_word
bit_of-both_word ca wa wb n i h = get_or-map-range_with_len (λ i. cond (has ca i) (has wa i) (has wb i)) 0 n i i false h (omega arith)

first_holds : (ca wa wb n : ℕ) → holds ca wa (both_word ca wa wb n) ≡ true
first_holds ca wa wb n =
    (holds_Decides ca wa (both_word ca wa wb n)).1
    (λ line within on. bit_of-both_word ca wa wb n line (omega (arith, length-both_word ca wa wb n)) ∙ ap (λ b. cond b (has wa line) (has wb line)) on)

second_holds : (ca wa cb wb n : ℕ) → ((line : ℕ) → has ca line ≡ true → has cb line ≡ true → has wa line ≡ has wb line) → holds cb wb (both_word ca wa wb n) ≡ true
second_holds ca wa cb wb n same =
    (holds_Decides cb wb (both_word ca wa wb n)).1
    (λ line within on.
    bit_of-both_word ca wa wb n line (omega (arith, length-both_word ca wa wb n))
    ∙ (elim (cases_Bool (has ca line)) [
      | inl got ↦ cond-true (has ca line) _ _ got ∙ same line got on
      | inr off ↦ cond-false (has ca line) _ _ off
    ]))

not_itself : (b : Bool) → not b ≡ b → ⊥
not_itself b h = grind arith

differs : (ca wa t cb wb s n : ℕ) → t < n → s < n → has ca t ≡ false → has cb s ≡ false
    → ((line : ℕ) → has ca line ≡ true → has cb line ≡ true → has wa line ≡ has wb line) → has cb t ≡ true
    → DifferOn n (Flip ca wa t) (Flip cb wb s)
differs ca wa t cb wb s n lt ls free_t free_s same on =
    let w : List Bool = both_word ca wa wb n in
    let len : length w ≡ n = length-both_word ca wa wb n in
    let ne : s ≢ t = λ e. false≢true (sym free_s ∙ ap (has cb) e ∙ on) in
    let hg : act (Flip ca wa t) w ≡ flip w t = cond-true (holds ca wa w) (flip w t) w (first_holds ca wa wb n) in
    let hh : act (Flip cb wb s) w ≡ flip w s = cond-true (holds cb wb w) (flip w s) w (second_holds ca wa cb wb n same) in
    let bt : bit_of w t ≡ has wb t = bit_of-both_word ca wa wb n t lt ∙ cond-false (has ca t) _ _ free_t in
    let flipped : bit_of (flip w t) t ≡ not (bit_of w t) = get_or-set_same w t _ false (omega arith) in
    let stops : act (Flip cb wb s) (flip w t) ≡ flip w t =
    idle (Flip cb wb s) (flip w t) t (omega (arith, length-set w t (not (bit_of w t)))) on (λ e. not_itself (bit_of w t) (sym flipped ∙ e ∙ sym bt)) in
    let left : bit_of (act (Flip cb wb s) (act (Flip ca wa t) w)) s ≡ bit_of w s =
    ap (λ v. bit_of (act (Flip cb wb s) v) s) hg ∙ ap (λ v. bit_of v s) stops ∙ get_or-set_other w t s _ false ne in
    let lf : t < length (flip w s) = omega (arith, length-set w s (not (bit_of w s))) in
    let right : bit_of (act (Flip ca wa t) (act (Flip cb wb s) w)) s ≡ not (bit_of w s) =
    ap (λ v. bit_of (act (Flip ca wa t) v) s) hh
    ∙ bit_of-act_other (Flip ca wa t) (flip w s) s lf (has-line t s ∙ ne_eqb _ _ ne)
    ∙ get_or-set_same w s _ false (omega arith) in
    (w, len, λ e. not_itself (bit_of w s) (sym right ∙ ap (λ v. bit_of v s) (sym e) ∙ left))

agreeing : (g h : Shape) → opposed g h ≡ false → (line : ℕ) → has (controls g) line ≡ true → has (controls h) line ≡ true → has (wanted g) line ≡ has (wanted h) line
agreeing g h e line on other =
    elim (cases_Bool (same (has (wanted g) line) (has (wanted h) line))) [
      | inl got ↦ same_true _ _ got
      | inr off ↦ absurd (false≢true (sym e ∙ from_opposed g h (line, on, other, not_same _ _ (ap not off))))
    ]

both_false : (x y : Bool) → (not x && not y) ≡ false → (x ≡ true) ⊎ (y ≡ true)
both_false x y h = grind arith

-- two flips that the rule refuses differ on some word
pub rule_differs : (g h : Shape) → IsFlip g → IsFlip h → IsGate g → IsGate h → rule g h ≡ false → (n : ℕ) → FitsIn g n → FitsIn h n
    → DifferOn n g h
unfolding rule
rule_differs (Flip ca wa t) (Flip cb wb s) _ _ vg vh e n fg fh =
    let g : Shape = Flip ca wa t in
    let h : Shape = Flip cb wb s in
    let parts = or_parts (opposed g h) _ e in
    let agree = agreeing g h parts.0 in
    let lt : t < n = TargetsBelow-fits g n fg in
    let ls : s < n = TargetsBelow-fits h n fh in
    elim (both_false (meet (targets g) (controls h)) (meet (targets h) (controls g)) parts.1) [
      | inl hit ↦
          let m = meet_at _ _ hit in
          let at : m.0 ≡ t = eqb-true _ _ (sym (has-line t m.0) ∙ m.1) in
          differs ca wa t cb wb s n lt ls vg.1 vh.1 agree (ap (has cb) (sym at) ∙ m.2)
      | inr hit ↦
          let m = meet_at _ _ hit in
          let at : m.0 ≡ s = eqb-true _ _ (sym (has-line s m.0) ∙ m.1) in
          let d = differs cb wb s ca wa t n ls lt vh.1 vg.1 (λ line on other. sym (agree line other on)) (ap (has ca) (sym at) ∙ m.2) in
          (d.0, d.1, λ e. d.2 (sym e))
    ]
rule_differs (Swap _ _ _ _) h fl _ vg vh e n fg fh = absurd (false≢true fl)
rule_differs (Peres _ _ _) h fl _ vg vh e n fg fh = absurd (false≢true fl)
rule_differs (Flip _ _ _) (Swap _ _ _ _) _ fl vg vh e n fg fh = absurd (false≢true fl)
rule_differs (Flip _ _ _) (Peres _ _ _) _ fl vg vh e n fg fh = absurd (false≢true fl)
