-- What is known of the circuit's word: in a sum, after a flip, and at the end.
use Rattle.std.proofs.Common.{◌≡◌, ℕ, ◌<◌, ◌≤◌, Bool, false, List, [], length, get_or, set, inl, inr, sym, ap, ap₂, ◌∙◌, arith, subst, length-set, get_or-set_same, get_or-set_other}
use Rattle.std.proofs.lemmas.Bool.{cases_eq}
use Rattle.std.proofs.lemmas.List.{set-set, set-get_or}
use Rattle.rv_gate.specs.Gate.{act, holds, xor}
use Rattle.rv_gate.specs.Word.{has}
use Rattle.rv_gate.specs.declared.gate.Shape.{Shape}
use Rattle.rv_gate.specs.declared.gate.Shape.TheVariants.{Flip}
use Rattle.rv_gate.proofs.Bits.{xor_back, xor_same}
use Rattle.rv_gate.proofs.inside.GateLemmas.{flip_if, holds-set, length-act}
use Rattle.rv_net.proofs.Step.{Word, bit}
use Rattle.rv_terms.specs.Products.{odd}
use Rattle.rv_terms.specs.declared.sum.Sum.{Sum}
use Rattle.rv_sums.specs.inside.State.{AreCopies, AreTurned, Holds, HoldsAfter, TurnsBack, word_at}
use Rattle.rv_sums.proofs.inside.States.{bit-word_at, length-word_at, word_at-set}

pub holds_none : (facts : List Sum) (u : Word) → facts ≡ [] → Holds facts u
holds_none facts u none =
    let P : List Sum → Type 0 = λ l. Holds l u in
    subst P (sym none) (record { few = omega arith; bits = λ line v lt. absurd (omega arith) })

pub holds_copies : (facts made : List Sum) (u : Word) → AreCopies facts made → Holds facts u → Holds made u
holds_copies facts made u copies h = record {
  few = omega (arith, copies.lines, h.few);
  bits = λ line v lt. ap (λ w. bit w line) (copies.ends u v) ∙ h.bits line v (omega (arith, copies.lines));
}

-- those of a word that is what the sums are
pub holds_start : (sums : List Sum) (u : Word) → length sums ≤ length u → ((v : Word) → word_at sums u v ≡ u) → Holds sums u
holds_start sums u le is = record { few = le; bits = λ line v lt. ap (λ w. bit w line) (is v) }

-- ---- in a sum

pub told_at : (facts : List Sum) (line at : ℕ) (fact sum made : Sum) (x v : Word) → at ≡ line → line < length facts → fact ≡ get_or facts at fact
    → (line < length x → odd made x v ≡ odd sum (set x line (odd fact x v)) v) → Holds facts x → odd made x v ≡ odd sum x v
told_at facts line at fact sum made x v same lt is put h =
    put (omega (arith, h.few))
    ∙ ap (λ y. odd sum y v)
    (ap (set x line)
    (sym (bit-word_at facts line fact x v lt (is ∙ ap (λ k. get_or facts k fact) same)) ∙ h.bits line v lt)
    ∙ set-get_or x line false)

same_by_xor : (a b : Bool) → xor a b ≡ false → a ≡ b
same_by_xor a b e = grind (arith, e)

pub lacks : (line : ℕ) (none sum without rest : Sum) → ((x v : Word) → odd none x v ≡ false)
    → ((x v : Word) → line < length x → odd without x v ≡ odd sum (set x line (odd none x v)) v)
    → ((x v : Word) → odd rest x v ≡ xor (odd sum x v) (odd without x v)) → ((x v : Word) → odd rest x v ≡ false)
    → (x v : Word) (b : Bool) → line < length x → odd sum (set x line b) v ≡ odd sum x v
lacks line none sum without rest is_none is_without is_rest nought x v b lt =
    let clear : (y : Word) → line < length y → odd sum y v ≡ odd sum (set y line false) v = λ y below.
    same_by_xor (odd sum y v) (odd without y v) (sym (is_rest y v) ∙ nought y v)
    ∙ is_without y v below ∙ ap (λ c. odd sum (set y line c) v) (is_none y v) in
    clear (set x line b) (omega (arith, length-set x line b, lt))
    ∙ ap (λ y. odd sum y v) (set-set x line b false) ∙ sym (clear x lt)

-- ---- a flip, by the bits after it

pub holding_same : (care want target : ℕ) (sum : Sum) (u v : Word) → has care target ≡ false
    → odd sum (act (Flip care want target) u) v ≡ holds care want (act (Flip care want target) u)
    → odd sum (act (Flip care want target) u) v ≡ holds care want u
holding_same care want target sum u v free is =
    is ∙ ap (holds care want) (flip_if (holds care want u) u target) ∙ holds-set care want target u (xor (holds care want u) (bit u target)) free

pub holding_told : (care want target : ℕ) (sum told : Sum) (u v : Word) → target < length u
    → ((x w : Word) (b : Bool) → target < length x → odd told (set x target b) w ≡ odd told x w)
    → odd told u v ≡ odd sum u v → odd sum u v ≡ holds care want u
    → odd told (act (Flip care want target) u) v ≡ holds care want u
holding_told care want target sum told u v lt free same is =
    ap (λ y. odd told y v) (flip_if (holds care want u) u target)
    ∙ free u v (xor (holds care want u) (bit u target)) lt ∙ same ∙ is

pub turns_back : (care want target : ℕ) (with : Sum) (u v : Word) → target < length u
    → odd with (act (Flip care want target) u) v ≡ xor (holds care want u) (bit (act (Flip care want target) u) target)
    → set (act (Flip care want target) u) target (odd with (act (Flip care want target) u) v) ≡ u
turns_back care want target with u v lt is =
    let now : Word = act (Flip care want target) u in
    let next : Bool = xor (holds care want u) (bit u target) in
    let here : now ≡ set u target next = flip_if (holds care want u) u target in
    let before : odd with now v ≡ bit u target =
    is ∙ ap (λ y. xor (holds care want u) (bit y target)) here
    ∙ ap (xor (holds care want u)) (get_or-set_same u target next false lt) ∙ xor_back (holds care want u) (bit u target) in
    ap₂ (λ y b. set y target b) here before ∙ set-set u target next (bit u target) ∙ set-get_or u target false

-- ---- what is known of another word

-- on another line
other_line : (line k : ℕ) (with : Sum) (old turned : List Sum) (u y v : Word) → AreTurned line with old turned → line < length y → (k ≡ line → ⊥)
    → set y line (odd with y v) ≡ u → k < length old → Holds old u → bit (word_at turned y v) k ≡ bit y k
other_line line k with old turned u y v is lt apart back below h =
    ap (λ w. bit w k) (is.ends y v lt ∙ ap (λ w. word_at old w v) back) ∙ h.bits k v below
    ∙ ap (λ w. bit w k) (sym back) ∙ get_or-set_other y line k (odd with y v) false apart

own_line : (a b c d : Bool) → a ≡ b → c ≡ b → xor (xor a c) d ≡ d
own_line a b c d ea ec = grind (arith, ea, ec)

this_line : (line at : ℕ) (with here plus own : Sum) (old turned new : List Sum) (u y v : Word) → AreTurned line with old turned → at ≡ line → line < length y
    → line < length old → set y line (odd with y v) ≡ u → here ≡ get_or turned at here
    → odd plus y v ≡ xor (odd here y v) (odd with y v) → odd own y v ≡ xor (odd plus y v) (bit y line)
    → new ≡ set turned at own → Holds old u → bit (word_at new y v) line ≡ bit y line
this_line line at with here plus own old turned new u y v is same lt below back first is_plus is_own now h =
    let in_turned : line < length turned = omega (arith, is.lines) in
    let known : odd here y v ≡ bit u line =
    sym (bit-word_at turned line here y v in_turned (first ∙ ap (λ k. get_or turned k here) same))
    ∙ ap (λ w. bit w line) (is.ends y v lt ∙ ap (λ w. word_at old w v) back) ∙ h.bits line v below in
    let before : odd with y v ≡ bit u line =
    sym (get_or-set_same y line (odd with y v) false lt) ∙ ap (λ w. bit w line) back in
    let long : line < length (word_at turned y v) = omega (arith, length-word_at turned y v) in
    ap (λ l. bit (word_at l y v) line) (now ∙ ap (λ k. set turned k own) same)
    ∙ ap (λ w. bit w line) (word_at-set turned line own y v)
    ∙ get_or-set_same (word_at turned y v) line (odd own y v) false long
    ∙ is_own ∙ ap (λ b. xor b (bit y line)) is_plus
    ∙ own_line (odd here y v) (bit u line) (odd with y v) (bit y line) known before

fewer : (line : ℕ) (with : Sum) (old turned : List Sum) (u y v : Word) → AreTurned line with old turned → set y line (odd with y v) ≡ u → Holds old u
    → length turned ≤ length y
fewer line with old turned u y v is back h =
    omega (arith, is.lines, h.few, sym (length-set y line (odd with y v)) ∙ ap length back)

pub turned_less : (line at : ℕ) (with : Sum) (old new : List Sum) (u y : Word) → AreTurned line with old new → at ≡ line → line < length y
    → length new ≤ at → ((v : Word) → set y line (odd with y v) ≡ u) → Holds old u → Holds new y
turned_less line at with old new u y is same lt past back h = record {
  few = fewer line with old new u y [] is (back []) h;
  bits = λ k v below. other_line line k with old new u y v is lt (λ e. omega (arith, e)) (back v) (omega (arith, is.lines)) h;
}

pub turned_own : (line at : ℕ) (with here plus own : Sum) (old turned new : List Sum) (u y : Word) → AreTurned line with old turned → at ≡ line → line < length y
    → at < length turned → ((v : Word) → set y line (odd with y v) ≡ u) → here ≡ get_or turned at here
    → ((v : Word) → odd plus y v ≡ xor (odd here y v) (odd with y v)) → ((v : Word) → odd own y v ≡ xor (odd plus y v) (bit y line))
    → new ≡ set turned at own → length new ≡ length turned → Holds old u → Holds new y
turned_own line at with here plus own old turned new u y is same lt below back first is_plus is_own now count h = record {
  few = omega (arith, count, fewer line with old turned u y [] is (back []) h);
  bits = λ k v less.
      elim (cases_eq k line) [
        | inl e ↦
            let goes : bit (word_at new y v) line ≡ bit y line =
            this_line line at with here plus own old turned new u y v is same lt (omega (arith, is.lines)) (back v) first (is_plus v) (is_own v) now h in
            ap (bit (word_at new y v)) e ∙ goes ∙ sym (ap (bit y) e)
        | inr apart ↦
            ap (λ l. bit (word_at l y v) k) (now ∙ ap (λ j. set turned j own) same)
            ∙ ap (λ w. bit w k) (word_at-set turned line own y v)
            ∙ get_or-set_other (word_at turned y v) line k (odd own y v) false apart
            ∙ other_line line k with old turned u y v is lt apart (back v) (omega (arith, is.lines, count)) h
      ];
}

pub after_flip : (lines : ℕ) (g : Shape) (line : ℕ) (with : Sum) (old new : List Sum) → line < lines → TurnsBack old lines g line with
    → ((u y : Word) → line < length y → ((v : Word) → set y line (odd with y v) ≡ u) → Holds old u → Holds new y) → HoldsAfter lines g old new
after_flip lines g line with old new lt back turned u len h =
    turned u (act g u) (omega (arith, length-act g u)) (λ v. back u v len h) h

-- ---- at the end

pub line_told : (facts : List Sum) (line : ℕ) (fact sum : Sum) (x v : Word) → line < length facts → fact ≡ get_or facts line fact
    → odd sum x v ≡ odd fact x v → Holds facts x → odd sum x v ≡ bit x line
line_told facts line fact sum x v lt is same h = same ∙ sym (bit-word_at facts line fact x v lt is) ∙ h.bits line v lt

-- ---- a line of which nothing is known any more

pub nought_at : (facts : List Sum) (line at : ℕ) (fact own both : Sum) (x v : Word) → at ≡ line → line < length facts → fact ≡ get_or facts at fact
    → odd own x v ≡ bit x line → odd both x v ≡ xor (odd fact x v) (odd own x v) → Holds facts x → odd both x v ≡ false
nought_at facts line at fact own both x v same lt is is_own is_both h =
    let known : odd fact x v ≡ bit x line =
    sym (bit-word_at facts line fact x v lt (is ∙ ap (λ k. get_or facts k fact) same)) ∙ h.bits line v lt in
    is_both ∙ ap₂ xor known is_own ∙ xor_same (bit x line)

pub lost : (facts facts2 : List Sum) (line at : ℕ) (own : Sum) (x : Word) → at ≡ line → line < length facts → ((v : Word) → odd own x v ≡ bit x line)
    → facts2 ≡ set facts at own → Holds facts x → Holds facts2 x
lost facts facts2 line at own x same lt is_own now h =
    let here : facts2 ≡ set facts line own = now ∙ ap (λ k. set facts k own) same in
    let count : length facts2 ≡ length facts = ap length here ∙ length-set facts line own in
    record {
      few = omega (arith, count, h.few);
      bits = λ k v less.
          let long : line < length (word_at facts x v) = omega (arith, length-word_at facts x v) in
          elim (cases_eq k line) [
            | inl e ↦
                let goes : bit (word_at facts2 x v) line ≡ bit x line =
                ap (λ l. bit (word_at l x v) line) here ∙ ap (λ w. bit w line) (word_at-set facts line own x v)
                ∙ get_or-set_same (word_at facts x v) line (odd own x v) false long ∙ is_own v in
                ap (bit (word_at facts2 x v)) e ∙ goes ∙ sym (ap (bit x) e)
            | inr apart ↦
                ap (λ l. bit (word_at l x v) k) here ∙ ap (λ w. bit w k) (word_at-set facts line own x v)
                ∙ get_or-set_other (word_at facts x v) line k (odd own x v) false apart ∙ h.bits k v (omega (arith, count))
          ];
    }
