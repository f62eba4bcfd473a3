-- Gates depend on their own lines alone, and change no others.
use Rattle.std.proofs.Common.{◌≡◌, ℕ, Bool, true, false, ◌||◌, eqb, List, [], ◌∷◌, length, refl, sym, ◌∙◌, ap, inl, inr, ext_get_or}
use Rattle.std.proofs.lemmas.Bool.{cases_Bool, false≢true, or_left, or_right, or_parts}
use Rattle.std.proofs.lemmas.List.Elements.{All-head, All-tail, All-weaker}
use Rattle.std.specs.Prelude.{All}
use Rattle.rv_gate.specs.declared.gate.Shape.{Shape}
use Rattle.rv_gate.specs.declared.gate.Shape.TheVariants.{Flip, Swap, Peres}
use Rattle.rv_gate.specs.Word.{has, bit_of}
use Rattle.rv_gate.specs.Gate.{holds, act, run, touches, controls, targets, FitsIn, Within, AllFit}
use Rattle.rv_gate.proofs.LineSets.{has-or}
use Rattle.rv_gate.proofs.inside.GateLemmas.{holds_Decides, has-touched, length-act, length-run, fits_flip_care, fits_swap_care}
use Rattle.rv_gate.proofs.Acting.{acts, bit_after, bit_of-act, bit_of-act_other, touches-control, TargetsBelow-fits}
use Rattle.rv_resynth.specs.inside.Lines.{Covers}
use Rattle.rv_gate.proofs.Bits.{same_bool, eqb_refl}

-- two words have the same bits on the lines of a gate
abbrev pub AlikeAt : Shape → List Bool → List Bool → Type 0
AlikeAt g u v = (line : ℕ) → touches g line ≡ true → bit_of u line ≡ bit_of v line

held_alike : (care want : ℕ) (u v : List Bool) → Within care (length u)
    → ((line : ℕ) → has care line ≡ true → bit_of u line ≡ bit_of v line) → holds care want u ≡ true
    → holds care want v ≡ true
held_alike care want u v within same e =
    let old = (holds_Decides care want u).0 e in
    (holds_Decides care want v).1 (λ line lt on. sym (same line on) ∙ old line (within line on) on)

holds_alike : (care want : ℕ) (u v : List Bool) → Within care (length u) → Within care (length v)
    → ((line : ℕ) → has care line ≡ true → bit_of u line ≡ bit_of v line) → holds care want u ≡ holds care want v
holds_alike care want u v wu wv same =
    same_bool _ _ (held_alike care want u v wu same) (held_alike care want v u wv (λ line on. sym (same line on)))

acts_alike : (g : Shape) (u v : List Bool) → FitsIn g (length u) → FitsIn g (length v) → AlikeAt g u v
    → acts g u ≡ acts g v
unfolding acts
acts_alike (Flip care want target) u v fu fv same =
    holds_alike care want u v (fits_flip_care (Flip care want target) care want target (length u) refl fu)
    (fits_flip_care (Flip care want target) care want target (length v) refl fv)
    (λ line on. same line (touches-control (Flip care want target) line on))
acts_alike (Swap care want a b) u v fu fv same =
    holds_alike care want u v (fits_swap_care (Swap care want a b) care want a b (length u) refl fu) (fits_swap_care
    (Swap care want a b) care want a b (length v) refl fv)
    (λ line on. same line (touches-control (Swap care want a b) line on))
acts_alike (Peres a b d) u v fu fv same = refl

after_alike : (g : Shape) (f k : ℕ → Bool) (h : Bool) (line : ℕ) → ((i : ℕ) → touches g i ≡ true → f i ≡ k i)
    → touches g line ≡ true → bit_after g f h line ≡ bit_after g k h line
unfolding bit_after
after_alike (Flip care want target) f k h line same on =
    let e = same line on in
    let t = same target (or_right (has care target) _ (eqb_refl target)) in
    cc
after_alike (Swap care want a b) f k h line same on =
    let e = same line on in
    let ea = same a (or_left _ (eqb a b) (or_right (has care a) _ (eqb_refl a))) in
    let eb = same b (or_right (has care b || eqb b a) _ (eqb_refl b)) in
    cc
after_alike (Peres a b d) f k h line same on =
    let e = same line on in
    let ea = same a (or_left _ (eqb a d) (or_left _ (eqb a b) (eqb_refl a))) in
    let eb = same b (or_left _ (eqb b d) (or_right (eqb b a) _ (eqb_refl b))) in
    let ed = same d (or_right (eqb d a || eqb d b) _ (eqb_refl d)) in
    cc

act_alike : (g : Shape) (u v : List Bool) (line : ℕ) → FitsIn g (length u) → FitsIn g (length v) → AlikeAt g u v
    → touches g line ≡ true → bit_of (act g u) line ≡ bit_of (act g v) line
act_alike g u v line fu fv same on =
    bit_of-act g u line (TargetsBelow-fits g _ fu)
    ∙ ap (λ h. bit_after g (bit_of u) h line) (acts_alike g u v fu fv same)
    ∙ after_alike g (bit_of u) (bit_of v) (acts g v) line same on
    ∙ sym (bit_of-act g v line (TargetsBelow-fits g _ fv))

act_other : (g : Shape) (u : List Bool) (line : ℕ) → FitsIn g (length u) → touches g line ≡ false
    → bit_of (act g u) line ≡ bit_of u line
act_other g u line fu off =
    let none = or_parts _ _ (sym (has-or (controls g) (targets g) line) ∙ has-touched g line ∙ off) in
    bit_of-act_other g u line (TargetsBelow-fits g _ fu) none.1

-- two words have the same bits on the lines of a set
abbrev pub AlikeIn : ℕ → List Bool → List Bool → Type 0
AlikeIn set u v = (line : ℕ) → has set line ≡ true → bit_of u line ≡ bit_of v line

step_alike : (set : ℕ) (g : Shape) (u v : List Bool) → Covers set g → FitsIn g (length u) → FitsIn g (length v)
    → AlikeIn set u v → AlikeIn set (act g u) (act g v)
step_alike set g u v covers fu fv same line on =
    elim (cases_Bool (touches g line)) [
      | inl t ↦ act_alike g u v line fu fv (λ i ti. same i (covers i ti)) t
      | inr off ↦ act_other g u line fu off ∙ same line on ∙ sym (act_other g v line fv off)
    ]

-- what gates make on the lines of a set that has all of theirs depends on these lines alone
pub run_alike : (set n m : ℕ) (gates : List Shape) (u v : List Bool) → length u ≡ n → length v ≡ m
    → All (Covers set) gates → AllFit n gates → AllFit m gates → AlikeIn set u v
    → AlikeIn set (run gates u) (run gates v)
run_alike set n m [] u v lu lv covers fn fm same = same
run_alike set n m (g ∷ rest) u v lu lv covers fn fm same =
    run_alike set n m rest (act g u) (act g v) (length-act g u ∙ lu) (length-act g v ∙ lv) (All-tail
    (Covers set) g rest covers) (All-tail (λ h. FitsIn h n) g rest fn) (All-tail (λ h. FitsIn h m) g rest fm)
    (step_alike set g u v (All-head (Covers set) g rest covers) (rw lu (All-head (λ h. FitsIn h n) g rest fn)) (rw lv
    (All-head (λ h. FitsIn h m) g rest fm)) same)

-- and on no other line they change anything
pub run_other : (set n : ℕ) (gates : List Shape) (u : List Bool) → length u ≡ n → All (Covers set) gates
    → AllFit n gates → (line : ℕ) → has set line ≡ false → bit_of (run gates u) line ≡ bit_of u line
run_other set n [] u lu covers fn line off = refl
run_other set n (g ∷ rest) u lu covers fn line off =
    let head = All-head (Covers set) g rest covers in
    let free : touches g line ≡ false = elim (cases_Bool (touches g line)) [
      | inl t ↦ absurd (false≢true (sym off
          ∙ head line t))
      | inr f ↦ f
    ] in
    run_other set n rest (act g u) (length-act g u ∙ lu) (All-tail (Covers set) g rest covers) (All-tail
    (λ h. FitsIn h n) g rest fn) line off
    ∙ act_other g u line (rw lu (All-head (λ h. FitsIn h n) g rest fn)) free

-- gates that make the same of one word make the same of each word that is like it on their lines
pub same_by_lines : (set n m : ℕ) (old new : List Shape) (word base : List Bool) → length word ≡ n → length base ≡ m
    → All (Covers set) old → All (Covers set) new
    → AllFit n old → AllFit n new → AllFit m old → AllFit m new → AlikeIn set base word → run old base ≡ run new base
    → run old word ≡ run new word
same_by_lines set n m old new word base lw lb covers_old covers_new old_n new_n old_m new_m same e =
    ext_get_or false (run old word) (run new word) (length-run old word ∙ sym (length-run new word))
    (λ line lt.
    elim (cases_Bool (has set line)) [
      | inl on ↦
          sym (run_alike set m n old base word lb lw covers_old old_m old_n same line on)
          ∙ ap (λ w. bit_of w line) e
          ∙ run_alike set m n new base word lb lw covers_new new_m new_n same line on
      | inr off ↦ run_other set n old word lw covers_old old_n line off
          ∙ sym (run_other set n new word lw covers_new new_n line off)
    ])

-- gates whose lines are in a set fit as many lines as the set has room for
pub fit_by_set : (set n : ℕ) (gates : List Shape) → Within set n → All (Covers set) gates → AllFit n gates
fit_by_set set n gates within covers =
    All-weaker (Covers set) (λ g. FitsIn g n) (λ g c line on. within line (c line on)) gates covers
