use Rattle.std.proofs.Common.{◌≡◌, ◌+◌, ◌-◌, ◌*◌, ◌%◌, ◌<◌, ◌≤◌, ◌^◌, ℕ, Bool, true, false, List, get_or, sym, ◌∙◌, ap, subst, arith}
use Rattle.std.specs.Prelude.{bit_and}
use Rattle.std.proofs.lemmas.Nat.{one_shl}
use Rattle.rv_pla.specs.declared.cube.Cube.{Cube}
use Rattle.rv_gate.specs.Word.{word_of}
use Rattle.rv_pla.specs.Cube.{matches}
use Rattle.rv_pla.specs.Pla.{TwoLevel}
use Rattle.rv_cube.specs.inside.Idle.{free_sets}
use Rattle.rv_cube.proofs.inside.IdleSets.{Idles, idles_on, idles_off, idles_skip, idles_gone, idles_all}
use Rattle.rv_cube.proofs.idle.idle_outputs.Goals as goal

-- the words that are counted
count_is : (n inputs : ℕ) → n ≡ inputs → inputs ≤ 16 → 1 * 2 ^ n % 2 ^ 32 ≡ 2 ^ inputs
count_is n inputs e few = let p = one_shl n 32 (omega arith) in let q : 2 ^ n ≡ 2 ^ inputs = ap (λ k. 2 ^ k) e in omega arith

-- a word that the cube matches
matched : (pla : TwoLevel) (cube : Cube) (n number idle : ℕ) (free : List ℕ) (t : Bool) → n ≡ pla.inputs → free ≡ free_sets pla → Idles pla cube number idle → number < 2 ^ pla.inputs → t ≡ matches cube (word_of n number) → t ≡ true
    → Idles pla cube (number + 1) (bit_and idle (get_or free number 0))
matched pla cube n number idle free t en ef i lt is on =
    idles_on pla cube number idle (get_or free number 0) i lt (ap (λ k. matches cube (word_of k number)) (sym en) ∙ sym is ∙ on) (ap (λ s. get_or s number 0) ef)

pub returns-then-idle-eq0 : goal.returns-then-idle-eq0
returns-then-idle-eq0 c j h =
    let pla : TwoLevel = c.args.pla.now in
    let k : ℕ = c.loop-number.number in
    let n = count_is c.inputs-inputs.result pla.inputs c.inputs-inputs.ensures.value c.inputs-inputs.ensures.valid.few_inputs in
    let t = c.loop-number-test.true in
    let i = matched pla c.args.cube c.inputs-inputs.result k c.loop-number.idle c.args.free.now c.matches.result c.inputs-inputs.ensures.value c.requires.free c.loop-number.invariant.idles (omega arith) c.matches.ensures c.if-matches.true in
    let P : ℕ → Type 0 = Idles pla c.args.cube (k + 1) in
    idles_gone pla c.args.cube (k + 1) (subst P c.if-idle-eq0.true i) (omega arith) j h

-- words that are passed over
skipped : (pla : TwoLevel) (cube : Cube) (n number next idle : ℕ) → n ≡ pla.inputs → Idles pla cube number idle → matches cube (word_of n number) ≡ false → number < next
    → ((y : ℕ) → number < y → y < next → matches cube (word_of n y) ≡ false) → Idles pla cube next idle
skipped pla cube n number next idle en i off lt none =
    let P : ℕ → Type 0 = λ k. Idles pla cube k idle in
    let e : number + 1 + (next - (number + 1)) ≡ next = omega arith in
    subst P e (idles_skip pla cube (next - (number + 1)) (number + 1) idle
    (idles_off pla cube number idle i (ap (λ k. matches cube (word_of k number)) (sym en) ∙ off))
    (λ y l u. ap (λ k. matches cube (word_of k y)) (sym en) ∙ none y (omega arith) (omega arith)))

pub loop-number-preserved : goal.loop-number-preserved
loop-number-preserved c =
    let pla : TwoLevel = c.args.pla.now in
    let w = c.next_word-number.ensures in
    let q : 2 ^ c.inputs-inputs.result ≡ 2 ^ pla.inputs = ap (λ k. 2 ^ k) c.inputs-inputs.ensures.value in
    record {
      idles = skipped pla c.args.cube c.inputs-inputs.result c.loop-number.number c.next_word-number.result c.loop-number.idle c.inputs-inputs.ensures.value c.loop-number.invariant.idles (sym c.matches.ensures ∙ c.if-matches.false) w.later w.none;
      within = let l = w.within in omega arith;
    }

pub returns : goal.returns
returns c =
    let n = count_is c.inputs-inputs.result c.args.pla.now.inputs c.inputs-inputs.ensures.value c.inputs-inputs.ensures.valid.few_inputs in
    let t = c.loop-number-test.false in
    let e = c.loop-number.invariant.within in
    idles_all c.args.pla.now c.args.cube c.loop-number.number c.loop-number.idle c.loop-number.invariant.idles (omega arith)
