-- A circuit without a fault is a template.
use Rattle.std.proofs.Common.{get_or, ◌≡◌, ℕ, suc, ◌+◌, ◌*◌, ◌%◌, ◌^◌, ◌<◌, ◌≤◌, Bool, true, false, cond, eqb, List, [], ◌∷◌, ◌++◌, length, take, drop, refl, sym, ◌∙◌, ap, arith, subst, take-append-drop, eq-eqb, ne_eqb}
use Rattle.std.specs.Option.{option_or}
use Rattle.std.specs.Prelude.{Option, Some, None, option_map, ltb}
use Rattle.std.specs.Global.{Vec}
use Rattle.std.proofs.lemmas.Option.{none-some}
use Rattle.std.proofs.lemmas.Nat.{one_shl}
use Rattle.std.proofs.lemmas.Bool.{ltb-false, eqb-true, cond-true, cond-false, lt-ltb, le-ltb}
use Rattle.std.proofs.lemmas.List.{length-take-le, map-append}
use Rattle.std.proofs.Math.Nat.{pow-le-pow_right}
use Rattle.rv_gate.specs.Word.{number_of, word_of}
use Rattle.rv_gate.specs.inside.laws.WordLaws.{word_of-number_of, number_of-lt}
use Rattle.rv_gate.specs.Gate.{run, is_flip, run_on_number}
use Rattle.rv_gate.specs.Circuit.{Cascade, IsCascade}
use Rattle.rv_gate.specs.declared.gate.Shape.{Shape}
use Rattle.rv_gate.proofs.inside.GateLemmas.{length-act, length-run}
use Rattle.rv_gate.proofs.Longer.{act_append}
use Rattle.rv_templ.specs.declared.fault.LibFault.{LibFault}
use Rattle.rv_templ.specs.declared.fault.LibFault.TheVariants.{TooWide, TooLong, NotToffoli, NotIdentity}
use Rattle.rv_templ.specs.Gates.{gate_in, AreGates, Flips, Identity}
use Rattle.rv_templ.specs.Templates.{IsTemplate, AreTemplates, other_at, changed_at, first_other, first_changed, template_fault}
use Rattle.rv_templ.specs.inside.Library.{templates_in}
use Rattle.rv_gate.proofs.FirstAnswer.{none_at, or_none}
use Rattle.rv_templ.proofs.LoopSteps.{gate_read}
use Rattle.rv_templ.proofs.LinkedGates.{all_gates}
use Rattle.rv_gate.proofs.Options.{unmapped, none_true}

-- ---- words with further lines

run_append : (n : ℕ) (gates : List Shape) (word more : List Bool) → Flips gates → AreGates n gates → length word ≡ n → run gates (word ++ more) ≡ run gates word ++ more
run_append n [] word more flips are len = refl
run_append n (g ∷ rest) word more flips are len = let i0 = run_append n rest in grind (arith, i0, act_append, length-act)

wider : (n m : ℕ) (gates : List Shape) → n ≤ m → AreGates n gates → AreGates m gates
wider n m [] le are = tt
wider n m (g ∷ rest) le are = (are.0, λ line on. let lt = are.1 line on in omega arith, wider n m rest le are.2)

-- an identity of n lines is one of six
six_lines : (n : ℕ) (gates : List Shape) → n ≤ 6 → Flips gates → AreGates n gates → Identity n gates → Identity 6 gates
six_lines n gates le flips are same word len =
    let front : length (take n word) ≡ n = length-take-le n word (omega arith) in
    ap (run gates) (sym (take-append-drop n word))
    ∙ run_append n gates (take n word) (drop n word) flips are front
    ∙ ap (λ w. w ++ drop n word) (same (take n word) front)
    ∙ take-append-drop n word

-- ---- no fault

cond_none : (b : Bool) (fault : LibFault) (o : Option LibFault) → cond b (Some fault) o ≡ None → (b ≡ false) × (o ≡ None)
cond_none true fault o e = absurd (none-some fault (sym e))
cond_none false fault o e = (refl, e)

pub flips_from : (gates : List Shape) → ((i : ℕ) → i < length gates → is_flip (gate_in gates i) ≡ true) → Flips gates
flips_from [] h = tt
flips_from (g ∷ rest) h = (h 0 (omega arith), flips_from rest (λ i lt. h (suc i) (omega arith)))

pub identity_on : (n : ℕ) (gates : List Shape) → first_changed n gates ≡ None → Identity n gates
identity_on n gates none word len =
    let x : ℕ = number_of word in
    let small : x < 2 ^ n = subst (λ (k : ℕ). number_of word < 2 ^ k) len (number_of-lt word) in
    let back : word_of n x ≡ word = ap (λ k. word_of k x) (sym len) ∙ word_of-number_of word in
    let same = eqb-true (run_on_number gates n x) x (none_true (eqb (run_on_number gates n x) x) x (none_at _ 0 (2 ^ n) x none (omega arith) (omega arith))) in
    let after : number_of (run gates word) ≡ x = ap (λ w. number_of (run gates w)) (sym back) ∙ same in
    sym (word_of-number_of (run gates word))
    ∙ ap (λ k. word_of k (number_of (run gates word))) (length-run gates word ∙ len)
    ∙ ap (word_of n) after
    ∙ back

pub template_from : (c : Cascade) → IsCascade c → template_fault c ≡ None → IsTemplate c.gates
unfolding template_fault
template_from c is e =
    let n : ℕ = length c.names in
    let wide = cond_none (ltb 6 n) (TooWide n) _ e in
    let long = cond_none (ltb 32 (length c.gates)) (TooLong (length c.gates)) _ wide.1 in
    let both = or_none (option_map NotToffoli (first_other c.gates)) (option_map (λ x. NotIdentity x (run_on_number c.gates n x)) (first_changed n c.gates)) long.1 in
    let none : first_other c.gates ≡ None = unmapped NotToffoli (first_other c.gates) both.0 in
    let small : n ≤ 6 = ltb-false 6 n wide.0 in
    let flips = flips_from c.gates (λ i lt. none_true (is_flip (gate_in c.gates i)) (i + 1) (none_at _ 0 (length c.gates) i none (omega arith) (omega arith))) in
    let are : AreGates n c.gates = all_gates n c.gates is.valid is.fitting in
    record {
      few = ltb-false 32 (length c.gates) long.0;
      flips = flips;
      good = wider n 6 c.gates small are;
      identity = six_lines n c.gates small flips are (identity_on n c.gates (unmapped _ (first_changed n c.gates) both.1));
    }

-- ---- one template more

AreTemplates-push : (library : List (List Shape)) (t : List Shape) → AreTemplates library → IsTemplate t → AreTemplates (library ++ t ∷ [])
AreTemplates-push [] t are is = (is, tt)
AreTemplates-push (x ∷ rest) t are is = (are.0, AreTemplates-push rest t are.1 is)

templates_in-push : (templates : List (Vec Shape)) (t : Vec Shape) → templates_in (templates ++ t ∷ []) ≡ templates_in templates ++ t.items ∷ []
templates_in-push templates t = map-append (λ (v : Vec Shape). v.items) templates (t ∷ [])

pub pushed : (templates new : List (Vec Shape)) (t : Vec Shape) (gates : List Shape) → new ≡ templates ++ t ∷ [] → t.items ≡ gates → templates_in new ≡ templates_in templates ++ gates ∷ []
pushed templates new t gates e is = ap templates_in e ∙ templates_in-push templates t ∙ ap (λ l. templates_in templates ++ l ∷ []) is

pub still_templates : (old new : List (List Shape)) (gates : List Shape) → new ≡ old ++ gates ∷ [] → AreTemplates old → IsTemplate gates → AreTemplates new
still_templates old new gates e are is = subst (λ (l : List (List Shape)). AreTemplates l) (sym e) (AreTemplates-push old gates are is)

pub number-small : (word : List Bool) → length word ≤ 6 → number_of word < 64
number-small word le = grind (arith, number_of-lt, pow-le-pow_right)

-- ---- the search for a fault

pub other_here : (gates : List Shape) (place n : ℕ) (g : Shape) → place < length gates → g ≡ get_or gates place g → is_flip g ≡ false → n ≡ place + 1 → other_at gates place ≡ Some n
other_here gates place n g lt e off is = rw (sym (gate_read gates place g lt e), off, is) refl

pub no_other : (gates : List Shape) (place : ℕ) (g : Shape) → place < length gates → g ≡ get_or gates place g → is_flip g ≡ true → other_at gates place ≡ None
no_other gates place g lt e on = rw (sym (gate_read gates place g lt e), on) refl

pub changed_here : (n x image : ℕ) (gates : List Shape) → image ≡ run_on_number gates n x → (image ≡ x → ⊥) → changed_at n gates x ≡ Some x
changed_here n x image gates e ne = rw (ne_eqb (run_on_number gates n x) x (λ same. ne (e ∙ same))) refl

pub not_changed : (n x image : ℕ) (gates : List Shape) → image ≡ run_on_number gates n x → image ≡ x → changed_at n gates x ≡ None
not_changed n x image gates e same = rw (eq-eqb (run_on_number gates n x) x (sym e ∙ same)) refl

pub words_below : (n k : ℕ) → n ≤ 6 → k ≡ n → 1 * 2 ^ k % 2 ^ 8 ≡ 2 ^ n
words_below n k le e = one_shl k 8 (omega arith) ∙ ap (λ i. 2 ^ i) e

pub fault_wide : (c : Cascade) → 6 < length c.names → Some (TooWide (length c.names)) ≡ template_fault c
unfolding template_fault
fault_wide c wide = sym (cond-true (ltb 6 (length c.names)) _ _ (lt-ltb _ _ wide))

narrow : (c : Cascade) → length c.names ≤ 6
    → template_fault c ≡ cond (ltb 32 (length c.gates)) (Some (TooLong (length c.gates)))
    (option_or (option_map NotToffoli (first_other c.gates)) (option_map (λ x. NotIdentity x (run_on_number c.gates (length c.names) x)) (first_changed (length c.names) c.gates)))
unfolding template_fault
narrow c le = cond-false (ltb 6 (length c.names)) _ _ (le-ltb _ _ le)

pub fault_long : (c : Cascade) → length c.names ≤ 6 → 32 < length c.gates → Some (TooLong (length c.gates)) ≡ template_fault c
fault_long c le long = sym (narrow c le ∙ cond-true (ltb 32 (length c.gates)) _ _ (lt-ltb _ _ long))

short : (c : Cascade) → length c.names ≤ 6 → length c.gates ≤ 32
    → template_fault c ≡ option_or (option_map NotToffoli (first_other c.gates)) (option_map (λ x. NotIdentity x (run_on_number c.gates (length c.names) x)) (first_changed (length c.names) c.gates))
short c le few = narrow c le ∙ cond-false (ltb 32 (length c.gates)) _ _ (le-ltb _ _ few)

pub fault_other : (c : Cascade) (place : ℕ) → length c.names ≤ 6 → length c.gates ≤ 32 → Some place ≡ first_other c.gates → Some (NotToffoli place) ≡ template_fault c
fault_other c place le few e = sym (short c le few ∙ rw (sym e) refl)

pub fault_changed : (c : Cascade) (x image : ℕ) → length c.names ≤ 6 → length c.gates ≤ 32 → None ≡ first_other c.gates → Some x ≡ first_changed (length c.names) c.gates
    → image ≡ run_on_number c.gates (length c.names) x → Some (NotIdentity x image) ≡ template_fault c
fault_changed c x image le few e f is =
    ap (λ (i : ℕ). let o : Option LibFault = Some (NotIdentity x i) in o) is ∙ sym (short c le few ∙ rw (sym e, sym f) refl)

pub fault_none : (c : Cascade) → length c.names ≤ 6 → length c.gates ≤ 32 → None ≡ first_other c.gates → None ≡ first_changed (length c.names) c.gates → None ≡ template_fault c
fault_none c le few e f = sym (short c le few ∙ rw (sym e, sym f) refl)
