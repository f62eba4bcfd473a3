-- What operations bring, one after another, and at the end.
use Rattle.std.proofs.Common.{◌≡◌, ℕ, ◌+◌, ◌%◌, ◌<◌, ◌≤◌, Bool, false, ◌&&◌, List, [], ◌∷◌, ◌++◌, length, take, get_or, refl, sym, subst, ap, inl, inr, ◌∙◌, arith, eqb, append_assoc, get_or-set_same, length-append}
use Rattle.std.proofs.Math.Seq.{get_or-append_seam}
use Rattle.std.proofs.lemmas.Bool.{cases_lt, or_left}
use Rattle.std.proofs.lemmas.List.{get_or_append_left, length-map, take_all, take_more}
use Rattle.std.specs.Prelude.{IfSome, Option, Some}
use Rattle.rv_gate.specs.Gate.{IsFlipOn, Within, act, run, same, xor}
use Rattle.rv_gate.specs.Word.{bit_of, has}
use Rattle.rv_gate.specs.declared.gate.Shape.{Shape}
use Rattle.rv_gate.specs.declared.gate.Shape.TheVariants.{Flip}
use Rattle.rv_gate.proofs.Bits.{and_true}
use Rattle.rv_gate.proofs.inside.GateLemmas.{fits_flip, run-append}
use Rattle.rv_mct.specs.Blocks.{control, controls_of, count_lines, flip_wish, rising}
use Rattle.rv_mct.specs.declared.aux.Aux.{Aux}
use Rattle.rv_mct.specs.declared.aux.Aux.TheVariants.{Clean}
use Rattle.rv_mct.specs.declared.control.Control.{Control}
use Rattle.rv_mct.proofs.inside.Ladders.{met, met_all, put}
use Rattle.rv_mct.proofs.inside.LongFlips.{act_put, length-rising}
use Rattle.rv_net.specs.Cyclotomic.{Cyclotomic, doubled, times_w_power}
use Rattle.rv_net.specs.Amplitude.{count_h}
use Rattle.rv_net.specs.declared.op.Op.{Op}
use Rattle.rv_net.proofs.Cyclotomic.{doubled-more, doubled-power, turns_add}
use Rattle.rv_net.proofs.Frame.{through, through-append}
use Rattle.rv_net.proofs.Step.{Word, bit}
use Rattle.rv_net.proofs.inside.Network.{Fits, count_h-append, fits_controls}
use Rattle.rv_ladder.specs.Ladder.{flip_net}
use Rattle.rv_ladder.proofs.inside.Circuits.{Held, held_act, held_length, runs_flip}
use Rattle.rv_ladder.proofs.inside.Fitting.{Fit, fit_append}
use Rattle.rv_forms.specs.declared.form.Form.{Form}
use Rattle.rv_forms.specs.declared.term.Term.{Term}
use Rattle.rv_forms.specs.Forms.{form_value, with_terms}
use Rattle.rv_forms.specs.inside.Held.{AreTerms, Leads, Tells}
use Rattle.rv_forms.proofs.Products.{one_column}
use Rattle.rv_forms.proofs.Terms.{length-with_terms, meets, stable}
use Rattle.rv_forms.proofs.inside.Steps.{leads_none}
use Rattle.rv_joined.specs.Blocks.{block_ops, parts, phase_bit, phase_ops, phase_power, turn, weight}
use Rattle.rv_joined.specs.declared.block.Block.{Block}
use Rattle.rv_joined.specs.declared.phase.Phase.{Phase}
use Rattle.rv_joined.specs.declared.follow.Toffoli.{Toffoli}
use Rattle.rv_joined.specs.declared.setup.Setup.{Setup}
use Rattle.rv_joined.specs.declared.slots.Slot.{Slot}
use Rattle.rv_joined.specs.declared.slots.Slots.{Slots}
use Rattle.rv_joined.specs.declared.state.State.{State}
use Rattle.rv_joined.specs.inside.Slots.{AreMore, total}
use Rattle.rv_joined.specs.inside.Brings.{AreStart, Brings, FollowedSoFar, Grows, IsLiteral, IsOnLine, IsToffoli, MayStand, RunsAs, StartsAs, columns}
use Rattle.rv_joined.proofs.inside.Cores.{count_h-block, fit_block, through-block}
use Rattle.rv_joined.proofs.inside.Phases.{count_h-phase, fit_phase, through-phase}
use Rattle.rv_joined.proofs.inside.Powers.{no_power, parts_turn, same_power}

-- ---- nothing, and one after another

pub brings_none : (s : Setup) (terms : List Term) (held : List Form) (slots : List Slot)
    → Brings s terms held slots [] [] held slots
unfolding through doubled count_h
brings_none s terms held slots = record {
  leads = leads_none terms (columns s) held;
  twos = 0;
  each = λ k bits x ok meet tells. refl;
  counted = refl;
  fitting = λ x ok. tt;
  kept = λ x ok. ok;
}

leads_then : (terms : List Term) (first : ℕ) (a b c : List Form) (gates more : List Shape) → Leads terms first a gates b
    → Leads terms first b more c → Leads terms first a (gates ++ more) c
leads_then terms first a b c gates more one other = record {
  count = other.count ∙ one.count;
  each = λ bits x meet tells.
      subst (λ (w : Word). Tells bits c w) (sym (run-append gates more x))
      (other.each bits (run gates x) meet (one.each bits x meet tells));
}

pub brings_then : (s : Setup) (terms : List Term) (held : List Form) (slots : List Slot) (ops : List Op) (gates : List Shape) (later : List Form) (grown : List Slot)
    (more : List Op) (then : List Shape) (last : List Form) (full : List Slot)
    → Brings s terms held slots ops gates later grown → Brings s terms later grown more then last full
    → Brings s terms held slots (ops ++ more) (gates ++ then) last full
brings_then s terms held slots ops gates later grown more then last full a b = record {
  leads = leads_then terms (columns s) held later last gates then a.leads b.leads;
  twos = a.twos + b.twos;
  each = λ k bits x ok meet tells.
      let y : Word = run gates x in
      ap (times_w_power (total bits slots)) (through-append ops more k x)
      ∙ a.each (λ v. through more k v) bits x ok meet tells
      ∙ ap (doubled a.twos) (b.each k bits y (a.kept x ok) meet (a.leads.each bits x meet tells))
      ∙ doubled-more a.twos b.twos _
      ∙ ap (λ w. doubled (a.twos + b.twos) (times_w_power (total bits full) (k w))) (sym (run-append gates then x));
  counted = omega (arith, count_h-append ops more, a.counted, b.counted);
  fitting = λ x ok. fit_append (length x) ops more (a.fitting x ok) (again x (b.fitting (run gates x) (a.kept x ok)) ok);
  kept = λ x ok. subst (MayStand s) (sym (run-append gates then x)) (b.kept (run gates x) (a.kept x ok));
}
  where
    again : (x : Word) → Fit (length (run gates x)) more → MayStand s x → Fit (length x) more
    again x fit ok =
        subst (λ m. Fit m more)
        (held_length s.aux s.lines s.extra (run gates x) (a.kept x ok) ∙ sym (held_length s.aux s.lines s.extra x ok)) fit

-- ---- a power of w is brought

gathered : (m t e n : ℕ) (u : Cyclotomic) → n % 8 ≡ (t + e) % 8
    → times_w_power t (doubled m (times_w_power e u)) ≡ doubled m (times_w_power n u)
gathered m t e n u same =
    doubled-power m t (times_w_power e u)
    ∙ ap (doubled m) (turns_add t e u ∙ sym (same_power n (t + e) u same))

-- ---- an exact flip

pub brings_exact : (s : Setup) (terms : List Term) (held later : List Form) (slots : List Slot) (g : Shape)
    → s.lines + s.extra ≤ 64 → IsFlipOn s.lines g → flip_wish s.aux s.lines g ≤ s.extra
    → Leads terms (columns s) held (g ∷ []) later
    → Brings s terms held slots (flip_net s.aux s.lines s.extra g) (g ∷ []) later slots
brings_exact s terms held later slots g few own enough leads =
    let runs = runs_flip s.aux s.lines s.extra g few own enough in
    record {
      leads = leads;
      twos = runs.twos;
      each = λ k bits x ok meet tells.
          ap (times_w_power (total bits slots)) (runs.each k x ok) ∙ doubled-power runs.twos (total bits slots) _;
      counted = runs.counted;
      fitting = runs.fitting;
      kept = λ x ok. held_act s.aux s.lines s.extra g x own ok;
    }

-- ---- a block

module _ (s : Setup) (care want t : ℕ) (few : s.lines + s.extra ≤ 64) (own : IsFlipOn s.lines (Flip care want t)) where
  within : Within care (s.lines + s.extra)
  within line on = let l : line < s.lines = own.2 line (or_left (has care line) (eqb line t) on) in omega arith

  below : t < s.lines + s.extra
  below = let l : t < s.lines = fits_flip (Flip care want t) care want t s.lines refl own.2 in omega arith

  acts : (a c : Control) (x : Word) → controls_of care want ≡ a ∷ c ∷ [] → MayStand s x
      → act (Flip care want t) x ≡ put x t (met_all (a ∷ c ∷ []) x)
  acts a c x are ok =
      act_put care want t (s.lines + s.extra) x (held_length s.aux s.lines s.extra x ok) few within
      ∙ ap (λ cs. put x t (met_all cs x)) are

  fits : (a c : Control) (x : Word) → controls_of care want ≡ a ∷ c ∷ [] → count_lines care ≤ 2 → MayStand s x
      → Fits (length x) (a ∷ c ∷ []) t
  fits a c x are plain ok =
      subst (λ m. Fits m (a ∷ c ∷ []) t) (sym (held_length s.aux s.lines s.extra x ok))
      (subst (λ cs. Fits (s.lines + s.extra) cs t) are
      (fits_controls (s.lines + s.extra) care want t within below own.1.1 plain))

  pub brings_block : (terms : List Term) (held later : List Form) (slots grown : List Slot) (b : Block) (a c : Control) (one other before after : Form)
      → controls_of care want ≡ a ∷ c ∷ [] → count_lines care ≤ 2 → Leads terms (columns s) held (Flip care want t ∷ []) later
      → IsLiteral held a one → IsLiteral held c other → IsOnLine held t before → IsOnLine later t after
      → AreMore slots (λ bits. parts b (form_value bits one) (form_value bits other) (form_value bits before) (form_value bits after)) grown
      → Brings s terms held slots (block_ops b a c t) (Flip care want t ∷ []) later grown
  brings_block terms held later slots grown b a c one other before after are plain leads is_one is_other is_before is_after more = record {
    leads = leads;
    twos = 1;
    each = λ k bits x ok meet tells.
        let e = held_length s.aux s.lines s.extra x ok in
        let y : Word = act (Flip care want t) x in
        let moved = acts a c x are ok in
        let p : Bool = met a x in
        let q : Bool = met c x in
        let r : Bool = bit x t in
        let lt : t < length x = omega (arith, below) in
        let end : form_value bits after ≡ xor (p && q) r =
        is_after bits y (leads.each bits x meet tells)
        ∙ ap (λ w. bit w t) moved
        ∙ get_or-set_same x t _ false lt
        ∙ ap (λ m. xor (p && m) r) (and_true q) in
        let told : parts b (form_value bits one) (form_value bits other) (form_value bits before) (form_value bits after) ≡ parts b p q r (xor (p && q) r) =
        λ i. parts b (is_one bits x tells i) (is_other bits x tells i) (is_before bits x tells i) (end i) in
        let sum : total bits grown % 8 ≡ (total bits slots + turn b p q r) % 8 =
        omega (arith, more bits, told, parts_turn b p q r) in
        ap (times_w_power (total bits slots)) (through-block b k x a c t (fits a c x are plain ok))
        ∙ gathered 1 (total bits slots) (turn b p q r) (total bits grown) _ sum
        ∙ ap (λ w. doubled 1 (times_w_power (total bits grown) (k w))) (sym moved);
    counted = count_h-block b a c t;
    fitting = λ x ok. fit_block (length x) b a c t (fits a c x are plain ok);
    kept = λ x ok. held_act s.aux s.lines s.extra (Flip care want t) x own ok;
  }

-- ---- a phase

pub brings_phase : (s : Setup) (terms : List Term) (held : List Form) (slots grown : List Slot) (p : Phase) (form : Form)
    → p.line < s.lines + s.extra → p.other < s.lines + s.extra
    → ((bits x : Word) → Tells bits held x → form_value bits form ≡ phase_bit p x)
    → AreMore slots (λ bits. weight (phase_power p) (form_value bits form)) grown
    → Brings s terms held slots (phase_ops p) [] held grown
unfolding doubled
brings_phase s terms held slots grown p form line other is more = record {
  leads = leads_none terms (columns s) held;
  twos = 0;
  each = λ k bits x ok meet tells.
      let e = held_length s.aux s.lines s.extra x ok in
      let told : weight (phase_power p) (form_value bits form) ≡ weight (phase_power p) (phase_bit p x) =
      ap (weight (phase_power p)) (is bits x tells) in
      ap (times_w_power (total bits slots)) (through-phase p k x (omega arith))
      ∙ gathered 0 (total bits slots) (weight (phase_power p) (phase_bit p x)) (total bits grown) (k x)
      (omega (arith, more bits, told));
  counted = count_h-phase p;
  fitting = λ x ok. let e = held_length s.aux s.lines s.extra x ok in fit_phase (length x) p (omega arith) (omega arith);
  kept = λ x ok. ok;
}

-- ---- the whole

pub tells_start : (s : Setup) (held : List Form) (bits x : Word) → AreStart s (columns s) held → MayStand s x
    → ((i : ℕ) → i < columns s → bit_of bits i ≡ bit_of x i) → Tells bits held x
tells_start s held bits x start ok first = record {
  count = held_length s.aux s.lines s.extra x ok ∙ sym start.lines;
  each = λ line d lt.
      let l = start.lines in
      sym ((start.each line d (omega arith)).value bits x ok first);
}

pub runs_at_last : (s : Setup) (terms : List Term) (held later : List Form) (slots grown : List Slot) (ops : List Op) (gates : List Shape)
    → Brings s terms held slots ops gates later grown → AreStart s (columns s) held → slots ≡ [] → AreTerms (columns s) terms
    → ((bits : List Bool) → total bits grown % 8 ≡ 0) → RunsAs s ops gates
runs_at_last s terms held later slots grown ops gates b start empty are none = record {
  twos = b.twos;
  each = λ k x ok.
      let lx = held_length s.aux s.lines s.extra x ok in
      let bits : Word = with_terms terms x ++ [] in
      let lw = length-with_terms terms x in
      let first : (i : ℕ) → i < columns s → bit_of bits i ≡ bit_of x i =
      λ i lt. get_or_append_left (with_terms terms x) [] false i (omega arith) ∙ stable terms x i (omega arith) in
      sym (no_power (total bits slots) (through ops k x) (ap (λ l. total bits l % 8) empty))
      ∙ b.each k bits x ok (meets terms x [] (columns s) lx are) (tells_start s held bits x start ok first)
      ∙ ap (doubled b.twos) (no_power (total bits grown) (k (run gates x)) (none bits));
  counted = b.counted;
  fitting = b.fitting;
}

-- ---- states

pub grows_none : (s : Setup) (terms : List Term) (state : State) → Grows s terms state [] state
grows_none s terms state = record { added = []; is = sym (none_after state.ops.items); brings = brings_none s terms state.held.items state.slots.list.items }
  where
    none_after : (ops : List Op) → ops ++ [] ≡ ops
    none_after [] = refl
    none_after (o ∷ ops) = ap (λ r. o ∷ r) (none_after ops)

pub grows_then : (s : Setup) (terms : List Term) (a b c : State) (gates more : List Shape) → Grows s terms a gates b → Grows s terms b more c
    → Grows s terms a (gates ++ more) c
grows_then s terms a b c gates more one other = record {
  added = one.added ++ other.added;
  is = other.is ∙ ap (λ r. r ++ other.added) one.is ∙ append_assoc a.ops.items one.added other.added;
  brings =
      brings_then s terms a.held.items a.slots.list.items one.added gates b.held.items b.slots.list.items other.added more
      c.held.items c.slots.list.items one.brings other.brings;
}

pub grows_block : (s : Setup) (terms : List Term) (old new : State) (flip : Shape) (two : Toffoli) (b : Block) (one other before after : Form)
    → s.lines + s.extra ≤ 64 → IsFlipOn s.lines flip → IsToffoli flip two
    → Leads terms (columns s) old.held.items (flip ∷ []) new.held.items
    → IsLiteral old.held.items two.a one → IsLiteral old.held.items two.c other
    → IsOnLine old.held.items two.target before → IsOnLine new.held.items two.target after
    → AreMore old.slots.list.items (λ bits. parts b (form_value bits one) (form_value bits other) (form_value bits before) (form_value bits after)) new.slots.list.items
    → new.ops.items ≡ old.ops.items ++ block_ops b two.a two.c two.target
    → Grows s terms old (flip ∷ []) new
grows_block s terms old new flip two b one other before after few own is leads is_one is_other is_before is_after more ops = record {
  added = block_ops b two.a two.c two.target;
  is = ops;
  brings =
      subst (λ (g : Shape). Brings s terms old.held.items old.slots.list.items (block_ops b two.a two.c two.target) (g ∷ []) new.held.items new.slots.list.items)
      (sym is.is)
      (brings_block s is.care is.want two.target few (subst (IsFlipOn s.lines) is.is own) terms old.held.items new.held.items
      old.slots.list.items new.slots.list.items b two.a two.c one other before after is.controls
      (two_lines is.care is.want two.a two.c is.controls)
      (subst (λ (g : Shape). Leads terms (columns s) old.held.items (g ∷ []) new.held.items) is.is leads)
      is_one is_other is_before is_after more);
}
  where
    two_lines : (care want : ℕ) (a c : Control) → controls_of care want ≡ a ∷ c ∷ [] → count_lines care ≤ 2
    two_lines care want a c are =
        let l : length (controls_of care want) ≡ 2 = ap length are in
        omega (arith, l, length-map (rising (has care) 64) (control want), length-rising (has care) 64)

pub grows_exact : (s : Setup) (terms : List Term) (old new : State) (flip : Shape) → s.lines + s.extra ≤ 64 → IsFlipOn s.lines flip
    → flip_wish s.aux s.lines flip ≤ s.extra → Leads terms (columns s) old.held.items (flip ∷ []) new.held.items
    → new.slots ≡ old.slots → new.ops.items ≡ old.ops.items ++ flip_net s.aux s.lines s.extra flip
    → Grows s terms old (flip ∷ []) new
grows_exact s terms old new flip few own enough leads slots ops = record {
  added = flip_net s.aux s.lines s.extra flip;
  is = ops;
  brings =
      subst (λ (l : Slots). Brings s terms old.held.items old.slots.list.items (flip_net s.aux s.lines s.extra flip) (flip ∷ []) new.held.items l.list.items)
      (sym slots) (brings_exact s terms old.held.items new.held.items old.slots.list.items flip few own enough leads);
}

pub grows_phase : (s : Setup) (terms : List Term) (old new : State) (p : Phase) (form : Form)
    → p.line < s.lines + s.extra → p.other < s.lines + s.extra
    → ((bits x : Word) → Tells bits old.held.items x → form_value bits form ≡ phase_bit p x)
    → AreMore old.slots.list.items (λ bits. weight (phase_power p) (form_value bits form)) new.slots.list.items
    → new.held ≡ old.held → new.ops.items ≡ old.ops.items ++ phase_ops p
    → Grows s terms old [] new
grows_phase s terms old new p form line other is more held ops = record {
  added = phase_ops p;
  is = ops;
  brings =
      subst (λ (l : List Form). Brings s terms old.held.items old.slots.list.items (phase_ops p) [] l new.slots.list.items)
      (sym (ap (λ v. v.items) held))
      (brings_phase s terms old.held.items old.slots.list.items new.slots.list.items p form line other is more);
}

-- ---- item after item

pub followed_none : (s : Setup) (terms : List Term) (begin : State) (flips : List Shape) → FollowedSoFar s terms begin flips 0 begin
followed_none s terms begin flips = record { within = omega arith; grows = grows_none s terms begin }

pub followed_phase : (s : Setup) (terms : List Term) (old new begin : State) (flips : List Shape) (next : ℕ) → Grows s terms old [] new
    → FollowedSoFar s terms begin flips next old → FollowedSoFar s terms begin flips next new
followed_phase s terms old new begin flips next grows so_far = record {
  within = so_far.within;
  grows =
      subst (λ (g : List Shape). Grows s terms begin g new) (no_more (take next flips))
      (grows_then s terms begin old new (take next flips) [] so_far.grows grows);
}
  where
    no_more : (gates : List Shape) → gates ++ [] ≡ gates
    no_more [] = refl
    no_more (g ∷ rest) = ap (λ r. g ∷ r) (no_more rest)

pub followed_flip : (s : Setup) (terms : List Term) (old new begin : State) (flips : List Shape) (next : ℕ) (flip : Shape) → next < length flips
    → flip ≡ get_or flips next flip → Grows s terms old (flip ∷ []) new
    → FollowedSoFar s terms begin flips next old → FollowedSoFar s terms begin flips (next + 1) new
followed_flip s terms old new begin flips next flip lt is grows so_far = record {
  within = omega arith;
  grows =
      subst (λ (g : List Shape). Grows s terms begin g new)
      (ap (λ f. take next flips ++ f ∷ []) is ∙ sym (take_more flips next flip lt))
      (grows_then s terms begin old new (take next flips) (flip ∷ []) so_far.grows grows);
}

pub followed_all : (s : Setup) (terms : List Term) (begin state : State) (flips : List Shape) (next : ℕ) → next ≡ length flips
    → FollowedSoFar s terms begin flips next state → Grows s terms begin flips state
followed_all s terms begin state flips next all so_far =
    subst (λ (g : List Shape). Grows s terms begin g state) (take_all next flips (omega arith)) so_far.grows

-- ---- the beginning

pub starts_zero : (s : Setup) (line : ℕ) (form : Form) → s.aux ≡ Clean → s.lines ≤ line → form.columns.items ≡ [] → form.constant ≡ false
    → StartsAs s line form
starts_zero s line form clean le columns constant = record {
  value = λ bits x ok first.
      let zero : Held Clean s.lines s.extra x = subst (λ (a : Aux). Held a s.lines s.extra x) clean ok in
      nothing bits ∙ sym (zero.1 line le);
}
  where
    nothing : (bits : Word) → form_value bits form ≡ false
    nothing bits = rw (columns, constant) refl

pub starts_own : (s : Setup) (line : ℕ) (form : Form) → line < s.lines + s.extra → form.columns.items ≡ line ∷ [] → form.constant ≡ false
    → StartsAs s line form
starts_own s line form lt columns constant = record {
  value = λ bits x ok first. one_column bits form line columns constant ∙ first line lt;
}

pub start_none : (s : Setup) (held : List Form) → held ≡ [] → AreStart s 0 held
start_none s held is = record { lines = ap length is; each = λ line d lt. absurd (omega arith) }

pub start_more : (s : Setup) (count : ℕ) (held : List Form) (form : Form) → AreStart s count held → StartsAs s count form
    → AreStart s (count + 1) (held ++ form ∷ [])
start_more s count held form so_far is = record {
  lines = let l = so_far.lines in omega (arith, length-append held (form ∷ []));
  each = λ line d lt.
      let l = so_far.lines in
      elim (cases_lt line count) [
        | inl before ↦
            subst (StartsAs s line) (sym (get_or_append_left held (form ∷ []) d line (omega arith))) (so_far.each line d before)
        | inr le ↦
            (let here : count ≡ line = omega arith in
            let at : get_or (held ++ form ∷ []) line d ≡ form =
            ap (λ i. get_or (held ++ form ∷ []) i d) (let e : line ≡ length held = omega arith in e) ∙ get_or-append_seam held form [] d in
            subst (StartsAs s line) (sym at) (subst (λ (i : ℕ). StartsAs s i form) here is))
      ];
}

-- ---- what the code knows

pub got : {A : Type 0} (P : A → Type 0) (o : Option A) (x : A) → o ≡ Some x → IfSome o P → P x
got {A = A} P o x e h = subst (λ (p : Option A). IfSome p P) e h

pub certified_runs : (s : Setup) (terms : List Term) (begin last : State) (flips : List Shape) → Grows s terms begin flips last
    → AreStart s (columns s) begin.held.items → begin.ops.items ≡ [] → begin.slots.list.items ≡ [] → AreTerms (columns s) terms
    → ((bits : List Bool) → total bits last.slots.list.items % 8 ≡ 0) → RunsAs s last.ops.items flips
certified_runs s terms begin last flips grows start no_ops no_slots are none =
    subst (λ (ops : List Op). RunsAs s ops flips) (sym (grows.is ∙ ap (λ r. r ++ grows.added) no_ops))
    (runs_at_last s terms begin.held.items last.held.items begin.slots.list.items last.slots.list.items grows.added flips
    grows.brings start no_slots are none)
