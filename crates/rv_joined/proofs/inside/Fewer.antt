-- Flips that leave on each line what others leave do the same.
use Rattle.std.proofs.Common.{◌≡◌, ℕ, zero, suc, ◌+◌, ◌<◌, ◌≤◌, Bool, false, List, [], ◌∷◌, ◌++◌, length, take, get_or, max, sym, subst, ap, inl, inr, Option, Some, IfSome, ◌∙◌, arith, ext_get_or}
use Rattle.std.proofs.lemmas.Bool.{cases_lt}
use Rattle.std.proofs.lemmas.List.{get_or_append_left, get_or_default, take_all, take_more}
use Rattle.rv_gate.specs.Every.{Every}
use Rattle.rv_gate.specs.Gate.{IsFlipOn, run}
use Rattle.rv_gate.specs.Greatest.{greatest}
use Rattle.rv_gate.specs.Word.{bit_of}
use Rattle.rv_gate.specs.declared.gate.Shape.{Shape}
use Rattle.rv_gate.proofs.Every.{every_append}
use Rattle.rv_gate.proofs.Greatest.{greatest_at, greatest_more, greatest_none}
use Rattle.rv_gate.proofs.inside.GateLemmas.{run-append}
use Rattle.rv_mct.specs.Blocks.{flip_wish}
use Rattle.rv_net.specs.declared.op.Op.{Op}
use Rattle.rv_net.proofs.Step.{Word}
use Rattle.rv_ladder.proofs.inside.Circuits.{held_length}
use Rattle.rv_ladder.proofs.inside.Nets.{runs_as}
use Rattle.rv_forms.specs.declared.form.Form.{Form}
use Rattle.rv_forms.specs.declared.term.Term.{Term}
use Rattle.rv_forms.specs.Forms.{form_value, with_terms}
use Rattle.rv_forms.specs.inside.Held.{AreSame, AreTerms, Leads, Meets, Tells}
use Rattle.rv_forms.proofs.Terms.{length-with_terms, meets, stable}
use Rattle.rv_joined.specs.declared.setup.Setup.{Setup}
use Rattle.rv_joined.specs.inside.Brings.{AreStart, MayStand, RunsAs, columns}
use Rattle.rv_joined.specs.inside.Shorter.{AreFlips, EndsAs, HoldSame, IsShorter}
use Rattle.rv_joined.proofs.inside.Joins.{tells_start}

-- ---- flips followed

pub ends_none : (s : Setup) (terms : List Term) (gates : List Shape) (held : List Form) → AreStart s (columns s) held
    → EndsAs s terms (take 0 gates) held
ends_none s terms gates held start = record {
  count = start.lines;
  each = λ bits x ok meet first. tells_start s held bits x start ok first;
}

pub ends_more : (s : Setup) (terms : List Term) (gates : List Shape) (k : ℕ) (gate : Shape) (old new : List Form)
    → k < length gates → gate ≡ get_or gates k gate → EndsAs s terms (take k gates) old
    → Leads terms (columns s) old (gate ∷ []) new → EndsAs s terms (take (k + 1) gates) new
ends_more s terms gates k gate old new lt is so_far leads = record {
  count = leads.count ∙ so_far.count;
  each = λ bits x ok meet first.
      subst (λ (w : Word). Tells bits new w)
      (sym (ap (λ g. run g x) (take_more gates k gate lt ∙ ap (λ g. take k gates ++ g ∷ []) (sym is))
      ∙ run-append (take k gates) (gate ∷ []) x))
      (leads.each bits (run (take k gates) x) meet (so_far.each bits x ok meet first));
}

pub ends_all : (s : Setup) (terms : List Term) (gates : List Shape) (k : ℕ) (held : List Form) → length gates ≤ k
    → EndsAs s terms (take k gates) held → EndsAs s terms gates held
ends_all s terms gates k held le ends = subst (λ (g : List Shape). EndsAs s terms g held) (take_all k gates le) ends

pub of_some : {V : Type 0} (o : Option V) (v : V) (P : V → Type 0) → o ≡ Some v → IfSome o P → P v
of_some o v P is holds = subst (λ x. IfSome x P) is holds

-- ---- what lines hold

pub record SameBelow (a b : List Form) (count : ℕ) : Type 0 where
  pub each : (line : ℕ) (d : Form) → line < count → AreSame (get_or a line d) (get_or b line d)

pub same_none : (a b : List Form) → SameBelow a b 0
same_none a b = record { each = λ line d lt. absurd (omega arith) }

pub same_more : (a b : List Form) (count : ℕ) (x y : Form) → count < length a → length a ≡ length b → x ≡ get_or a count x
    → y ≡ get_or b count y → AreSame x y → SameBelow a b count → SameBelow a b (count + 1)
same_more a b count x y lt size is_x is_y same so_far = record {
  each = λ line d below.
      elim (cases_lt line count) [
        | inl before ↦ so_far.each line d before
        | inr le ↦
            (let here : count ≡ line = omega arith in
            let left : x ≡ get_or a line d =
            is_x ∙ get_or_default a count x d lt ∙ ap (λ i. get_or a i d) here in
            let right : y ≡ get_or b line d =
            is_y ∙ get_or_default b count y d (omega arith) ∙ ap (λ i. get_or b i d) here in
            subst (λ (f : Form). AreSame f (get_or b line d)) left (subst (AreSame x) right same))
      ];
}

pub same_all : (a b : List Form) (count : ℕ) → length a ≡ length b → length a ≤ count → SameBelow a b count → HoldSame a b
same_all a b count size le so_far = record { count = size; each = λ line d lt. so_far.each line d (omega arith) }

some_form : (xs : List Form) (i : ℕ) → i < length xs → Form
some_form [] i lt = absurd (omega arith)
some_form (x ∷ xs) i lt = x

same_run : (s : Setup) (terms : List Term) (flips left : List Shape) (one other : List Form) → EndsAs s terms flips one
    → EndsAs s terms left other → HoldSame one other → AreTerms (columns s) terms → (x : Word) → MayStand s x
    → run left x ≡ run flips x
same_run s terms flips left one other a b same are x ok =
    let lx = held_length s.aux s.lines s.extra x ok in
    let bits : Word = with_terms terms x ++ [] in
    let lw = length-with_terms terms x in
    let first : (i : ℕ) → i < columns s → bit_of bits i ≡ bit_of x i =
    λ i lt. get_or_append_left (with_terms terms x) [] false i (omega arith) ∙ stable terms x i (omega arith) in
    let meet : Meets terms (columns s) bits = meets terms x [] (columns s) lx are in
    let before : Tells bits one (run flips x) = a.each bits x ok meet first in
    let after : Tells bits other (run left x) = b.each bits x ok meet first in
    let la = before.count in
    let lb = after.count in
    let ls = same.count in
    let size : length (run left x) ≡ length (run flips x) = omega arith in
    ext_get_or false (run left x) (run flips x) size
    (λ line lt.
    let within : line < length one = omega arith in
    let d : Form = some_form one line within in
    after.each line d (omega arith) ∙ sym (same.each line d within bits) ∙ sym (before.each line d within))

pub shorter_at_last : (s : Setup) (terms : List Term) (flips left : List Shape) (one other : List Form) → AreFlips s left
    → EndsAs s terms flips one → EndsAs s terms left other → HoldSame one other → AreTerms (columns s) terms
    → IsShorter s flips left
shorter_at_last s terms flips left one other own a b same are = record {
  valid = own;
  same = λ x ok. same_run s terms flips left one other a b same are x ok;
}

-- ---- flips that stay

pub flips_none : (s : Setup) (flips : List Shape) → flips ≡ [] → AreFlips s flips
flips_none s flips is = subst (AreFlips s) (sym is) (record {
  own = tt;
  enough = (let g = greatest_none (flip_wish s.aux s.lines) in omega arith);
})

each_at : (P : Shape → Type 0) (flips : List Shape) (i : ℕ) (d : Shape) → i < length flips → Every P flips → P (get_or flips i d)
each_at P [] i d lt each = absurd (omega arith)
each_at P (f ∷ rest) zero d lt each = each.0
each_at P (f ∷ rest) (suc i) d lt each = each_at P rest i d (omega arith) each.1

pub flips_more : (s : Setup) (flips left : List Shape) (k : ℕ) (flip : Shape) → k < length flips → flip ≡ get_or flips k flip
    → AreFlips s flips → AreFlips s left → AreFlips s (left ++ flip ∷ [])
flips_more s flips left k flip lt is all so_far = record {
  own =
      every_append (IsFlipOn s.lines) left (flip ∷ []) so_far.own
      (subst (IsFlipOn s.lines) (sym is) (each_at (IsFlipOn s.lines) flips k flip lt all.own), tt);
  enough =
      (let f : Shape → ℕ = flip_wish s.aux s.lines in
      let one = greatest_at f flips k flip lt in
      let e = ap f is in
      let a = all.enough in
      let b = so_far.enough in
      let m = greatest_more f left flip in
      omega arith);
}

-- ---- operations

pub runs_fewer : (s : Setup) (flips left : List Shape) (ops : List Op) → IsShorter s flips left → RunsAs s ops left → RunsAs s ops flips
runs_fewer s flips left ops fewer runs = runs_as (MayStand s) ops (run left) (run flips) runs fewer.same
