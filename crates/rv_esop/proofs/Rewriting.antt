-- Gates in the place of others.
use Rattle.std.proofs.Common.{◌≡◌, ℕ, ◌+◌, ◌<◌, ◌≤◌, Bool, List, [], ◌∷◌, ◌++◌, length, get_or, take, refl, sym, ◌∙◌, ap, subst, append_assoc, append-nil, length-append, arith}
use Rattle.std.specs.Prelude.{All}
use Rattle.std.proofs.lemmas.List.{take_more, take_all}
use Rattle.std.proofs.lemmas.List.Elements.{All-get_or}
use Rattle.rv_gate.specs.Circuit.{Cascade}
use Rattle.rv_gate.specs.Names.{numbered}
use Rattle.rv_gate.proofs.NameLemmas.{length-numbered}
use Rattle.rv_gate.specs.Gate.{run, FitsIn}
use Rattle.rv_gate.specs.declared.gate.Shape.{Shape}
use Rattle.rv_gate.proofs.inside.GateLemmas.{run-append, length-run}
use Rattle.rv_mct.specs.Extends.{Extends}
use Rattle.rv_mct.specs.Widened.{added_names, decomposed, helper_count}
use Rattle.rv_mct.specs.declared.aux.Aux.TheVariants.{Borrowed}
use Rattle.rv_esop.specs.Parts.{ActSame, AppendsSame, Rewrites}
use Rattle.rv_esop.specs.Shared.{Adds, IsOnLines}
use Rattle.rv_esop.proofs.Marks.{with_gates}

pub same_none : (c : Cascade) → AppendsSame [] c c
same_none c = record {
  block = [];
  is = ap (with_gates c) (sym (append-nil c.gates));
  same = λ word len. refl;
}

pub same_push : (gates : List Shape) (gate : Shape) (old mid new : Cascade) → AppendsSame gates old mid
    → AppendsSame (gate ∷ []) mid new → AppendsSame (gates ++ gate ∷ []) old new
same_push gates gate old mid new a b = record {
  block = a.block ++ b.block;
  is =
      b.is ∙ ap (λ (t : Cascade). with_gates t (t.gates ++ b.block)) a.is
      ∙ ap (with_gates old) (append_assoc old.gates a.block b.block);
  same = λ word len.
      run-append a.block b.block word
      ∙ b.same (run a.block word)
      (length-run a.block word ∙ len ∙ sym (ap (λ (t : Cascade). length t.names) a.is))
      ∙ ap (run (gate ∷ [])) (a.same word len)
      ∙ sym (run-append gates (gate ∷ []) word);
}

-- one gate, as it is
pub same_gate : (gate : Shape) (old new : Cascade) → new ≡ record old { gates = old.gates ++ gate ∷ [] }
    → AppendsSame (gate ∷ []) old new
same_gate gate old new is = record { block = gate ∷ []; is = is; same = λ word len. refl }

pub same_block : (gate : Shape) (n : ℕ) (block : List Shape) (old new : Cascade)
    → new ≡ record old { gates = old.gates ++ block } → ActSame (length old.names) (gate ∷ []) block
    → AppendsSame (gate ∷ []) old new
same_block gate n block old new is same = record { block = block; is = is; same = same }

-- a circuit begun without gates
pub rewritten : (c start new : Cascade) → start ≡ record c { gates = [] } → AppendsSame c.gates start new
    → Rewrites c new
rewritten c start new e a =
    let made : new ≡ with_gates c a.block = a.is ∙ ap (λ (t : Cascade). with_gates t (t.gates ++ a.block)) e in
    record {
      is = made ∙ ap (λ (t : Cascade). with_gates c t.gates) (sym made);
      same = λ word len.
          ap (λ (t : Cascade). run t.gates word) made
          ∙ a.same word (len ∙ sym (ap (λ (t : Cascade). length t.names) e));
    }

pub rewrites_self : (c : Cascade) → Rewrites c c
rewrites_self c = record { is = refl; same = λ word len. refl }

-- ---- a decomposition without more lines

pub as_many_lines : (c made : Cascade) → made ≡ decomposed Borrowed c → helper_count Borrowed c ≡ 0
    → length made.names ≡ length c.names
as_many_lines c made is none =
    ap (λ (t : Cascade). length t.names) is
    ∙ ap (λ k. length (c.names ++ added_names c.names k)) none
    ∙ ap length (append-nil c.names)

pub acts_same : (n extra : ℕ) (new old : List Shape) → extra ≡ 0 → Extends Borrowed n extra new old → ActSame n old new
acts_same n extra new old none h word len =
    ap (run new) (sym (append-nil word)) ∙ h word [] len (sym none) tt ∙ append-nil (run old word)

-- ---- what is added

pub adds_rewritten : (n o : ℕ) (f : List Bool → ℕ) (old new : Cascade) → length old.names ≡ n + o → Rewrites old new
    → Adds n o f old.gates → Adds n o f new.gates
adds_rewritten n o f old new lines r a = record {
  adds = λ x v lx lv.
      r.same (x ++ v) (length-append x v ∙ ap (λ k. k + length v) lx ∙ ap (λ k. n + k) lv ∙ sym lines) ∙ a.adds x v lx lv;
}

-- ---- one gate more of a list

pub fits_at : (gates : List Shape) (k n m : ℕ) (gate : Shape) → k < length gates → gate ≡ get_or gates k gate → m ≡ n
    → All (λ g. FitsIn g n) gates → FitsIn gate m
fits_at gates k n m gate h at e all =
    let P : Shape → Type 0 = λ g. FitsIn g n in
    let Q : ℕ → Type 0 = λ l. FitsIn gate l in
    subst Q (sym e) (subst P (sym at) (All-get_or P gates k gate h all))

pub same_next : (gates : List Shape) (k : ℕ) (gate : Shape) (old mid new : Cascade) → k < length gates
    → gate ≡ get_or gates k gate → AppendsSame (take k gates) old mid → AppendsSame (gate ∷ []) mid new
    → AppendsSame (take (k + 1) gates) old new
same_next gates k gate old mid new h at a b =
    let P : List Shape → Type 0 = λ l. AppendsSame l old new in
    subst P (ap (λ g. take k gates ++ g ∷ []) at ∙ sym (take_more gates k gate h)) (same_push (take k gates) gate old mid new a b)

pub pushed_next : (gates : List Shape) (k : ℕ) (gate : Shape) (old mid new : Cascade) → k < length gates
    → gate ≡ get_or gates k gate → mid ≡ record old { gates = old.gates ++ take k gates }
    → new ≡ record mid { gates = mid.gates ++ gate ∷ [] }
    → new ≡ record old { gates = old.gates ++ take (k + 1) gates }
pushed_next gates k gate old mid new h at a b =
    b ∙ ap (λ (t : Cascade). with_gates t (t.gates ++ gate ∷ [])) a
    ∙ ap (with_gates old)
    (append_assoc old.gates (take k gates) (gate ∷ [])
    ∙ ap (λ l. old.gates ++ l) (ap (λ g. take k gates ++ g ∷ []) at ∙ sym (take_more gates k gate h)))

pub pushed_all : (gates : List Shape) (k : ℕ) (old new : Cascade) → length gates ≤ k
    → new ≡ record old { gates = old.gates ++ take k gates } → new ≡ record old { gates = old.gates ++ gates }
pushed_all gates k old new h e = e ∙ ap (λ l. with_gates old (old.gates ++ l)) (take_all k gates h)

pub same_all : (gates : List Shape) (k : ℕ) (old new : Cascade) → length gates ≤ k
    → AppendsSame (take k gates) old new → AppendsSame gates old new
same_all gates k old new h a = let P : List Shape → Type 0 = λ l. AppendsSame l old new in subst P (take_all k gates h) a

-- ---- on the lines of a cascade

pub on_lines : (n o : ℕ) (old new : Cascade) → IsOnLines n o old → Rewrites old new → IsOnLines n o new
on_lines n o old new on r = r.is ∙ ap (λ (t : Cascade). with_gates t new.gates) on

pub line_count : (n o : ℕ) (c : Cascade) → IsOnLines n o c → length c.names ≡ n + o
line_count n o c on =
    omega (
      arith,
      ap (λ (t : Cascade). length t.names) on,
      length-append (numbered 120 n) (numbered 121 o),
      length-numbered 120 n,
      length-numbered 121 o,
    )
