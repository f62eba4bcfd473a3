-- Blocks of numbers, with the lines that their gates read and change.
use Rattle.std.proofs.Common.{◌≡◌, ℕ, ◌+◌, ◌<◌, ◌≤◌, ◌/◌, true, List, length, set, take, drop, ◌++◌, sym, subst, ◌∙◌, ap, inl, inr, arith, length-set, get_or-set_same, get_or-set_other}
use Rattle.std.proofs.lemmas.Bool.{cases_eq, cases_lt}
use Rattle.std.proofs.lemmas.List.{take_at}
use Rattle.rv_gate.specs.declared.gate.Shape.{Shape}
use Rattle.rv_gate.specs.Gate.{targets}
use Rattle.rv_gate.specs.Commuting.{rule}
use Rattle.std.specs.Prelude.{bit_or}
use Rattle.rv_links.specs.Order.{lists}
use Rattle.rv_links.specs.declared.used.LineUse.{LineUse}
use Rattle.rv_links.specs.inside.Ring.{Order, without}
use Rattle.rv_links.specs.inside.Chains.{blank, gate_at}
use Rattle.rv_links.specs.inside.Used.{read_by, Uses}
use Rattle.rv_links.specs.inside.Blocks.{used_at, Held, InBlocks, IsCovered}
use Rattle.rv_links.proofs.inside.RingLemmas.{lists_without}
use Rattle.rv_links.proofs.inside.UsedLemmas.{uses_more, uses_own}

abbrev pub wider : LineUse → Shape → LineUse
wider u g = record { read = bit_or u.read (read_by g); changed = bit_or u.changed (targets g) }

pub wider_is : (u : LineUse) (g : Shape) (read changed : ℕ) → read ≡ read_by g → changed ≡ targets g → (let v : LineUse = record { read = bit_or u.read read; changed = bit_or u.changed changed } in v) ≡ wider u g
wider_is u g read changed e f =
    ap (λ (r : ℕ). let v : LineUse = record { read = bit_or u.read r; changed = bit_or u.changed changed } in v) e
    ∙ ap (λ (t : ℕ). let v : LineUse = record { read = bit_or u.read (read_by g); changed = bit_or u.changed t } in v) f

-- a block gets a gate
pub held_here : (blocks : List LineUse) (i : ℕ) (g : Shape) (u v : LineUse) → i < length blocks → u ≡ used_at blocks i → v ≡ wider u g → Held (set blocks i v) i g
held_here blocks i g u v lt e f l =
    rw (get_or-set_same blocks i v (record { read = 0; changed = 0 }) lt, f) (uses_own u.read u.changed g)

pub held_more : (blocks : List LineUse) (i j : ℕ) (g h : Shape) (u v : LineUse) → i < length blocks → u ≡ used_at blocks i → v ≡ wider u g → Held blocks j h → Held (set blocks i v) j h
held_more blocks i j g h u v lt e f before l =
    elim (cases_eq j i) [
      | inl same ↦
          rw (same, get_or-set_same blocks i v (record { read = 0; changed = 0 }) lt, f, e)
          (uses_more _ _ (read_by g) (targets g) h (subst (λ (k : ℕ). Uses (used_at blocks k).read (used_at blocks k).changed h) same (before (omega (arith, l, length-set blocks i v)))))
      | inr ne ↦ rw (get_or-set_other blocks i j v (record { read = 0; changed = 0 }) ne) (before (omega (arith, l, length-set blocks i v)))
    ]

-- one gate more
pub cover_more : (n size i : ℕ) (old was new : List LineUse) (gates : List Shape) (g : Shape) → was ≡ old → length new ≡ length was → n ≡ length old → g ≡ gate_at gates i → Held new (i / size) g
    → ((j : ℕ) (h : Shape) → Held was j h → Held new j h) → ((x : ℕ) → x < i → Held old (x / size) (gate_at gates x))
    → (x : ℕ) → x < i + 1 → Held (take n (new ++ drop (length new) old)) (x / size) (gate_at gates x)
cover_more n size i old was new gates g e long len read here others before x lt =
    subst (λ (l : List LineUse). Held l (x / size) (gate_at gates x)) (sym (take_at new (drop (length new) old) n (long ∙ ap length e ∙ sym len)))
    (elim (cases_eq x i) [
      | inl same ↦ subst (λ (y : ℕ). Held new (y / size) (gate_at gates y)) (sym same) (subst (λ (h : Shape). Held new (i / size) h) read here)
      | inr ne ↦ others (x / size) (gate_at gates x) (subst (λ (l : List LineUse). Held l (x / size) (gate_at gates x)) (sym e) (before x (omega (arith, lt, ne))))
    ])

-- ---- a linked cascade changes

pub covered_erased : (small middle large : List LineUse) (gates : List Shape) (order after : Order) (x : ℕ) → after ≡ (let o : Order = record { room = order.room; ids = without x order.ids } in o)
    → IsCovered small middle large gates order.ids → IsCovered small middle large gates after.ids
covered_erased small middle large gates order after x e k =
    subst (λ (o : Order). IsCovered small middle large gates o.ids) (sym e) (λ y l. k y (lists_without x y order.ids l))

pub covered_set : (small middle large small2 middle2 large2 : List LineUse) (gates : List Shape) (ids : List ℕ) (x : ℕ) (g : Shape) → x < length gates → InBlocks small2 middle2 large2 x g
    → ((y : ℕ) (h : Shape) → InBlocks small middle large y h → InBlocks small2 middle2 large2 y h) → IsCovered small middle large gates ids → IsCovered small2 middle2 large2 (set gates x g) ids
covered_set small middle large small2 middle2 large2 gates ids x g lt here others k y l =
    elim (cases_eq y x) [
      | inl e ↦ rw (e, get_or-set_same gates x g blank lt) here
      | inr ne ↦ rw (get_or-set_other gates x y g blank ne) (others y (gate_at gates y) (k y l))
    ]

-- ---- blocks are passed

-- one number more is passed, or is none of the order
pub passed_more : (gates : List Shape) (ids : List ℕ) (gate : Shape) (from at end : ℕ) → ((x : ℕ) → lists x ids ≡ true → from ≤ x → x < at → rule gate (gate_at gates x) ≡ true)
    → ((x : ℕ) → lists x ids ≡ true → at ≤ x → x < end → rule gate (gate_at gates x) ≡ true) → (x : ℕ) → lists x ids ≡ true → from ≤ x → x < end → rule gate (gate_at gates x) ≡ true
passed_more gates ids gate from at end before next x on le lt =
    elim (cases_lt x at) [ inl early ↦ before x on le early | inr late ↦ next x on late lt ]
