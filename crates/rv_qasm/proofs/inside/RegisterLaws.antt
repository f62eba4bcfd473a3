-- Registers in a map by their names.
use Rattle.std.proofs.Common.{◌≡◌, ℕ, zero, suc, ◌+◌, ◌≤◌, min, Bool, true, false, cond, List, [], ◌∷◌, ◌++◌, length, slice_get, option_map, IfSome, Some, None, refl, ap, sym, ◌∙◌, arith}
use Rattle.std.proofs.lemmas.List.{map-append}
use Rattle.std.proofs.lemmas.List.Sums.{sum_by-cons}
use Rattle.std.specs.Str.{bytes_eq}
use Rattle.std.specs.Global.{Vec}
use Rattle.std.specs.Map.{lookup}
use Rattle.indexmap.specs.IndexMap.{insert_entry}
use Rattle.rv_gate.specs.declared.word.TheConstants.{MOST_LINES}
use Rattle.rv_qasm.specs.Registers.{Register, QubitRange as Qubits, declared_size, register_at, size_of_all}
use Rattle.rv_qasm.specs.inside.Views.{register_of, registers_of, Follow}
use Rattle.rv_qasm.specs.declared.registers.Extent.{Extent}
use Rattle.rv_qasm.specs.declared.registers.TheConstants.{MOST_PLACES}

pub first_size : (register : Register) (registers : List Register) → size_of_all (register ∷ registers) ≡ register.size + size_of_all registers
first_size register registers = sum_by-cons (λ (r : Register). r.size) register registers

-- what a map answers
pub looked_up : (name : List ℕ) (entries : List (Vec ℕ × Extent))
    → option_map (λ (e : Extent). e.size) (lookup (λ (key : Vec ℕ). bytes_eq name key.items) entries) ≡ declared_size name (registers_of entries)
looked_up name [] = refl
looked_up name (entry ∷ entries) = let i0 = looked_up name entries in grind (arith, i0, option_map)

-- the qubits of a register by where it lies
abbrev pub whole : Extent → Qubits
whole e = record { first = e.before; count = e.size; is_whole = true }

-- the answer is that of the registers in turn, and lies among all places
found_both : (name : List ℕ) (before : ℕ) (entries : List (Vec ℕ × Extent)) (total : ℕ) → Follow before entries total → before + size_of_all (registers_of entries) ≤ MOST_LINES
    → (option_map whole (lookup (λ (key : Vec ℕ). bytes_eq name key.items) entries) ≡ register_at before name (registers_of entries))
    × IfSome (lookup (λ (key : Vec ℕ). bytes_eq name key.items) entries) (λ e. e.before + e.size ≤ before + size_of_all (registers_of entries))
found_both name before [] total follow few = (refl, tt)
found_both name before (entry ∷ entries) total follow few =
    let sum = first_size (register_of entry) (registers_of entries) in
    let here : min (before + entry.1.size) MOST_PLACES ≡ before + entry.1.size = omega (arith, sum, few) in
    let same : before + entry.1.size + size_of_all (registers_of entries) ≡ before + size_of_all (registers_of (entry ∷ entries)) = omega (arith, sum) in
    let rest = found_both name (before + entry.1.size) entries total (rw (sym here) follow.1) (omega (arith, same, few)) in
    elim (bytes_eq name entry.0.items) as (λ t.
    (option_map whole (cond t (Some entry.1) (lookup (λ (key : Vec ℕ). bytes_eq name key.items) entries))
    ≡ cond t (Some (record { first = before; count = entry.1.size; is_whole = true })) (register_at (before + entry.1.size) name (registers_of entries)))
    × IfSome (cond t (Some entry.1) (lookup (λ (key : Vec ℕ). bytes_eq name key.items) entries)) (λ e. e.before + e.size ≤ before + size_of_all (registers_of (entry ∷ entries)))) [
      | true ↦ (ap (λ (b : ℕ). Some (record { first = b; count = entry.1.size; is_whole = true })) follow.0, omega (arith, sum, follow.0))
      | false ↦ (rest.0, rw same at rest.1)
    ]

-- the register of a name, among all
pub found : (name : List ℕ) (entries : List (Vec ℕ × Extent)) (total : ℕ) (registers : List Register) → Follow 0 entries total → registers_of entries ≡ registers → size_of_all registers ≤ MOST_LINES
    → option_map whole (lookup (λ (key : Vec ℕ). bytes_eq name key.items) entries) ≡ register_at 0 name registers
found name entries total registers follow is few = (found_both name 0 entries total follow (omega (arith, ap size_of_all is, few))).0 ∙ ap (register_at 0 name) is

pub found_end : (name : List ℕ) (entries : List (Vec ℕ × Extent)) (total : ℕ) (registers : List Register) → Follow 0 entries total → registers_of entries ≡ registers → size_of_all registers ≤ MOST_LINES
    → (e : Extent) → Some e ≡ lookup (λ (key : Vec ℕ). bytes_eq name key.items) entries → e.before + e.size ≤ size_of_all registers
found_end name entries total registers follow is few e some =
    let all : 0 + size_of_all (registers_of entries) ≡ size_of_all registers = omega (arith, ap size_of_all is) in
    let both = found_both name 0 entries total follow (omega (arith, all, few)) in rw all at (rw (sym some) at both.1)

-- one register more after the others
pub follow_more : (before : ℕ) (entries : List (Vec ℕ × Extent)) (total : ℕ) (name : Vec ℕ) (size : ℕ) → Follow before entries total
    → Follow before (entries ++ (name, record { before = total; size = size }) ∷ []) (min (total + size) MOST_PLACES)
follow_more before [] total name size follow = (follow, ap (λ (b : ℕ). min (b + size) MOST_PLACES) follow)
follow_more before (entry ∷ entries) total name size follow = (follow.0, follow_more (min (before + entry.1.size) MOST_PLACES) entries total name size follow.1)

-- a new name goes last
pub inserted : (entries : List (Vec ℕ × Extent)) (name : Vec ℕ) (extent : Extent) → declared_size name.items (registers_of entries) ≡ None
    → insert_entry (λ (x y : Vec ℕ). bytes_eq x.items y.items) entries name extent ≡ entries ++ (name, extent) ∷ []
inserted [] name extent none = refl
inserted (entry ∷ entries) name extent none = by (bytes_eq name.items entry.0.items) refl (inserted entries name extent)
  where
    by : (b : Bool) → bytes_eq name.items entry.0.items ≡ b
        → (declared_size name.items (registers_of entries) ≡ None → insert_entry (λ (x y : Vec ℕ). bytes_eq x.items y.items) entries name extent ≡ entries ++ (name, extent) ∷ [])
        → insert_entry (λ (x y : Vec ℕ). bytes_eq x.items y.items) (entry ∷ entries) name extent ≡ entry ∷ (entries ++ (name, extent) ∷ [])
    by true t rest = let f = rw t at none in (cc f)
    by false t rest = let f = rw t at none in rw (t, rest f) refl

pub pushed : (old new : List (Vec ℕ × Extent)) (name : Vec ℕ) (extent : Extent) → declared_size name.items (registers_of old) ≡ None
    → new ≡ insert_entry (λ (x y : Vec ℕ). bytes_eq x.items y.items) old name extent
    → registers_of new ≡ registers_of old ++ record { name = name.items; size = extent.size } ∷ []
pushed old new name extent none e = ap registers_of (e ∙ inserted old name extent none) ∙ map-append register_of old ((name, extent) ∷ [])

-- a list of one register
pub only_register : (registers : List Register) (name : List ℕ) → length registers ≡ 1 → option_map (λ r. r.name) (slice_get registers 0) ≡ Some name
    → registers ≡ record { name = name; size = size_of_all registers } ∷ []
only_register [] name one is = absurd (omega (arith, one))
only_register (r ∷ []) name one is = grind (arith, first_size)
only_register (r ∷ s ∷ registers) name one is = absurd (omega (arith, one))

-- a size among those of all
pub size_small : (registers : List Register) (index size : ℕ) → option_map (λ r. r.size) (slice_get registers index) ≡ Some size → size ≤ size_of_all registers
size_small [] index size is = (cc is)
size_small (r ∷ registers) zero size is = let e : r.size ≡ size = cc is in omega (arith, e, first_size r registers)
size_small (r ∷ registers) (suc index) size is = let rest = size_small registers index size is in omega (arith, rest, first_size r registers)
