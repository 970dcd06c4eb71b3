-- How many bytes the pieces of a record have.
use Rattle.std.proofs.Common.{◌≡◌, ◌≤◌, ◌<◌, ℕ, suc, zero, ◌+◌, ◌*◌, true, eqb}
use Rattle.std.proofs.Common.{List, [], ◌∷◌, ◌++◌, length, drop, get_or, Option, Some, None, refl}
use Rattle.std.proofs.Common.{ap, ◌∙◌, arith, length-append, append_assoc}
use Rattle.std.specs.List.{list_all}
use Rattle.std.proofs.lemmas.List.{drop_more}
use Rattle.std.proofs.Math.Seq.{drop-nil}
use Rattle.std.proofs.lemmas.Bool.{and_parts}
use Rattle.rg_base.specs.declared.part.Part.{Part}
use Rattle.rg_base.specs.declared.part.SlotOp.{SlotOp}
use Rattle.rg_base.specs.declared.part.SlotOp.TheVariants as slot_op
use Rattle.rg_base.specs.declared.row.Row.{Row}
use Rattle.rg_base.specs.Field.{field}
use Rattle.rg_base.specs.RowBytes.{row_bytes, row_size}
use Rattle.rg_base.proofs.Fields.{length-field}
use Rattle.rg_base.proofs.RowBytes.{length-row_bytes}
use Rattle.rg_record.specs.declared.record.Kind.{Kind}
use Rattle.rg_record.specs.declared.record.Kind.TheVariants.{Change, Undo, Commit, RolledBack}
use Rattle.rg_record.specs.declared.record.Kind.TheVariants.{Purge, Switch}
use Rattle.rg_record.specs.declared.record.Record.{Record}
use Rattle.rg_record.specs.Fits.{FitsOption, FitsKind, Fits}
use Rattle.rg_record.specs.Spelled.{is_free, frees_on, AreFrees, IsKind, IsRecord, greatest}
use Rattle.rg_record.specs.Spelling.{op_bytes, op_size, part_size, part_bytes, parts_bytes}
use Rattle.rg_record.specs.Spelling.{parts_size, row_field, row_field_size, kind_bytes, kind_size}
use Rattle.rg_record.specs.Spelling.{record_bytes, record_size}

-- one part more
pub parts_size_at : (parts : List Part) (i : ℕ) (d : Part) → i < length parts
    → parts_size (drop i parts) ≡ part_size (get_or parts i d) + parts_size (drop (i + 1) parts)
unfolding parts_size
parts_size_at parts i d lt = ap parts_size (drop_more parts i d lt)

pub parts_bytes_at : (parts : List Part) (i : ℕ) (d : Part) → i < length parts
    → parts_bytes (drop i parts) ≡ part_bytes (get_or parts i d) ++ parts_bytes (drop (i + 1) parts)
unfolding parts_bytes
parts_bytes_at parts i d lt = ap parts_bytes (drop_more parts i d lt)

-- a piece more
pub piece_added : (out piece rest new all : List ℕ) → new ≡ out ++ piece
    → out ++ (piece ++ rest) ≡ all
    → new ++ rest ≡ all
piece_added out piece rest new all e so_far =
    ap (λ (xs : List ℕ). xs ++ rest) e ∙ append_assoc out piece rest ∙ so_far

-- no part more
pub parts_end : (parts : List Part) (i : ℕ) → length parts ≤ i → drop i parts ≡ []
parts_end [] i le = drop-nil i
parts_end (part ∷ parts) zero le = absurd (omega (arith, le))
parts_end (part ∷ parts) (suc i) le = parts_end parts i (omega (arith, le))

free_size : (op : SlotOp) → is_free op ≡ true → op_size op ≡ 1
unfolding op_size
free_size slot_op.Free e = refl
free_size (slot_op.Row capacity) e = absurd cc
free_size (slot_op.Pointer capacity other) e = absurd cc
free_size (slot_op.Over capacity other) e = absurd cc
free_size (slot_op.DeadRow capacity) e = absurd cc
free_size (slot_op.DeadPointer capacity other) e = absurd cc
free_size (slot_op.DeadOver capacity other) e = absurd cc

all_frees_size : (page : ℕ) (parts : List Part) → list_all (frees_on page) parts ≡ true
    → parts_size parts ≡ 7 * length parts
unfolding parts_size
all_frees_size page [] e = refl
all_frees_size page (part ∷ parts) e =
    let both = and_parts (frees_on page part) (list_all (frees_on page) parts) e in
    let free = and_parts (is_free part.op) (eqb part.page page) both.0 in
    omega (arith, free_size part.op free.0, all_frees_size page parts both.1)

pub frees_size : (parts : List Part) → AreFrees parts → parts_size parts ≡ 7 * length parts
frees_size [] frees = absurd frees
frees_size (part ∷ parts) frees = all_frees_size part.page (part ∷ parts) frees

length-op_bytes : (op : SlotOp) → length (op_bytes op) ≡ op_size op
unfolding op_bytes op_size
length-op_bytes slot_op.Free = refl
length-op_bytes (slot_op.Row capacity) = simp (length-append, length-field) (omega arith)
length-op_bytes (slot_op.Pointer capacity other) = simp (length-append, length-field) (omega arith)
length-op_bytes (slot_op.Over capacity other) = simp (length-append, length-field) (omega arith)
length-op_bytes (slot_op.DeadRow capacity) = simp (length-append, length-field) (omega arith)
length-op_bytes (slot_op.DeadPointer capacity other) =
    simp (length-append, length-field) (omega arith)
length-op_bytes (slot_op.DeadOver capacity other) = simp (length-append, length-field) (omega arith)

length-parts_bytes : (parts : List Part) → length (parts_bytes parts) ≡ parts_size parts
unfolding parts_bytes parts_size
length-parts_bytes [] = refl
length-parts_bytes (part ∷ parts) =
    let op = length-op_bytes part.op in
    let others = length-parts_bytes parts in
    simp (length-append, length-field) (omega (arith, op, others))

length-row_field : (row : Option Row) → length (row_field row) ≡ row_field_size row
unfolding row_field row_field_size
length-row_field None = length-field 2 0
length-row_field (Some row) =
    length-append (field 2 (row_size row)) (row_bytes row)
    ∙ omega (arith, length-field 2 (row_size row), length-row_bytes row)

length-kind_bytes : (kind : Kind) → length (kind_bytes kind) ≡ kind_size kind
unfolding kind_bytes kind_size
length-kind_bytes (Change home before after parts) =
    let b = length-row_field before in
    let a = length-row_field after in
    let p = length-parts_bytes parts in
    simp (length-append, length-field) (omega (arith, b, a, p))
length-kind_bytes (Undo next home after parts) =
    let a = length-row_field after in
    let p = length-parts_bytes parts in
    simp (length-append, length-field) (omega (arith, a, p))
length-kind_bytes Commit = refl
length-kind_bytes RolledBack = refl
length-kind_bytes (Purge parts) = let p = length-parts_bytes parts in omega (arith, p)
length-kind_bytes (Switch copy pages) = let f = length-field 4 pages in omega (arith, f)

pub length-record_bytes : (entry : Record) → length (record_bytes entry) ≡ record_size entry
unfolding record_bytes record_size
length-record_bytes entry =
    let k = length-kind_bytes entry.kind in
    simp (length-append, length-field) (omega (arith, k))

pub ruleset record_sizes = length-record_bytes

op_size_high : (op : SlotOp) → op_size op ≤ 9
unfolding op_size
op_size_high slot_op.Free = omega arith
op_size_high (slot_op.Row capacity) = omega arith
op_size_high (slot_op.Pointer capacity other) = omega arith
op_size_high (slot_op.Over capacity other) = omega arith
op_size_high (slot_op.DeadRow capacity) = omega arith
op_size_high (slot_op.DeadPointer capacity other) = omega arith
op_size_high (slot_op.DeadOver capacity other) = omega arith

parts_size_high : (parts : List Part) → parts_size parts ≤ 15 * length parts
unfolding parts_size
parts_size_high [] = omega arith
parts_size_high (part ∷ parts) = omega (arith, op_size_high part.op, parts_size_high parts)

row_field_size_high : (row : Option Row) → FitsOption row → row_field_size row ≤ 828
unfolding row_field_size
row_field_size_high None fits = omega arith
row_field_size_high (Some row) fits = omega (arith, fits.text.short)

kind_size_high : (kind : Kind) → IsKind kind → FitsKind kind → 20 + kind_size kind ≤ greatest kind
unfolding kind_size
kind_size_high (Change home before after parts) is fits =
    omega (
      arith,
      row_field_size_high before fits.1,
      row_field_size_high after fits.2,
      parts_size_high parts,
      is.1,
    )
kind_size_high (Undo next home after parts) is fits =
    omega (arith, row_field_size_high after fits.2, parts_size_high parts, is.1)
kind_size_high Commit is fits = omega arith
kind_size_high RolledBack is fits = omega arith
kind_size_high (Purge parts) is fits = omega (arith, frees_size parts is.1, is.0)
kind_size_high (Switch copy pages) is fits = omega arith

-- no record has more bytes than the greatest of its kind
pub record_size_high : (entry : Record) → IsRecord entry → Fits entry
    → record_size entry ≤ greatest entry.kind
unfolding record_size
record_size_high entry is fits = kind_size_high entry.kind is.0 fits.kind

greatest_high : (kind : Kind) → greatest kind ≤ 1729
greatest_high (Change home before after parts) = omega arith
greatest_high (Undo next home after parts) = omega arith
greatest_high Commit = omega arith
greatest_high RolledBack = omega arith
greatest_high (Purge parts) = omega arith
greatest_high (Switch copy pages) = omega arith

pub record_size_limit : (entry : Record) → IsRecord entry → Fits entry → record_size entry ≤ 1729
record_size_limit entry is fits =
    omega (arith, record_size_high entry is fits, greatest_high entry.kind)
