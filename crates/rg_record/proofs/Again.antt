-- What a spelling is read as: the value that it spells.
use Rattle.std.proofs.Common.{◌≡◌, ◌<◌, ◌^◌, ℕ, suc, ltb, false, List, [], ◌∷◌, ◌++◌, length}
use Rattle.std.proofs.Common.{Option, Some, None, refl, sym, ap, subst, ◌∙◌, arith, append_assoc}
use Rattle.std.specs.List.{AllByRecursion}
use Rattle.std.proofs.lemmas.Bool.{le-ltb}
use Rattle.std.proofs.lemmas.List.{append-nil, drop_at, take_at, length-append}
use Rattle.std.proofs.lemmas.Option.{same_Some}
use Rattle.rg_base.specs.declared.part.Part.{Part}
use Rattle.rg_base.specs.declared.part.SlotOp.{SlotOp}
use Rattle.rg_base.specs.declared.part.SlotOp.TheVariants as slot_op
use Rattle.rg_base.specs.declared.place.Place.{Place}
use Rattle.rg_base.specs.declared.row.Row.{Row}
use Rattle.rg_base.specs.Field.{field}
use Rattle.rg_base.specs.RowBytes.{row_bytes, row_size}
use Rattle.rg_base.proofs.Fields.{length-field}
use Rattle.rg_base.proofs.RowBytes.{length-row_bytes}
use Rattle.rg_record.specs.declared.record.Kind.{Kind}
use Rattle.rg_record.specs.declared.record.Kind.TheVariants.{Change, Undo, Commit, RolledBack}
use Rattle.rg_record.specs.declared.record.Kind.TheVariants.{Purge, Switch}
use Rattle.rg_record.specs.declared.record.Record.{Record}
use Rattle.rg_record.specs.Fits.{FitsPlace, FitsOp, FitsPart, FitsOption, FitsKind, Fits}
use Rattle.rg_record.specs.Reading.{◌>>=◌, Refuses, number_at, place_at, wide_at, op_at, part_at}
use Rattle.rg_record.specs.Reading.{parts_at, parts_field_at, row_in, row_field_at, change_at}
use Rattle.rg_record.specs.Reading.{undo_at, purge_at, switch_at, kind_at, record_at}
use Rattle.rg_record.specs.Spelled.{IsRecord}
use Rattle.rg_record.specs.Spelling.{place_bytes, op_bytes, part_bytes, parts_bytes, parts_field}
use Rattle.rg_record.specs.Spelling.{row_field, kind_bytes, record_bytes}
use Rattle.rg_record.specs.Told.{NoRecordHas, IsNone}
use Rattle.rg_record.specs.declared.fault.RecordFault.{RecordFault}
use Rattle.rg_record.specs.declared.fault.RecordFault.TheVariants.{NotARecord, NoMemory}
use Rattle.rg_record.proofs.Rows.{number_front, row_again}

pub number_again : (n x : ℕ) (rest : List ℕ) → x < 256 ^ n
    → number_at n (field n x ++ rest) ≡ Some (x, rest)
unfolding number_at
number_again n x rest fits =
    let long : ltb (length (field n x ++ rest)) n ≡ false =
    le-ltb _ _ (omega (arith, length-append (field n x) rest, length-field n x)) in
    rw (
      long,
      number_front n x rest (field n x ++ rest) fits refl,
      drop_at (field n x) rest n (length-field n x),
    )
    refl

place_again : (place : Place) (rest : List ℕ) → FitsPlace place
    → place_at (place_bytes place ++ rest) ≡ Some (place, rest)
unfolding place_at
place_again place rest fits =
    ap place_at (append_assoc (field 4 place.page) (field 2 place.slot) rest)
    ∙ rw (
      number_again 4 place.page (field 2 place.slot ++ rest) fits.page,
      number_again 2 place.slot rest fits.slot,
    )
    refl

-- an operation that has a capacity and a place
wide_again : (code capacity : ℕ) (other : Place) (rest : List ℕ) → capacity < 2 ^ 16
    → FitsPlace other
    → (number_at 2 ((field 2 capacity ++ place_bytes other) ++ rest) >>= λ c. wide_at code c.0 c.1)
    ≡ wide_at code capacity (place_bytes other ++ rest)
wide_again code capacity other rest fits fits_other =
    ap (λ (bytes : List ℕ). number_at 2 bytes >>= λ c. wide_at code c.0 c.1)
    (append_assoc (field 2 capacity) (place_bytes other) rest)
    ∙ rw (number_again 2 capacity (place_bytes other ++ rest) fits) refl

op_again : (op : SlotOp) (rest : List ℕ) → FitsOp op → op_at (op_bytes op ++ rest) ≡ Some (op, rest)
unfolding op_at op_bytes wide_at
op_again slot_op.Free rest fits = refl
op_again (slot_op.Row capacity) rest fits = rw (number_again 2 capacity rest fits) refl
op_again (slot_op.DeadRow capacity) rest fits = rw (number_again 2 capacity rest fits) refl
op_again (slot_op.Pointer capacity other) rest fits =
    wide_again 2 capacity other rest fits.0 fits.1 ∙ rw (place_again other rest fits.1) refl
op_again (slot_op.Over capacity other) rest fits =
    wide_again 3 capacity other rest fits.0 fits.1 ∙ rw (place_again other rest fits.1) refl
op_again (slot_op.DeadPointer capacity other) rest fits =
    wide_again 5 capacity other rest fits.0 fits.1 ∙ rw (place_again other rest fits.1) refl
op_again (slot_op.DeadOver capacity other) rest fits =
    wide_again 6 capacity other rest fits.0 fits.1 ∙ rw (place_again other rest fits.1) refl

part_again : (part : Part) (rest : List ℕ) → FitsPart part
    → part_at (part_bytes part ++ rest) ≡ Some (part, rest)
unfolding part_at
part_again part rest fits =
    let regrouped : part_bytes part ++ rest
    ≡ field 4 part.page ++ (field 2 part.slot ++ (op_bytes part.op ++ rest)) =
    append_assoc (field 4 part.page) (field 2 part.slot ++ op_bytes part.op) rest
    ∙ ap (λ (x : List ℕ). field 4 part.page ++ x)
    (append_assoc (field 2 part.slot) (op_bytes part.op) rest) in
    ap part_at regrouped
    ∙ rw (
      number_again 4 part.page (field 2 part.slot ++ (op_bytes part.op ++ rest)) fits.page,
      number_again 2 part.slot (op_bytes part.op ++ rest) fits.slot,
      op_again part.op rest fits.op,
    )
    refl

parts_again : (parts : List Part) (rest : List ℕ) → AllByRecursion FitsPart parts
    → parts_at (length parts) (parts_bytes parts ++ rest) ≡ Some (parts, rest)
unfolding parts_at parts_bytes
parts_again [] rest fits = refl
parts_again (part ∷ parts) rest fits =
    ap (parts_at (suc (length parts))) (append_assoc (part_bytes part) (parts_bytes parts) rest)
    ∙ rw (part_again part (parts_bytes parts ++ rest) fits.0, parts_again parts rest fits.1) refl

parts_field_again : (parts : List Part) → AllByRecursion FitsPart parts
    → parts_field_at (parts_field parts) ≡ Some (parts, [])
unfolding parts_field_at
parts_field_again parts fits =
    ap (parts_at (length parts)) (sym (append-nil (parts_bytes parts))) ∙ parts_again parts [] fits

row_field_again : (row : Option Row) (rest : List ℕ) → FitsOption row
    → row_field_at (row_field row ++ rest) ≡ Some (row, rest)
unfolding row_field_at row_field row_in
row_field_again None rest fits =
    let long : ltb (length rest) 0 ≡ false = le-ltb _ _ (omega arith) in
    rw (number_again 2 0 rest (omega arith), long) refl
row_field_again (Some row) rest fits =
    let bytes : List ℕ = row_bytes row in
    let size : ℕ = row_size row in
    let len : length bytes ≡ size = length-row_bytes row in
    let long : ltb (length (bytes ++ rest)) size ≡ false =
    le-ltb _ _ (omega (arith, length-append bytes rest, len)) in
    ap row_field_at (append_assoc (field 2 size) bytes rest)
    ∙ rw (
      number_again 2 size (bytes ++ rest) (omega (arith, fits.text.short)),
      long,
      take_at bytes rest size len,
      drop_at bytes rest size len,
      row_again row fits,
    )
    refl

kind_again : (kind : Kind) → FitsKind kind → kind_at (kind_bytes kind) ≡ Some kind
unfolding kind_at kind_bytes change_at undo_at purge_at switch_at
kind_again (Change home before after parts) fits =
    rw (
      place_again home (row_field before ++ (row_field after ++ parts_field parts)) fits.0,
      row_field_again before (row_field after ++ parts_field parts) fits.1,
      row_field_again after (parts_field parts) fits.2,
      parts_field_again parts fits.3,
    )
    refl
kind_again (Undo next home after parts) fits =
    rw (
      number_again 8 next.0 (place_bytes home ++ (row_field after ++ parts_field parts)) fits.0,
      place_again home (row_field after ++ parts_field parts) fits.1,
      row_field_again after (parts_field parts) fits.2,
      parts_field_again parts fits.3,
    )
    refl
kind_again Commit fits = refl
kind_again RolledBack fits = refl
kind_again (Purge parts) fits = rw (parts_field_again parts fits) refl
kind_again (Switch copy pages) fits =
    ap (λ (bytes : List ℕ). number_at 4 bytes >>= λ p. Some (Switch copy p.0))
    (sym (append-nil (field 4 pages)))
    ∙ rw (number_again 4 pages [] fits.1) refl

-- a record's bytes are read as that record
pub record_again : (entry : Record) → Fits entry → record_at (record_bytes entry) ≡ Some entry
unfolding record_at record_bytes
record_again entry fits =
    let kind : List ℕ = kind_bytes entry.kind in
    let back : List ℕ = field 8 entry.back.0 ++ kind in
    rw (
      number_again 8 entry.position.0 (field 4 entry.tran.0 ++ back) fits.position,
      number_again 4 entry.tran.0 back fits.tran,
      number_again 8 entry.back.0 kind fits.back,
      kind_again entry.kind fits.kind,
    )
    refl

some_none : (entry : Record) → Some entry ≡ None → ⊥
some_none entry e = absurd cc

-- where nothing is read, no record stands
pub nothing_read : (bytes : List ℕ) → record_at bytes ≡ None → NoRecordHas bytes
nothing_read bytes none entry fits is spelled =
    absurd (some_none entry (sym (record_again entry fits) ∙ ap record_at spelled ∙ none))

-- where one record is read, no other stands
pub only_read : (bytes : List ℕ) (read : Record) → record_at bytes ≡ Some read
    → (IsRecord read → record_bytes read ≡ bytes → ⊥) → NoRecordHas bytes
only_read bytes read e other entry fits is spelled =
    let same : entry ≡ read =
    same_Some entry read (sym (record_again entry fits) ∙ ap record_at spelled ∙ e) in
    other (subst IsRecord same is) (ap record_bytes (sym same) ∙ spelled)

-- a refusal that reading gives says that no record stands there
pub refused : (bytes : List ℕ) (fault : RecordFault) → Refuses fault (record_at bytes)
    → IsNone bytes fault
refused bytes NotARecord none = nothing_read bytes none
refused bytes NoMemory none = tt

-- equal bytes are of equal records
pub one_record : (a b : Record) → Fits a → Fits b → record_bytes a ≡ record_bytes b → a ≡ b
one_record a b fits_a fits_b e =
    same_Some a b (sym (record_again a fits_a) ∙ ap record_at e ∙ record_again b fits_b)
