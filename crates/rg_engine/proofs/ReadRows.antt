-- Rows read one after another, at the places of entries.
use Rattle.std.proofs.Common.{◌≡◌, ◌<◌, ◌+◌, ℕ, List, [], ◌∷◌, ◌++◌, map, Option, Some, None}
use Rattle.std.proofs.Common.{length, take, get_or, sym, ◌∙◌, ap, add-one}
use Rattle.std.specs.List.{cons_option}
use Rattle.std.proofs.Math.Seq.{take-suc}
use Rattle.std.proofs.lemmas.List.{append-nil, map-append}
use Rattle.std.proofs.lemmas.List.Elements.{filter_map-append}
use Rattle.rg_base.specs.declared.place.Place.{Place}
use Rattle.rg_base.specs.declared.row.Row.{Row}
use Rattle.rg_btree.specs.Indexes.Listed.{listed_keys, listed_rows}

-- one entry more
listed_more : (rows : Place → Option Row) (es : List (ℕ × Place)) (i : ℕ) (d : ℕ × Place)
    → i < length es
    → listed_rows rows (take (i + 1) es)
    ≡ listed_rows rows (take i es) ++ cons_option (rows (get_or es i d).1) []
listed_more rows es i d low =
    ap (λ (n : ℕ). listed_rows rows (take n es)) (add-one i)
    ∙ ap (listed_rows rows) (take-suc es i d low)
    ∙ filter_map-append (λ entry. rows entry.1) (take i es) (get_or es i d ∷ [])

pub read_some : (rows : Place → Option Row) (es : List (ℕ × Place)) (i : ℕ) (d : ℕ × Place)
    (old new : List Row) (row : Row) → i < length es
    → old ≡ listed_rows rows (take i es) → rows (get_or es i d).1 ≡ Some row → new ≡ old ++ row ∷ []
    → new ≡ listed_rows rows (take (i + 1) es)
read_some rows es i d old new row low so is e =
    e ∙ ap (λ (rs : List Row). rs ++ row ∷ []) so
    ∙ sym
    (listed_more rows es i d low
    ∙ ap (λ (o : Option Row). listed_rows rows (take i es) ++ cons_option o []) is)

pub read_none :
    (rows : Place → Option Row) (es : List (ℕ × Place)) (i : ℕ) (d : ℕ × Place) (old new : List Row)
    → i < length es
    → old ≡ listed_rows rows (take i es) → rows (get_or es i d).1 ≡ None → new ≡ old
    → new ≡ listed_rows rows (take (i + 1) es)
read_none rows es i d old new low so is e =
    e ∙ so
    ∙ sym
    (listed_more rows es i d low
    ∙ ap (λ (o : Option Row). listed_rows rows (take i es) ++ cons_option o []) is
    ∙ append-nil (listed_rows rows (take i es)))

-- likewise of their keys

key_more : (rows : Place → Option Row) (es : List (ℕ × Place)) (i : ℕ) (d : ℕ × Place)
    → i < length es
    → listed_keys rows (take (i + 1) es)
    ≡ listed_keys rows (take i es)
    ++ map (λ (row : Row). row.key) (cons_option (rows (get_or es i d).1) [])
key_more rows es i d low =
    ap (map (λ (row : Row). row.key)) (listed_more rows es i d low)
    ∙ map-append (λ (row : Row). row.key) (listed_rows rows (take i es))
    (cons_option (rows (get_or es i d).1) [])

pub key_some : (rows : Place → Option Row) (es : List (ℕ × Place)) (i : ℕ) (d : ℕ × Place)
    (old new : List ℕ) (row : Row) → i < length es
    → old ≡ listed_keys rows (take i es) → rows (get_or es i d).1 ≡ Some row
    → new ≡ old ++ row.key ∷ [] → new ≡ listed_keys rows (take (i + 1) es)
key_some rows es i d old new row low so is e =
    e ∙ ap (λ (ks : List ℕ). ks ++ row.key ∷ []) so
    ∙ sym
    (key_more rows es i d low
    ∙ ap
    (λ (o : Option Row). listed_keys rows (take i es)
    ++ map (λ (row : Row). row.key) (cons_option o [])) is)

pub key_none :
    (rows : Place → Option Row) (es : List (ℕ × Place)) (i : ℕ) (d : ℕ × Place) (old new : List ℕ)
    → i < length es
    → old ≡ listed_keys rows (take i es) → rows (get_or es i d).1 ≡ None → new ≡ old
    → new ≡ listed_keys rows (take (i + 1) es)
key_none rows es i d old new low so is e =
    e ∙ so
    ∙ sym
    (key_more rows es i d low
    ∙ ap
    (λ (o : Option Row). listed_keys rows (take i es)
    ++ map (λ (row : Row). row.key) (cons_option o [])) is
    ∙ append-nil (listed_keys rows (take i es)))
