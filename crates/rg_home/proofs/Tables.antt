-- Rows by place and rows by key that are the same are a table too.
use Rattle.std.proofs.Common.{◌≡◌, ℕ, Option, Some, sym, ◌∙◌}
use Rattle.rg_base.specs.declared.place.Place.{Place}
use Rattle.rg_base.specs.declared.row.Row.{Row as TableRow}
use Rattle.rg_home.specs.Table.{IsTable}

pub table_same : (rows rows2 : Place → Option TableRow) (keys keys2 : ℕ → Option TableRow)
    → ((p : Place) → rows2 p ≡ rows p) → ((k : ℕ) → keys2 k ≡ keys k) → IsTable rows keys
    → IsTable rows2 keys2
table_same rows rows2 keys keys2 is are tab = record {
  there = λ p r e. are r.key ∙ tab.there p r (sym (is p) ∙ e);
  placed = λ k r e. moved (tab.placed k r (sym (are k) ∙ e));
  once = λ p q r s e f. tab.once p q r s (sym (is p) ∙ e) (sym (is q) ∙ f);
}
  where
    moved : {k : ℕ} {r : TableRow} → (r.key ≡ k) × (p : Place) × (rows p ≡ Some r)
        → (r.key ≡ k) × (p : Place) × (rows2 p ≡ Some r)
    moved h = (h.0, h.1, is h.1 ∙ h.2)
